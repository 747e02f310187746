-- Bytes sent one by one: their number, and the first four as a word, follow the list. Assumes nothing.
use Rattle.std.specs.Prelude.{Option}
use Rattle.std.proofs.Common.{◌≡◌, ℕ, ◌+◌, ◌/◌, ◌%◌, ◌^◌, ◌<◌, ◌≤◌, List, [], ◌∷◌, ◌++◌, length, take, refl, ap, ◌∙◌, append_assoc, arith, length-append, length-take, ne_eqb}
use Rattle.zedboard_bsp.specs.Words.{word_of, bytes_of}
use Rattle.power_cut.specs.Controller.{bytes_out}
use Rattle.power_cut.specs.Observer.{Transfer, closed, opened, sends}
use Rattle.log_observer.specs.declared.Transfer as declared
use Rattle.log_observer.specs.Watching.{head_with, push, send_one, send_two, send_three, send_four}
use Rattle.log_observer.specs.Shown.{transfer_of}
use Rattle.qspi_calls.proofs.WireOrder.{AllBytes}
use Rattle.power_cut.proofs.Fits.{bytes_take}
use Rattle.log_observer.proofs.Bounds.{octets_append, OctetsIn, sent_in}

-- the head with one more byte
head_snoc : (sent : List ℕ) (b : ℕ) → AllBytes sent → b < 256
    → head_with (word_of (take 4 sent)) (length sent) b ≡ word_of (take 4 (sent ++ b ∷ []))
head_snoc [] b o h = omega arith
head_snoc (x ∷ []) b o h = let hx : x < 256 = o.0 in omega arith
head_snoc (x ∷ y ∷ []) b o h =
    let hx : x < 256 = o.0 in
    let hy : y < 256 = o.1.0 in
    omega arith
head_snoc (x ∷ y ∷ z ∷ []) b o h =
    let hx : x < 256 = o.0 in
    let hy : y < 256 = o.1.0 in
    let hz : z < 256 = o.1.1.0 in
    omega arith
head_snoc (x ∷ y ∷ z ∷ t ∷ sent) b o h =
    let n = length (x ∷ y ∷ z ∷ t ∷ sent) in
    simp (ne_eqb n 0 (λ e. omega arith), ne_eqb n 1 (λ e. omega arith), ne_eqb n 2 (λ e. omega arith), ne_eqb n 3 (λ e. omega arith))

-- one more byte
push_snoc : (sent : List ℕ) (reply b : ℕ) → AllBytes sent → b < 256 → length sent + 1 < 2 ^ 32
    → push (transfer_of (opened sent reply)) b ≡ transfer_of (opened (sent ++ b ∷ []) reply)
push_snoc sent reply b o h m =
    let n : (length sent + 1) % 2 ^ 32 ≡ length (sent ++ b ∷ []) = omega (arith, length-append sent (b ∷ [])) in
    simp (head_snoc sent b o h, n)

-- ---- words of one to four bytes

module _ (sent : List ℕ) (reply v : ℕ) (o : AllBytes sent) (m : length sent + 4 < 2 ^ 32) where
  abbrev b0 : ℕ
  b0 = v % 256

  abbrev b1 : ℕ
  b1 = v / 2 ^ 8 % 256

  abbrev b2 : ℕ
  b2 = v / 2 ^ 16 % 256

  abbrev b3 : ℕ
  b3 = v / 2 ^ 24 % 256

  abbrev open_with : List ℕ → Option declared.Transfer
  open_with l = transfer_of (opened l reply)

  sent_one : send_one (open_with sent) v ≡ open_with (sent ++ b0 ∷ [])
  sent_one = push_snoc sent reply b0 o (omega arith) (omega arith)

  sent_two : send_two (open_with sent) v ≡ open_with (sent ++ b0 ∷ b1 ∷ [])
  sent_two =
      let e : push (open_with (sent ++ b0 ∷ [])) b1 ≡ open_with ((sent ++ b0 ∷ []) ++ b1 ∷ []) =
      push_snoc (sent ++ b0 ∷ []) reply b1 (octets_append sent (b0 ∷ []) o (omega arith, tt)) (omega arith) (omega (arith, length-append sent (b0 ∷ []))) in
      ap (λ (t : Option declared.Transfer). push t b1) sent_one ∙ (e ∙ ap open_with (append_assoc sent (b0 ∷ []) (b1 ∷ [])))

  sent_three : send_three (open_with sent) v ≡ open_with (sent ++ b0 ∷ b1 ∷ b2 ∷ [])
  sent_three =
      let e : push (open_with (sent ++ b0 ∷ b1 ∷ [])) b2 ≡ open_with ((sent ++ b0 ∷ b1 ∷ []) ++ b2 ∷ []) =
      push_snoc (sent ++ b0 ∷ b1 ∷ []) reply b2 (octets_append sent (b0 ∷ b1 ∷ []) o (omega arith, (omega arith, tt))) (omega arith)
      (omega (arith, length-append sent (b0 ∷ b1 ∷ []))) in
      ap (λ (t : Option declared.Transfer). push t b2) sent_two ∙ (e ∙ ap open_with (append_assoc sent (b0 ∷ b1 ∷ []) (b2 ∷ [])))

  sent_four : send_four (open_with sent) v ≡ open_with (sent ++ b0 ∷ b1 ∷ b2 ∷ b3 ∷ [])
  sent_four =
      let e : push (open_with (sent ++ b0 ∷ b1 ∷ b2 ∷ [])) b3 ≡ open_with ((sent ++ b0 ∷ b1 ∷ b2 ∷ []) ++ b3 ∷ []) =
      push_snoc (sent ++ b0 ∷ b1 ∷ b2 ∷ []) reply b3 (octets_append sent (b0 ∷ b1 ∷ b2 ∷ []) o (omega arith, (omega arith, (omega arith, tt)))) (omega arith)
      (omega (arith, length-append sent (b0 ∷ b1 ∷ b2 ∷ []))) in
      ap (λ (t : Option declared.Transfer). push t b3) sent_three ∙ (e ∙ ap open_with (append_assoc sent (b0 ∷ b1 ∷ b2 ∷ []) (b3 ∷ [])))

-- ---- in or outside a transfer

pub one_sent : (t : Transfer) (v : ℕ) → OctetsIn t → sent_in t + 4 < 2 ^ 32 → send_one (transfer_of t) v ≡ transfer_of (sends (bytes_out 1 v) t)
unfolding bytes_out
one_sent closed v o m = refl
one_sent (opened sent reply) v o m = sent_one sent reply v o m

pub two_sent : (t : Transfer) (v : ℕ) → OctetsIn t → sent_in t + 4 < 2 ^ 32 → send_two (transfer_of t) v ≡ transfer_of (sends (bytes_out 2 v) t)
unfolding bytes_out
two_sent closed v o m = refl
two_sent (opened sent reply) v o m = sent_two sent reply v o m

pub three_sent : (t : Transfer) (v : ℕ) → OctetsIn t → sent_in t + 4 < 2 ^ 32 → send_three (transfer_of t) v ≡ transfer_of (sends (bytes_out 3 v) t)
unfolding bytes_out
three_sent closed v o m = refl
three_sent (opened sent reply) v o m = sent_three sent reply v o m

pub four_sent : (t : Transfer) (v : ℕ) → OctetsIn t → sent_in t + 4 < 2 ^ 32 → send_four (transfer_of t) v ≡ transfer_of (sends (bytes_out 4 v) t)
unfolding bytes_out
four_sent closed v o m = refl
four_sent (opened sent reply) v o m = sent_four sent reply v o m

-- ---- what stays within bounds

out_octets : (v : ℕ) → AllBytes (bytes_of v)
out_octets v = (omega arith, (omega arith, (omega arith, (omega arith, tt))))

pub sends_octets : (n v : ℕ) (t : Transfer) → OctetsIn t → OctetsIn (sends (bytes_out n v) t)
unfolding bytes_out
sends_octets n v closed o = tt
sends_octets n v (opened sent reply) o = octets_append sent (bytes_out n v) o (bytes_take n (bytes_of v) (out_octets v))

pub sends_most : (n v : ℕ) (t : Transfer) → sent_in (sends (bytes_out n v) t) ≤ sent_in t + 4
unfolding bytes_out
sends_most n v closed = omega arith
sends_most n v (opened sent reply) = omega (arith, length-append sent (bytes_out n v), length-take n (bytes_of v))
