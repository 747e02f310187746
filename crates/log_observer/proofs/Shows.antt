-- The watch by numbers shows what the lists say, of every log with fewer than 2^30 accesses: so many send fewer than 2^32 bytes in a transfer.
-- Assumes nothing.
use Rattle.std.specs.Prelude.{Option, Some, Ok}
use Rattle.std.proofs.Common.{◌≡◌, ℕ, zero, suc, ◌+◌, ◌-◌, ◌%◌, ◌^◌, ◌<◌, ◌≤◌, Bool, true, false, eqb, List, [], ◌∷◌, ◌++◌, length, get_or, take, drop, sym, refl, ap, ◌∙◌, append_assoc, arith, length-append, length-take, ne_eqb, eqb-true}
use Rattle.zynq7000.specs.Access.{first_word, value_word, encode, Loggable}
use Rattle.zynq7000.specs.Bits.{is_set}
use Rattle.zynq7000.specs.declared.qspi.Access.{Access}
use Rattle.zynq7000.specs.declared.qspi.Access.TheVariants as access
use Rattle.access_log.specs.Log.{entry_at}
use Rattle.access_log.proofs.RoundTrip.{reads_back}
use Rattle.qspi_calls.specs.Chunks.{Chunk}
use Rattle.power_cut.specs.Controller.{register_at, bytes_out}
use Rattle.power_cut.specs.Observer.{Transfer, closed, opened, Observed, sends, takes, with_transfer, config_written, closing, enable_written, seen_write, seen_read, see, sees, observed}
use Rattle.power_cut.specs.Observer as observer
use Rattle.power_cut.specs.Statement.{total}
use Rattle.log_observer.specs.declared.Transfer as declared
use Rattle.log_observer.specs.declared.Watch.{Watch}
use Rattle.log_observer.specs.Watching.{take_reply, wrote, has_read, watched, watch_from, watch_of}
use Rattle.log_observer.specs.Watching as watching
use Rattle.log_observer.specs.Shown.{doubt_of, transfer_of, shown}
use Rattle.power_cut.proofs.Driver.{total_append}
use Rattle.log_observer.proofs.Bounds.{OctetsIn, sent_in, Within}
use Rattle.log_observer.proofs.Sending.{one_sent, two_sent, three_sent, four_sent, sends_octets, sends_most}
use Rattle.log_observer.proofs.Commands.{raised_shown, clean_shown}
use Rattle.log_observer.proofs.Following.{from_access, from_none}

-- ---- the register of an offset

data At : ℕ → Type 0 where
  at_config : At 0x00
  at_status : At 0x04
  at_enable : At 0x14
  at_rx : At 0x20
  at_four : At 0x1C
  at_one : At 0x80
  at_two : At 0x84
  at_three : At 0x88
  at_other : {o : ℕ} → eqb o 0x00 ≡ false → eqb o 0x04 ≡ false → eqb o 0x14 ≡ false → eqb o 0x20 ≡ false → eqb o 0x1C ≡ false → eqb o 0x80 ≡ false
      → eqb o 0x84 ≡ false → eqb o 0x88 ≡ false → At o

is_at : (o n : ℕ) → eqb o n ≡ true → At n → At o
is_at o n e a = rw (eqb-true o n e) a

register_at_lem : (o : ℕ) → At o
register_at_lem o = by-config (eqb o 0x00) refl
  where
    by_three : (t : Bool) → eqb o 0x88 ≡ t → eqb o 0x00 ≡ false → eqb o 0x04 ≡ false → eqb o 0x14 ≡ false → eqb o 0x20 ≡ false → eqb o 0x1C ≡ false
        → eqb o 0x80 ≡ false → eqb o 0x84 ≡ false → At o
    by_three true e a b c d f g h = is_at o 0x88 e at_three
    by_three false e a b c d f g h = at_other a b c d f g h e

    by_two : (t : Bool) → eqb o 0x84 ≡ t → eqb o 0x00 ≡ false → eqb o 0x04 ≡ false → eqb o 0x14 ≡ false → eqb o 0x20 ≡ false → eqb o 0x1C ≡ false
        → eqb o 0x80 ≡ false → At o
    by_two true e a b c d f g = is_at o 0x84 e at_two
    by_two false e a b c d f g = by_three (eqb o 0x88) refl a b c d f g e

    by_one : (t : Bool) → eqb o 0x80 ≡ t → eqb o 0x00 ≡ false → eqb o 0x04 ≡ false → eqb o 0x14 ≡ false → eqb o 0x20 ≡ false → eqb o 0x1C ≡ false → At o
    by_one true e a b c d f = is_at o 0x80 e at_one
    by_one false e a b c d f = by_two (eqb o 0x84) refl a b c d f e

    by-four : (t : Bool) → eqb o 0x1C ≡ t → eqb o 0x00 ≡ false → eqb o 0x04 ≡ false → eqb o 0x14 ≡ false → eqb o 0x20 ≡ false → At o
    by-four true e a b c d = is_at o 0x1C e at_four
    by-four false e a b c d = by_one (eqb o 0x80) refl a b c d e

    by-rx : (t : Bool) → eqb o 0x20 ≡ t → eqb o 0x00 ≡ false → eqb o 0x04 ≡ false → eqb o 0x14 ≡ false → At o
    by-rx true e a b c = is_at o 0x20 e at_rx
    by-rx false e a b c = by-four (eqb o 0x1C) refl a b c e

    by-enable : (t : Bool) → eqb o 0x14 ≡ t → eqb o 0x00 ≡ false → eqb o 0x04 ≡ false → At o
    by-enable true e a b = is_at o 0x14 e at_enable
    by-enable false e a b = by-rx (eqb o 0x20) refl a b e

    by-status : (t : Bool) → eqb o 0x04 ≡ t → eqb o 0x00 ≡ false → At o
    by-status true e a = is_at o 0x04 e at_status
    by-status false e a = by-enable (eqb o 0x14) refl a e

    by-config : (t : Bool) → eqb o 0x00 ≡ t → At o
    by-config true e = is_at o 0x00 e at_config
    by-config false e = by-status (eqb o 0x04) refl e

-- ---- a transfer closes

chunks_shown : (k q : List Chunk) → (length k % 2 ^ 32 + (doubt_of q).chunks) % 2 ^ 32 ≡ length (k ++ q) % 2 ^ 32
chunks_shown k [] = omega (arith, length-append k [])
chunks_shown k (c ∷ q) = omega (arith, length-append k (c ∷ q))

bytes_shown : (k q : List Chunk) → (total k % 2 ^ 32 + (doubt_of q).bytes) % 2 ^ 32 ≡ total (k ++ q) % 2 ^ 32
unfolding total
bytes_shown k [] = omega (arith, total_append k [])
bytes_shown k (c ∷ q) = omega (arith, total_append k (c ∷ q))

module _ (k : ℕ) (o : Observed) (m : Within k o) (few : k < 2 ^ 30 - 1) where
  abbrev t : Transfer
  t = o.transfer

  closed_shown : watching.closed (shown o) ≡ shown (see o (access.Write 0x14 0))
  unfolding see seen_write enable_written closing register_at
  closed_shown = go (observer.is_clean t) refl
    where
      go : (b : Bool) → observer.is_clean t ≡ b → watching.closed (shown o) ≡ shown (see o (access.Write 0x14 0))
      go true e = simp (clean_shown t m.octets, e, chunks_shown o.finished o.doubt, bytes_shown o.finished o.doubt)
      go false e = simp (clean_shown t m.octets, e)

  opened_shown : (v : ℕ) → watching.enabled (shown o) (suc v) ≡ shown (see o (access.Write 0x14 (suc v)))
  unfolding see seen_write enable_written register_at
  opened_shown v = simp (ne_eqb (suc v) 0 (λ e. omega arith))

  configured_shown : (v : ℕ) → watching.configured (shown o) v ≡ shown (see o (access.Write 0x00 v))
  unfolding see seen_write config_written register_at
  configured_shown v = simp (raised_shown o.up (is_set 10 v) t o.doubt m.octets)

  transfer_shown : (u : Transfer) (x : Option declared.Transfer) → x ≡ transfer_of u → watching.with_transfer (shown o) x ≡ shown (with_transfer u o)
  transfer_shown u x e = rw e

  room : sent_in t + 4 < 2 ^ 32
  room = omega (arith, m.small)

  takes_shown : (u : Transfer) (v : ℕ) → take_reply (transfer_of u) v ≡ transfer_of (takes v u)
  takes_shown closed v = refl
  takes_shown (opened sent reply) v = refl

  write_shown : {off : ℕ} → At off → (v : ℕ) → wrote (shown o) off v ≡ shown (see o (access.Write off v))
  unfolding see seen_write register_at
  write_shown at_config v = configured_shown v
  write_shown at_status v = refl
  write_shown at_enable zero = closed_shown
  write_shown at_enable (suc v) = opened_shown v
  write_shown at_rx v = refl
  write_shown at_four v = transfer_shown (sends (bytes_out 4 v) t) (watching.send_four (transfer_of t) v) (four_sent t v m.octets room)
  write_shown at_one v = transfer_shown (sends (bytes_out 1 v) t) (watching.send_one (transfer_of t) v) (one_sent t v m.octets room)
  write_shown at_two v = transfer_shown (sends (bytes_out 2 v) t) (watching.send_two (transfer_of t) v) (two_sent t v m.octets room)
  write_shown at_three v = transfer_shown (sends (bytes_out 3 v) t) (watching.send_three (transfer_of t) v) (three_sent t v m.octets room)
  write_shown (at_other a b c d f g h i) v = simp (a, b, c, d, f, g, h, i)

  read_shown : {off : ℕ} → At off → (v : ℕ) → has_read (shown o) off v ≡ shown (see o (access.Read off v))
  unfolding see seen_read register_at
  read_shown at_config v = refl
  read_shown at_status v = refl
  read_shown at_enable v = refl
  read_shown at_rx v = transfer_shown (takes v t) (take_reply (transfer_of t) v) (takes_shown t v)
  read_shown at_four v = refl
  read_shown at_one v = refl
  read_shown at_two v = refl
  read_shown at_three v = refl
  read_shown (at_other a b c d f g h i) v = simp (a, b, c, d, f, g, h, i)

  -- THEOREM. An access adds to the watch what it adds to the lists.
  pub shows_see : (a : Access) → watched (shown o) a ≡ shown (see o a)
  shows_see (access.Read off v) = read_shown (register_at_lem off) v
  shows_see (access.Write off v) = write_shown (register_at_lem off) v

-- ---- one access sends no more than four bytes

module _ (k : ℕ) (o : Observed) (m : Within k o) where
  -- the transfer at hand goes on, or another begins
  transfer_within : (u : Transfer) (h : Bool) (q f : List Chunk) → OctetsIn u → sent_in u ≤ sent_in o.transfer + 4 → Within (suc k) (record { transfer = u; up = h; doubt = q; finished = f })
  transfer_within u h q f p i = record { octets = p; small = omega (arith, m.small) }

  -- nothing is sent
  same_within : (h : Bool) (q f : List Chunk) → Within (suc k) (record { transfer = o.transfer; up = h; doubt = q; finished = f })
  same_within h q f = transfer_within o.transfer h q f m.octets (omega arith)

  sends_within : (n v : ℕ) → Within (suc k) (with_transfer (sends (bytes_out n v) o.transfer) o)
  sends_within n v = transfer_within (sends (bytes_out n v) o.transfer) _ _ _ (sends_octets n v o.transfer m.octets) (sends_most n v o.transfer)

  takes_octets : (u : Transfer) (v : ℕ) → OctetsIn u → OctetsIn (takes v u)
  takes_octets closed v p = tt
  takes_octets (opened sent reply) v p = p

  takes_most : (u : Transfer) (v : ℕ) → sent_in (takes v u) ≤ sent_in u + 4
  takes_most closed v = omega arith
  takes_most (opened sent reply) v = omega arith

  closing_within : (b : Bool) → Within (suc k) (closing b o)
  unfolding closing
  closing_within true = transfer_within closed _ _ _ tt (omega arith)
  closing_within false = transfer_within closed _ _ _ tt (omega arith)

  write_within : {off : ℕ} → At off → (v : ℕ) → Within (suc k) (see o (access.Write off v))
  unfolding see seen_write config_written enable_written register_at
  write_within at_config v = same_within _ _ _
  write_within at_status v = same_within _ _ _
  write_within at_enable zero = closing_within (observer.is_clean o.transfer)
  write_within at_enable (suc v) = transfer_within (opened [] observer.unread) _ _ _ tt (omega arith)
  write_within at_rx v = same_within _ _ _
  write_within at_four v = sends_within 4 v
  write_within at_one v = sends_within 1 v
  write_within at_two v = sends_within 2 v
  write_within at_three v = sends_within 3 v
  write_within (at_other a b c d f g h i) v = simp (a, b, c, d, f, g, h, i) (same_within _ _ _)

  read_within : {off : ℕ} → At off → (v : ℕ) → Within (suc k) (see o (access.Read off v))
  unfolding see seen_read register_at
  read_within at_config v = same_within _ _ _
  read_within at_status v = same_within _ _ _
  read_within at_enable v = same_within _ _ _
  read_within at_rx v = transfer_within (takes v o.transfer) _ _ _ (takes_octets o.transfer v m.octets) (takes_most o.transfer v)
  read_within at_four v = same_within _ _ _
  read_within at_one v = same_within _ _ _
  read_within at_two v = same_within _ _ _
  read_within at_three v = same_within _ _ _
  read_within (at_other a b c d f g h i) v = simp (a, b, c, d, f, g, h, i) (same_within _ _ _)

  pub within_see : (a : Access) → Within (suc k) (see o a)
  within_see (access.Read off v) = read_within (register_at_lem off) v
  within_see (access.Write off v) = write_within (register_at_lem off) v

-- ---- a log

-- from a place on, these accesses stand in the log
abbrev Holds : List ℕ → ℕ → List Access → Type 0
Holds log at [] = Unit {0}
Holds log at (a ∷ l) = (entry_at log at ≡ Some (Ok a)) × Holds log (suc at) l

module _ (log : List ℕ) where
  holds : (d : Access) (l : List Access) (at : ℕ) → ((j : ℕ) → j < length l → entry_at log (at + j) ≡ Some (Ok (get_or l j d))) → Holds log at l
  holds d [] at f = tt
  holds d (a ∷ l) at f =
      let here : at ≡ at + 0 = omega arith in
      let onward : (j : ℕ) → j < length l → entry_at log (suc at + j) ≡ Some (Ok (get_or l j d)) =
      λ j h. (let e : suc at + j ≡ at + suc j = omega arith in ap (λ (n : ℕ). entry_at log n) e ∙ f (suc j) (omega arith)) in
      (ap (λ (n : ℕ). entry_at log n) here ∙ f 0 (omega arith), holds d l (suc at) onward)

  follows : (l : List Access) (at : ℕ) (o : Observed) → Holds log at l → Within at o → at + length l < 2 ^ 30
      → watch_from (length l) log at (shown o) ≡ shown (sees o l)
  unfolding sees
  follows [] at o h m few = from_none log at (shown o)
  follows (a ∷ l) at o h m few =
      from_access (length l) log at (shown o) a h.0
      ∙ (ap (λ (w : Watch). watch_from (length l) log (suc at) w) (shows_see at o m (omega arith) a)
      ∙ follows l (suc at) (see o a) h.1 (within_see at o m a) (omega arith))

-- THEOREM. Of a log that begins with these accesses, whatever follows them, the watch of so many shows what they show.
pub shows_observed : (l : List Access) (rest : List ℕ) → Loggable l → length l < 2 ^ 30 → watch_of (encode l ++ rest) (length l) ≡ shown (observed l)
unfolding watch_of observed total
shows_observed l rest ok few =
    let d : Access = access.Read 0 0 in
    let begin : Within 0 observer.fresh = record { octets = tt; small = omega arith } in
    let stands : (j : ℕ) → j < length l → entry_at (encode l ++ rest) (0 + j) ≡ Some (Ok (get_or l j d)) =
    λ j h. (let e : 0 + j ≡ j = omega arith in ap (λ (n : ℕ). entry_at (encode l ++ rest) n) e ∙ reads_back d rest l j ok h) in
    follows (encode l ++ rest) l 0 observer.fresh (holds (encode l ++ rest) d l 0 stands) begin (omega arith)

-- ---- a cut

loggable_take : (k : ℕ) (l : List Access) → Loggable l → Loggable (take k l)
loggable_take zero l ok = tt
loggable_take (suc k) [] ok = tt
loggable_take (suc k) (a ∷ l) ok = (ok.0, loggable_take k l ok.1)

encode_cut : (k : ℕ) (l : List Access) → encode l ≡ encode (take k l) ++ encode (drop k l)
unfolding encode
encode_cut zero l = refl
encode_cut (suc k) [] = refl
encode_cut (suc k) (a ∷ l) = ap (λ (w : List ℕ). first_word a ∷ value_word a ∷ w) (encode_cut k l)

-- THEOREM. The watch of the first k accesses shows what a log that a cut ended there shows.
pub shows_cut : (k : ℕ) (l : List Access) (rest : List ℕ) → k ≤ length l → Loggable l → k < 2 ^ 30
    → watch_of (encode l ++ rest) k ≡ shown (observed (take k l))
shows_cut k l rest h ok few =
    let n : length (take k l) ≡ k = omega (arith, length-take k l, h) in
    let words : encode l ++ rest ≡ encode (take k l) ++ (encode (drop k l) ++ rest) =
    ap (λ (w : List ℕ). w ++ rest) (encode_cut k l) ∙ append_assoc (encode (take k l)) (encode (drop k l)) rest in
    ap (λ (w : List ℕ). watch_of w k) words
    ∙ (ap (λ (j : ℕ). watch_of (encode (take k l) ++ (encode (drop k l) ++ rest)) j) (sym n)
    ∙ shows_observed (take k l) (encode (drop k l) ++ rest) (loggable_take k l ok) (omega (arith, n)))
