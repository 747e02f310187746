-- What a transfer is, told by its number of bytes and its first four, is what its bytes say. Assumes nothing.
use Rattle.std.proofs.Common.{◌≡◌, ℕ, ◌+◌, ◌-◌, ◌%◌, ◌^◌, ◌<◌, Bool, true, false, cond, not, ◌&&◌, eqb, List, [], ◌∷◌, ◌++◌, length, get_or, take, sym, refl, ap, ◌∙◌, arith, length-append, lt-ltb, ne_eqb, eqb-true}
use Rattle.zynq7000.specs.Bits.{is_set}
use Rattle.zedboard_bsp.specs.Words.{word_of, top_byte}
use Rattle.zedboard_bsp.proofs.WireBytes.{read_back}
use Rattle.qspi_calls.specs.Chunks.{Chunk}
use Rattle.power_cut.specs.Flash.{command_of, program_of, erase_of, address_of}
use Rattle.power_cut.specs.Controller as controller
use Rattle.power_cut.specs.Observer.{Transfer, closed, opened, named}
use Rattle.power_cut.specs.Observer as observer
use Rattle.log_observer.specs.Watching.{is_status_read, is_clean, address_in, joined, commanded, raised}
use Rattle.log_observer.specs.Shown.{doubt_of, opened_of, transfer_of}
use Rattle.power_cut.specs.Statement.{total}
use Rattle.power_cut.proofs.Driver.{total_snoc}
use Rattle.qspi_calls.proofs.WireOrder.{AllBytes}
use Rattle.log_observer.proofs.Bounds.{OctetsIn}

-- ---- page program

named_erase : (bs : List ℕ) (q : List Chunk) → named (erase_of bs) q ≡ q
unfolding erase_of
named_erase [] q = refl
named_erase (a ∷ []) q = refl
named_erase (a ∷ b ∷ []) q = refl
named_erase (a ∷ b ∷ c ∷ bs) q = refl

-- of the commands only 02 names a chunk
named_first : (b : ℕ) (bs : List ℕ) (q : List Chunk) → named (command_of (b ∷ bs)) q ≡ cond (eqb b 0x02) (named (program_of bs) q) q
unfolding command_of
named_first b bs q = six (eqb b 0x06) refl
  where
    last : (t u : Bool) → eqb b 0x06 ≡ false → eqb b 0x04 ≡ false → eqb b 0x02 ≡ false → eqb b 0xD8 ≡ false → eqb b 0x05 ≡ t → eqb b 0x30 ≡ u
        → named (command_of (b ∷ bs)) q ≡ cond (eqb b 0x02) (named (program_of bs) q) q
    last true u e6 e4 e2 eD e5 e3 = simp (e6, e4, e2, eD, e5)
    last false true e6 e4 e2 eD e5 e3 = simp (e6, e4, e2, eD, e5, e3)
    last false false e6 e4 e2 eD e5 e3 = simp (e6, e4, e2, eD, e5, e3)

    erase : (t : Bool) → eqb b 0x06 ≡ false → eqb b 0x04 ≡ false → eqb b 0x02 ≡ false → eqb b 0xD8 ≡ t
        → named (command_of (b ∷ bs)) q ≡ cond (eqb b 0x02) (named (program_of bs) q) q
    erase true e6 e4 e2 eD = simp (e6, e4, e2, eD) (named_erase bs q)
    erase false e6 e4 e2 eD = last (eqb b 0x05) (eqb b 0x30) e6 e4 e2 eD refl refl

    two : (t : Bool) → eqb b 0x06 ≡ false → eqb b 0x04 ≡ false → eqb b 0x02 ≡ t
        → named (command_of (b ∷ bs)) q ≡ cond (eqb b 0x02) (named (program_of bs) q) q
    two true e6 e4 e2 = simp (e6, e4, e2)
    two false e6 e4 e2 = erase (eqb b 0xD8) e6 e4 e2 refl

    four : (t : Bool) → eqb b 0x06 ≡ false → eqb b 0x04 ≡ t → named (command_of (b ∷ bs)) q ≡ cond (eqb b 0x02) (named (program_of bs) q) q
    four true e6 e4 =
        let h : b ≡ 0x04 = eqb-true b 0x04 e4 in
        simp (e6, e4, ne_eqb b 0x02 (λ e. omega arith))
    four false e6 e4 = two (eqb b 0x02) e6 e4 refl

    six : (t : Bool) → eqb b 0x06 ≡ t → named (command_of (b ∷ bs)) q ≡ cond (eqb b 0x02) (named (program_of bs) q) q
    six true e6 =
        let h : b ≡ 0x06 = eqb-true b 0x06 e6 in
        simp (e6, ne_eqb b 0x02 (λ e. omega arith))
    six false e6 = four (eqb b 0x04) e6 refl

-- one of two that are the same
either : {A : Type 0} (t : Bool) (x : A) → cond t x x ≡ x
either true x = refl
either false x = refl

-- no chunk is named where the bytes end before the data
none_named : (b : ℕ) (bs : List ℕ) (q : List Chunk) → named (program_of bs) q ≡ q → named (command_of (b ∷ bs)) q ≡ q
none_named b bs q e = named_first b bs q ∙ (ap (λ (p : List Chunk). cond (eqb b 0x02) p q) e ∙ either (eqb b 0x02) q)

low_byte : (a b c d : ℕ) → a < 256 → word_of (a ∷ b ∷ c ∷ d ∷ []) % 256 ≡ a
low_byte a b c d ha = omega arith

address_read : (a b c d : ℕ) → a < 256 → b < 256 → c < 256 → d < 256 → address_in (word_of (a ∷ b ∷ c ∷ d ∷ [])) ≡ address_of b c d
address_read a b c d ha hb hc hd = ap (λ (l : List ℕ). address_of (get_or l 1 0) (get_or l 2 0) (get_or l 3 0)) (read_back a b c d ha hb hc hd)

-- one more in doubt
joined_shown : (q : List Chunk) (c : Chunk) → joined (doubt_of q) c.address (length c.bytes) ≡ doubt_of (q ++ c ∷ [])
unfolding total
joined_shown [] c =
    let b : (0 + length c.bytes) % 2 ^ 32 ≡ total (c ∷ []) % 2 ^ 32 = omega arith in
    rw b
joined_shown (d ∷ q) c =
    let n : (length (d ∷ q) % 2 ^ 32 + 1) % 2 ^ 32 ≡ length (d ∷ (q ++ c ∷ [])) % 2 ^ 32 = omega (arith, length-append q (c ∷ [])) in
    let b : (total (d ∷ q) % 2 ^ 32 + length c.bytes) % 2 ^ 32 ≡ total (d ∷ (q ++ c ∷ [])) % 2 ^ 32 = omega (arith, total_snoc q c) in
    simp (n, b)

chosen : (t : Bool) (c : Chunk) (q : List Chunk) → cond t (joined (doubt_of q) c.address (length c.bytes)) (doubt_of q) ≡ doubt_of (cond t (q ++ c ∷ []) q)
chosen true c q = joined_shown q c
chosen false c q = refl

pub commanded_shown : (t : Transfer) (q : List Chunk) → OctetsIn t → commanded (transfer_of t) (doubt_of q) ≡ doubt_of (observer.commanded t q)
unfolding command_of program_of
commanded_shown closed q o = refl
commanded_shown (opened [] reply) q o = refl
commanded_shown (opened (a ∷ []) reply) q o = ap doubt_of (sym (none_named a [] q refl))
commanded_shown (opened (a ∷ b ∷ []) reply) q o = ap doubt_of (sym (none_named a (b ∷ []) q refl))
commanded_shown (opened (a ∷ b ∷ c ∷ []) reply) q o = ap doubt_of (sym (none_named a (b ∷ c ∷ []) q refl))
commanded_shown (opened (a ∷ b ∷ c ∷ d ∷ []) reply) q o = ap doubt_of (sym (none_named a (b ∷ c ∷ d ∷ []) q refl))
commanded_shown (opened (a ∷ b ∷ c ∷ d ∷ e ∷ bs) reply) q o =
    let chunk : Chunk = record { address = address_of b c d; bytes = e ∷ bs } in
    let behind : length (a ∷ b ∷ c ∷ d ∷ e ∷ bs) - 4 ≡ length (e ∷ bs) = omega arith in
    simp (behind, lt-ltb 4 (length (a ∷ b ∷ c ∷ d ∷ e ∷ bs)) (omega arith), low_byte a b c d o.0, address_read a b c d o.0 o.1.0 o.1.1.0 o.1.1.1.0)
    (chosen (eqb a 0x02) chunk q ∙ ap doubt_of (sym (named_first a (b ∷ c ∷ d ∷ e ∷ bs) q)))

pub raised_shown : (was is : Bool) (t : Transfer) (q : List Chunk) → OctetsIn t
    → raised was is (transfer_of t) (doubt_of q) ≡ doubt_of (observer.raised was is t q)
unfolding observer.raised
raised_shown true is t q o = refl
raised_shown false false t q o = refl
raised_shown false true t q o = commanded_shown t q o

-- ---- status

clean_cond : (s e b : Bool) → cond s (cond e false (not b)) false ≡ s && (not e && not b)
clean_cond true true b = refl
clean_cond true false b = refl
clean_cond false e b = refl

status_shown : (sent : List ℕ) (reply : ℕ) → AllBytes sent → is_status_read (opened_of sent reply) ≡ controller.is_status_read sent
unfolding controller.is_status_read
status_shown [] reply o = refl
status_shown (a ∷ []) reply o = refl
status_shown (a ∷ b ∷ bs) reply o =
    let low : word_of (take 4 (a ∷ b ∷ bs)) % 256 ≡ a = let h : a < 256 = o.0 in omega arith in
    simp (lt-ltb 1 (length (a ∷ b ∷ bs)) (omega arith), low)

pub clean_shown : (t : Transfer) → OctetsIn t → is_clean (transfer_of t) ≡ observer.is_clean t
unfolding observer.is_clean
clean_shown closed o = refl
clean_shown (opened sent reply) o =
    clean_cond (is_status_read (opened_of sent reply)) (is_set 6 (top_byte reply)) (is_set 0 (top_byte reply))
    ∙ ap (λ (s : Bool). s && (not (is_set 6 (top_byte reply)) && not (is_set 0 (top_byte reply)))) (status_shown sent reply o)
