-- What the simulated flash does when chip select rises is what the bytes sent ask of the flash. Assumes nothing.
use Prim.Native.Nat.{ℕ, ◌+◌, ◌-◌, ◌*◌, ◌/◌, ◌≤◌, ◌<◌}
use mathlib.Core.Path.{◌≡◌, refl, sym, ap, ◌∙◌}
use mathlib.Core.Bool.{Bool, true, false, cond}
use mathlib.Core.Option.{none, some}
use mathlib.Core.List.{List, [], ◌∷◌}
use Rattle.std.specs.Prelude.{Option, Some, None}
use native.Mathlib.Omega.{arith}
use lib.Dec.{eqb, ltb}
use lib.ListN.{length, get_or, take, drop, length-drop}
use lib.Seq.{get_or-take, get_or-drop, length-take-le}
use borrow.Author.Tests.{lt-ltb, ltb-true, ltb-false, eqb-true, eqb-false, eq-eqb, ne_eqb}
use Rattle.power_cut.specs.Flash.{Array, Command, write_enable, write_disable, page_program, sector_erase, address_of, command_of, program_of, erase_of, Flash, flash, obey, execute, settles}
use Rattle.power_cut.specs.Flash as model
use Rattle.power_cut.specs.Controller.{Trace, still, quiet, idle}
use Rattle.power_cut.specs.Controller as controller
use Rattle.simulated_device.specs.Replies.{byte_at, address_in}
use Rattle.simulated_device.specs.Simulated.{no_words, with_config, accepted, refusal, programming, erasing, asked_for, within, done_from, latched, Executed, works, worked_on, executed}
use Rattle.simulated_device.specs.declared.Chip.{Chip}
use Rattle.simulated_device.specs.declared.Device.{Device}
use Rattle.simulated_device.specs.declared.work.Work.{Work}
use Rattle.simulated_device.proofs.Standing.{Holds, resting, working}
use Rattle.simulated_device.proofs.Worked.{Inside, inside, erase_worked, program_worked}

-- ---- what bytes ask for

abbrev address_from : List ℕ → ℕ
address_from bs = address_of (get_or bs 1 0) (get_or bs 2 0) (get_or bs 3 0)

-- none of the four commands with an effect, or one that is cut short
record Idle (bs : List ℕ) : Type 0 where
  nothing : (m : Array) (latch : Bool) → obey m latch (command_of bs) ≡ flash m latch none
  enables : get_or bs 0 0 ≡ 0x06 → length bs ≡ 0
  disables : get_or bs 0 0 ≡ 0x04 → length bs ≡ 0
  programs : get_or bs 0 0 ≡ 0x02 → length bs ≤ 4
  erases : get_or bs 0 0 ≡ 0xD8 → length bs ≤ 3

data Asks (bs : List ℕ) : Type 0 where
  to_enable : get_or bs 0 0 ≡ 0x06 → 0 < length bs → command_of bs ≡ write_enable → Asks bs
  to_disable : get_or bs 0 0 ≡ 0x04 → 0 < length bs → command_of bs ≡ write_disable → Asks bs
  to_program : get_or bs 0 0 ≡ 0x02 → 4 < length bs → command_of bs ≡ page_program (record { address = address_from bs; bytes = drop 4 bs }) → Asks bs
  to_erase : get_or bs 0 0 ≡ 0xD8 → 3 < length bs → command_of bs ≡ sector_erase (address_from bs) → Asks bs
  for_nothing : Idle bs → Asks bs

module _ (b : ℕ) (bs : List ℕ) where
  abbrev all : List ℕ
  all = b ∷ bs

  program_asks : b ≡ 0x02 → command_of all ≡ program_of bs → Asks all
  unfolding program_of obey
  program_asks h e = go bs refl
    where
      short : (rest : List ℕ) → bs ≡ rest → program_of rest ≡ model.nothing → length rest ≤ 3 → Asks all
      short rest f n p =
          for_nothing
          (record {
            nothing = λ m latch. rw (e, f, n);
            enables = λ x. absurd (omega arith);
            disables = λ x. absurd (omega arith);
            programs = λ x. rw f (omega arith);
            erases = λ x. absurd (omega arith);
          })

      go : (rest : List ℕ) → bs ≡ rest → Asks all
      go [] f = short [] f refl (omega arith)
      go (a₂ ∷ []) f = short (a₂ ∷ []) f refl (omega arith)
      go (a₂ ∷ a₁ ∷ []) f = short (a₂ ∷ a₁ ∷ []) f refl (omega arith)
      go (a₂ ∷ a₁ ∷ a₀ ∷ []) f = short (a₂ ∷ a₁ ∷ a₀ ∷ []) f refl (omega arith)
      go (a₂ ∷ a₁ ∷ a₀ ∷ d ∷ ds) f = rw f (to_program h (omega arith) (sym (rw (sym f) (sym (e ∙ ap program_of f)))))

  erase_asks : b ≡ 0xD8 → command_of all ≡ erase_of bs → Asks all
  unfolding erase_of obey
  erase_asks h e = go bs refl
    where
      short : (rest : List ℕ) → bs ≡ rest → erase_of rest ≡ model.nothing → length rest ≤ 2 → Asks all
      short rest f n p =
          for_nothing
          (record {
            nothing = λ m latch. rw (e, f, n);
            enables = λ x. absurd (omega arith);
            disables = λ x. absurd (omega arith);
            programs = λ x. absurd (omega arith);
            erases = λ x. rw f (omega arith);
          })

      go : (rest : List ℕ) → bs ≡ rest → Asks all
      go [] f = short [] f refl (omega arith)
      go (a₂ ∷ []) f = short (a₂ ∷ []) f refl (omega arith)
      go (a₂ ∷ a₁ ∷ []) f = short (a₂ ∷ a₁ ∷ []) f refl (omega arith)
      go (a₂ ∷ a₁ ∷ a₀ ∷ ds) f = rw f (to_erase h (omega arith) (sym (rw (sym f) (sym (e ∙ ap erase_of f)))))

  -- the tests of `command_of`, in order
  first_asks : Asks all
  unfolding command_of obey
  first_asks = six (eqb b 0x06) refl
    where
      other : (c : Command) → command_of all ≡ c → ((m : Array) (latch : Bool) → obey m latch c ≡ flash m latch none) → eqb b 0x06 ≡ false → eqb b 0x04 ≡ false
          → eqb b 0x02 ≡ false → eqb b 0xD8 ≡ false → Asks all
      other c e n e₆ e₄ e₂ e₈ =
          for_nothing
          (record {
            nothing = λ m latch. ap (obey m latch) e ∙ n m latch;
            enables = λ x. absurd (eqb-false b 0x06 e₆ x);
            disables = λ x. absurd (eqb-false b 0x04 e₄ x);
            programs = λ x. absurd (eqb-false b 0x02 e₂ x);
            erases = λ x. absurd (eqb-false b 0xD8 e₈ x);
          })

      last : (t u : Bool) → eqb b 0x05 ≡ t → eqb b 0x30 ≡ u → eqb b 0x06 ≡ false → eqb b 0x04 ≡ false → eqb b 0x02 ≡ false → eqb b 0xD8 ≡ false → Asks all
      last true u e₅ e₃ e₆ e₄ e₂ e₈ = other model.status_read (simp (e₆, e₄, e₂, e₈, e₅)) (λ m latch. refl) e₆ e₄ e₂ e₈
      last false true e₅ e₃ e₆ e₄ e₂ e₈ = other model.clear_status (simp (e₆, e₄, e₂, e₈, e₅, e₃)) (λ m latch. refl) e₆ e₄ e₂ e₈
      last false false e₅ e₃ e₆ e₄ e₂ e₈ = other model.nothing (simp (e₆, e₄, e₂, e₈, e₅, e₃)) (λ m latch. refl) e₆ e₄ e₂ e₈

      eight : (t : Bool) → eqb b 0xD8 ≡ t → eqb b 0x06 ≡ false → eqb b 0x04 ≡ false → eqb b 0x02 ≡ false → Asks all
      eight true e₈ e₆ e₄ e₂ = erase_asks (eqb-true b 0xD8 e₈) (simp (e₆, e₄, e₂, e₈))
      eight false e₈ e₆ e₄ e₂ = last (eqb b 0x05) (eqb b 0x30) refl refl e₆ e₄ e₂ e₈

      two : (t : Bool) → eqb b 0x02 ≡ t → eqb b 0x06 ≡ false → eqb b 0x04 ≡ false → Asks all
      two true e₂ e₆ e₄ = program_asks (eqb-true b 0x02 e₂) (simp (e₆, e₄, e₂))
      two false e₂ e₆ e₄ = eight (eqb b 0xD8) refl e₆ e₄ e₂

      four : (t : Bool) → eqb b 0x04 ≡ t → eqb b 0x06 ≡ false → Asks all
      four true e₄ e₆ = to_disable (eqb-true b 0x04 e₄) (omega arith) (simp (e₆, e₄))
      four false e₄ e₆ = two (eqb b 0x02) refl e₆ e₄

      six : (t : Bool) → eqb b 0x06 ≡ t → Asks all
      six true e₆ = to_enable (eqb-true b 0x06 e₆) (omega arith) (simp e₆)
      six false e₆ = four (eqb b 0x04) refl e₆

asks : (bs : List ℕ) → Asks bs
unfolding command_of obey
asks [] =
    for_nothing
    (record { nothing = λ m latch. refl; enables = λ x. refl; disables = λ x. refl; programs = λ x. omega arith; erases = λ x. omega arith })
asks (b ∷ bs) = first_asks b bs

-- ---- what comes of it

-- the flash goes on as the simulated one does, from what the command made of it, or the simulated one refuses
pub data Outcome (d : Device) (v : ℕ) (array : List ℕ) (f : Flash) : Executed → Type 0 where
  obeyed : {k : Chip} {array₁ : List ℕ} {g : Flash} → Holds k d.choices.base array₁ g
      → ((c : ℕ) (t u : List (List ℕ)) (w r : List ℕ) → Trace (controller.device c t u w r f) [] (controller.device c t u w r g))
      → Outcome d v array f (record { written = accepted (with_config d v no_words k); array = array₁ })
  stopped : Outcome d v array f (record { written = refusal d; array = array })

-- work that shows as busy so often, or not at all
begins : (d : Device) (v : ℕ) (array array₁ : List ℕ) (m : Array) (w : model.Work) → ((x : ℕ) → model.done w m x ≡ byte_at array₁ d.choices.base x)
    → Outcome d v array (flash m false (some w)) (record { written = accepted (with_config d v no_words (record { latch = false; busy = d.choices.busy_reads })); array = array₁ })
begins d v array array₁ m w h = go (eqb d.choices.busy_reads 0) refl
  where
    go : (b : Bool) → eqb d.choices.busy_reads 0 ≡ b
        → Outcome d v array (flash m false (some w)) (record { written = accepted (with_config d v no_words (record { latch = false; busy = d.choices.busy_reads })); array = array₁ })
    go true e = obeyed {k = record { latch = false; busy = d.choices.busy_reads }} (resting (eqb-true d.choices.busy_reads 0 e) h) (λ c t u z r. quiet (idle settles) still)
    go false e =
        let n = eqb-false d.choices.busy_reads 0 e in
        let p : 0 < d.choices.busy_reads = omega (arith, n) in
        obeyed {k = record { latch = false; busy = d.choices.busy_reads }} (working p h) (λ c t u z r. still)

-- work on a part of the array, or a refusal
works_out : (d : Device) (v : ℕ) (x : Work) (sent array : List ℕ) (m : Array) (w : model.Work)
    → (Inside x d.choices.base (length array) → (y : ℕ) → model.done w m y ≡ byte_at (done_from x.size 0 x.effect (x.target - d.choices.base) d.tx.bytes sent array) d.choices.base y)
    → Outcome d v array (flash m false (some w)) (works d v x sent array)
works_out d v x sent array m w h = go (within x d.choices.base (length array)) refl
  where
    go : (b : Bool) → within x d.choices.base (length array) ≡ b
        → Outcome d v array (flash m false (some w)) (cond b (record { written = accepted (with_config d v no_words (record { latch = false; busy = d.choices.busy_reads })); array = done_from x.size 0 x.effect (x.target - d.choices.base) d.tx.bytes sent array }) (record { written = refusal d; array = array }))
    go true e = begins d v array _ m w (h (inside x d.choices.base (length array) e))
    go false e = stopped

-- ---- chip select rises

module _ (d : Device) (v : ℕ) (sent array : List ℕ) (room : d.tx.bytes ≤ length sent) where
  abbrev bytes : ℕ
  bytes = d.tx.bytes

  abbrev bs : List ℕ
  bs = take d.tx.bytes sent

  count : length bs ≡ bytes
  count = length-take-le d.tx.bytes sent room

  sent_at : (i : ℕ) → i < bytes → get_or bs i 0 ≡ get_or sent i 0
  sent_at i p = get_or-take d.tx.bytes sent i 0 p

  address_is : 3 < bytes → address_from bs ≡ address_in sent
  address_is p = rw (sent_at 1 (omega arith), sent_at 2 (omega arith), sent_at 3 (omega arith))

  data_at : (k : ℕ) → k < length (drop 4 bs) → get_or (drop 4 bs) k 0 ≡ get_or sent (k + 4) 0
  data_at k p =
      let n : length (drop 4 bs) ≡ bytes - 4 = length-drop 4 bs ∙ ap (λ (z : ℕ). z - 4) count in
      let e : 4 + k ≡ k + 4 = omega arith in
      get_or-drop 4 bs k 0 ∙ (rw e (sent_at (k + 4) (omega (arith, n))))

  module _ (idle₁ : d.chip.busy ≡ 0) (m : Array) (old : (x : ℕ) → m x ≡ byte_at array d.choices.base x) where
    -- a command without work: the latch is what it makes of it
    no_work_lem : (latch : Bool) → asked_for d.chip bytes sent ≡ None → latched d.chip bytes sent ≡ record { latch = latch; busy = 0 }
        → Outcome d v array (flash m latch none) (executed d v sent array)
    no_work_lem latch e f = rw (e, f) (obeyed {k = record { latch = latch; busy = 0 }} (resting refl old) (λ c t u w r. still))

    chip_is : (latch : Bool) → d.chip.latch ≡ latch → d.chip ≡ record { latch = latch; busy = 0 }
    chip_is latch e = rw (sym e, sym idle₁)

    no_target : (get_or sent 0 0 ≡ 0x02 → bytes ≤ 4) → (get_or sent 0 0 ≡ 0xD8 → bytes ≤ 3) → asked_for d.chip bytes sent ≡ None
    no_target p q = go (eqb d.chip.busy 0) d.chip.latch (eqb (get_or sent 0 0) 0x02) (ltb 4 bytes) (eqb (get_or sent 0 0) 0xD8) (ltb 3 bytes) refl refl refl refl
      where
        go : (b l t t₄ u u₃ : Bool) → eqb (get_or sent 0 0) 0x02 ≡ t → ltb 4 bytes ≡ t₄ → eqb (get_or sent 0 0) 0xD8 ≡ u → ltb 3 bytes ≡ u₃
            → cond b (cond l (cond t (cond t₄ (Some (programming (address_in sent))) None) (cond u (cond u₃ (Some (erasing (address_in sent))) None) None)) None) None ≡ None
        go false l t t₄ u u₃ e₂ e₄ e₈ e₃ = refl
        go true false t t₄ u u₃ e₂ e₄ e₈ e₃ = refl
        go true true true true u u₃ e₂ e₄ e₈ e₃ =
            let x = p (eqb-true (get_or sent 0 0) 0x02 e₂) in
            let y = ltb-true 4 bytes e₄ in
            absurd (omega arith)
        go true true true false u u₃ e₂ e₄ e₈ e₃ = refl
        go true true false t₄ true true e₂ e₄ e₈ e₃ =
            let x = q (eqb-true (get_or sent 0 0) 0xD8 e₈) in
            let y = ltb-true 3 bytes e₃ in
            absurd (omega arith)
        go true true false t₄ true false e₂ e₄ e₈ e₃ = refl
        go true true false t₄ false u₃ e₂ e₄ e₈ e₃ = refl

    same_latch : (get_or sent 0 0 ≡ 0x06 → bytes ≡ 0) → (get_or sent 0 0 ≡ 0x04 → bytes ≡ 0) → latched d.chip bytes sent ≡ d.chip
    same_latch p q = go (eqb d.chip.busy 0) (ltb 0 bytes) (eqb (get_or sent 0 0) 0x06) (eqb (get_or sent 0 0) 0x04) refl refl refl
      where
        go : (b n t u : Bool) → ltb 0 bytes ≡ n → eqb (get_or sent 0 0) 0x06 ≡ t → eqb (get_or sent 0 0) 0x04 ≡ u
            → cond b (cond n (cond t (record { latch = true; busy = 0 }) (cond u (record { latch = false; busy = 0 }) d.chip)) d.chip) d.chip ≡ d.chip
        go false n t u e₀ e₆ e₄ = refl
        go true false t u e₀ e₆ e₄ = refl
        go true true true u e₀ e₆ e₄ =
            let x = p (eqb-true (get_or sent 0 0) 0x06 e₆) in
            let y = ltb-true 0 bytes e₀ in
            absurd (omega arith)
        go true true false true e₀ e₆ e₄ =
            let x = q (eqb-true (get_or sent 0 0) 0x04 e₄) in
            let y = ltb-true 0 bytes e₀ in
            absurd (omega arith)
        go true true false false e₀ e₆ e₄ = refl

    target : (w : Work) → asked_for d.chip bytes sent ≡ Some w → (mw : model.Work)
        → (Inside w d.choices.base (length array) → (y : ℕ) → model.done mw m y ≡ byte_at (done_from w.size 0 w.effect (w.target - d.choices.base) bytes sent array) d.choices.base y)
        → Outcome d v array (flash m false (some mw)) (executed d v sent array)
    target w e mw h =
        let is-work : executed d v sent array ≡ works d v w sent array = ap (λ (z : Option Work). worked_on d v z sent array) e in
        rw is-work (works_out d v w sent array m mw h)

    -- page program
    programs : get_or sent 0 0 ≡ 0x02 → 4 < bytes → (latch : Bool) → d.chip.latch ≡ latch
        → Outcome d v array (obey m latch (page_program (record { address = address_from bs; bytes = drop 4 bs }))) (executed d v sent array)
    unfolding obey
    programs h p true l =
        let e : asked_for d.chip bytes sent ≡ Some (programming (address_in sent)) =
        rw (eq-eqb d.chip.busy 0 idle₁, l, eq-eqb (get_or sent 0 0) 0x02 h, lt-ltb 4 bytes p) in
        rw (address_is (omega arith))
        (target (programming (address_in sent)) e (model.programming (record { address = address_in sent; bytes = drop 4 bs }))
        (λ i. program_worked (address_in sent) d.choices.base bytes sent array (drop 4 bs) m i old (length-drop 4 bs ∙ ap (λ (z : ℕ). z - 4) count) data_at))
    programs h p false l =
        no_work_lem false (rw (eq-eqb d.chip.busy 0 idle₁, l))
        (same_latch (λ x. absurd (omega (arith, h, x))) (λ x. absurd (omega (arith, h, x))) ∙ chip_is false l)

    -- sector erase
    erases : get_or sent 0 0 ≡ 0xD8 → 3 < bytes → (latch : Bool) → d.chip.latch ≡ latch
        → Outcome d v array (obey m latch (sector_erase (address_from bs))) (executed d v sent array)
    unfolding obey
    erases h p true l =
        let n : get_or sent 0 0 ≡ 0x02 → ⊥ = (λ x. omega (arith, h, x)) in
        let e : asked_for d.chip bytes sent ≡ Some (erasing (address_in sent)) =
        rw (eq-eqb d.chip.busy 0 idle₁, l, ne_eqb (get_or sent 0 0) 0x02 n, eq-eqb (get_or sent 0 0) 0xD8 h, lt-ltb 3 bytes p) in
        rw (address_is p)
        (target (erasing (address_in sent)) e (model.erasing (address_in sent / 65536 * 65536) 65536)
        (λ i. erase_worked (address_in sent) d.choices.base bytes sent array m i old))
    erases h p false l =
        no_work_lem false (rw (eq-eqb d.chip.busy 0 idle₁, l))
        (same_latch (λ x. absurd (omega (arith, h, x))) (λ x. absurd (omega (arith, h, x))) ∙ chip_is false l)

    obeys : Asks bs → Outcome d v array (obey m d.chip.latch (command_of bs)) (executed d v sent array)
    unfolding obey
    obeys (to_enable h p e) =
        let f : get_or sent 0 0 ≡ 0x06 = sym (sent_at 0 (omega (arith, count))) ∙ h in
        rw e
        (no_work_lem true (no_target (λ x. absurd (omega (arith, f, x))) (λ x. absurd (omega (arith, f, x))))
        (rw (eq-eqb d.chip.busy 0 idle₁, lt-ltb 0 bytes (omega (arith, count)), eq-eqb (get_or sent 0 0) 0x06 f)))
    obeys (to_disable h p e) =
        let f : get_or sent 0 0 ≡ 0x04 = sym (sent_at 0 (omega (arith, count))) ∙ h in
        let n : get_or sent 0 0 ≡ 0x06 → ⊥ = (λ x. omega (arith, f, x)) in
        rw e
        (no_work_lem false (no_target (λ x. absurd (omega (arith, f, x))) (λ x. absurd (omega (arith, f, x))))
        (rw (eq-eqb d.chip.busy 0 idle₁, lt-ltb 0 bytes (omega (arith, count)), ne_eqb (get_or sent 0 0) 0x06 n, eq-eqb (get_or sent 0 0) 0x04 f)))
    obeys (to_program h p e) = rw e (programs (sym (sent_at 0 (omega (arith, count))) ∙ h) (omega (arith, count)) d.chip.latch refl)
    obeys (to_erase h p e) = rw e (erases (sym (sent_at 0 (omega (arith, count))) ∙ h) (omega (arith, count)) d.chip.latch refl)
    obeys (for_nothing i) =
        rw (i.nothing m d.chip.latch)
        (no_work_lem d.chip.latch (no_target (short 0x02 4 i.programs) (short 0xD8 3 i.erases))
        (same_latch (empty 0x06 i.enables) (empty 0x04 i.disables) ∙ chip_is d.chip.latch refl))
      where
        short : (n k : ℕ) → (get_or bs 0 0 ≡ n → length bs ≤ k) → get_or sent 0 0 ≡ n → bytes ≤ k
        short n k f x = go (ltb 0 bytes) refl
          where
            go : (b : Bool) → ltb 0 bytes ≡ b → bytes ≤ k
            go true e = let p = f (sent_at 0 (ltb-true 0 bytes e) ∙ x) in omega (arith, count)
            go false e = let p = ltb-false 0 bytes e in omega arith

        empty : (n : ℕ) → (get_or bs 0 0 ≡ n → length bs ≡ 0) → get_or sent 0 0 ≡ n → bytes ≡ 0
        empty n f x = let p = short n 0 (λ y. let z = f y in omega arith) x in omega arith

-- what the simulated flash makes of the bytes sent, against what the flash makes of them
pub executes : (d : Device) (v : ℕ) (sent array : List ℕ) (f : Flash) → d.tx.bytes ≤ length sent → Holds d.chip d.choices.base array f
    → Outcome d v array (execute f (take d.tx.bytes sent)) (executed d v sent array)
unfolding execute
executes d v sent array f room (resting {m} z old) = obeys d v sent array room z m old (asks (take d.tx.bytes sent))
executes d v sent array f room (working {m} {w} z old) =
    let n : d.chip.busy ≡ 0 → ⊥ = (λ e. omega arith) in
    rw (ne_eqb d.chip.busy 0 n, ne_eqb d.chip.busy 0 n) (obeyed {k = d.chip} {array₁ = array} (working z old) (λ c t u x r. still))
