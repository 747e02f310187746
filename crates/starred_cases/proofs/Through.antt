-- What every run of a script gives, whatever the room and the replies are: the script has the same words to send on each of its ways, and
-- the accesses of a run take them off one by one. Assumes nothing.
use Prim.Native.Nat.{ℕ, zero, suc, ◌+◌, ◌≤◌, ◌<◌}
use mathlib.Core.Path.{◌≡◌, refl, ap, ◌∙◌}
use mathlib.Core.Bool.{Bool, true, false, cond}
use mathlib.Core.List.{List, [], ◌∷◌, ◌++◌, reverse}
use native.Mathlib.Omega.{arith}
use lib.Dec.{eqb}
use Rattle.qspi_transfer.specs.Wire.{waits}
use Rattle.qspi_script.specs.declared.Status.{Status}
use Rattle.qspi_operation.specs.Machine.{Action, write, modify, drain, reply, first, full, changed, again, ready, Want, reads, writes, nothing, want_at, stays, over, Script, ends, perform, repeats, counts, onward, State, going, ended, begin, proceed, moves, want, next, status_in, count_in, Result, no_room, made, runs, called}
use Rattle.qspi_script.specs.Answer.{number_of}
use Rattle.starred_cases.specs.Cases.{words_to}

-- the words that actions write to an offset, and then these
abbrev pub sending : ℕ → List Action → List ℕ → List ℕ
sending at [] ws = ws
sending at (write o v ∷ l) ws = cond (eqb o at) (v ∷ sending at l ws) (sending at l ws)
sending at (modify f ∷ l) ws = sending at l ws
sending at (drain ∷ l) ws = sending at l ws
sending at (reply twice ∷ l) ws = sending at l ws

module _ (at : ℕ) (Good : Status → ℕ → Type 0) where
  -- on every way the script sends these words and ends well, the count of bytes programmed included, or the state ends it
  pub data Through : Script → ℕ → List ℕ → Type 0 where
    stops : {a : Status} {vs ws : List ℕ} {n : ℕ} → 21 ≤ number_of a → Through (ends a vs) n ws
    arrives : {a : Status} {vs : List ℕ} {n : ℕ} → Good a n → Through (ends a vs) n []
    performs : {a : Action} {l : List Action} {brings : List ℕ → List ℕ} {k : List ℕ → Script} {n : ℕ} {ws : List ℕ} → ((rs : List ℕ) → Through (k rs) n ws)
        → Through (perform a l brings k) n (sending at (a ∷ l) ws)
    repeating : {a : Action} {l : List Action} {still : List ℕ → Bool} {k : List ℕ → Script} {n : ℕ} {ws : List ℕ} → sending at (a ∷ l) ws ≡ ws → ((rs : List ℕ) → Through (k rs) n ws)
        → Through (repeats a l still k) n ws
    counting : {j : ℕ} {s : Script} {n : ℕ} {ws : List ℕ} → Through s (n + j) ws → Through (counts j s) n ws

  -- where a run stands, with the words that are left
  data Stands : State → List ℕ → Type 0 where
    stopped : {a : Status} {vs bs ws : List ℕ} {n : ℕ} → 21 ≤ number_of a → Stands (ended a vs bs n) ws
    arrived : {a : Status} {vs bs : List ℕ} {n : ℕ} → Good a n → Stands (ended a vs bs n) []
    at_first : {a : Action} {l : List Action} {taken bs ws : List ℕ} {brings : List ℕ → List ℕ} {k : List ℕ → Script} {n : ℕ} → ((rs : List ℕ) → Through (k rs) n ws)
        → Stands (going first a l taken brings k bs n) (sending at (a ∷ l) ws)
    at_full : {l : List Action} {taken bs ws : List ℕ} {brings : List ℕ → List ℕ} {k : List ℕ → Script} {n : ℕ} → ((rs : List ℕ) → Through (k rs) n ws)
        → Stands (going full drain l taken brings k bs n) (sending at l ws)
    at_changed : {v : ℕ} {a : Action} {l : List Action} {taken bs ws : List ℕ} {brings : List ℕ → List ℕ} {k : List ℕ → Script} {n : ℕ} → ((rs : List ℕ) → Through (k rs) n ws)
        → Stands (going (changed v) a l taken brings k bs n) (sending at l ws)
    at_again : {twice : Bool} {l : List Action} {taken bs ws : List ℕ} {brings : List ℕ → List ℕ} {k : List ℕ → Script} {n : ℕ} → ((rs : List ℕ) → Through (k rs) n ws)
        → Stands (going again (reply twice) l taken brings k bs n) (sending at l ws)
    at_ready : {a : Action} {l : List Action} {taken bs ws : List ℕ} {brings : List ℕ → List ℕ} {k : List ℕ → Script} {n : ℕ} → ((rs : List ℕ) → Through (k rs) n ws)
        → Stands (going ready a l taken brings k bs n) (sending at l ws)

  begins : {c : Script} {n : ℕ} {ws : List ℕ} (bs : List ℕ) → Through c n ws → Stands (begin c bs n) ws
  begins bs (stops h) = stopped h
  begins bs (arrives g) = arrived g
  begins bs (performs t) = at_first t
  begins bs (repeating {a} {l} {still} {k} {n} {ws} e t) =
      let s : Stands (begin (repeats a l still k) bs n) (sending at (a ∷ l) ws) = at_first (λ rs. goes (still rs) (t rs)) in
      rw e at s
    where
      goes : (b : Bool) {s : Script} → Through s n ws → Through (onward b (repeats a l still k) s) n ws
      goes true u = repeating e t
      goes false u = u
  begins bs (counting t) = begins bs t

  proceeds : (l : List Action) (taken : List ℕ) (brings : List ℕ → List ℕ) (k : List ℕ → Script) (bs : List ℕ) (n : ℕ) (ws : List ℕ) → ((rs : List ℕ) → Through (k rs) n ws)
      → Stands (proceed l taken brings k bs n) (sending at l ws)
  proceeds [] taken brings k bs n ws t = begins (bs ++ brings (reverse taken)) (t (reverse taken))
  proceeds (a ∷ l) taken brings k bs n ws t = at_first t

  -- what comes of the access that is due: a read leaves the words, a write takes off its own, and where nothing is due none is left
  abbrev Steps : State → Want → List ℕ → Type 0
  Steps s nothing ws = number_of (status_in s) < 21 → ([] ≡ ws) × Good (status_in s) (count_in s)
  Steps s (reads o) ws = (v : ℕ) → Stands (next s v) ws
  Steps s (writes o v) ws = (us : List ℕ) × Stands (next s v) us × (cond (eqb o at) (v ∷ us) us ≡ ws)

  module _ (config : eqb 0x00 at ≡ false) where
    module _ (l : List Action) (taken : List ℕ) (brings : List ℕ → List ℕ) (k : List ℕ → Script) (bs : List ℕ) (n : ℕ) (ws : List ℕ) (t : (rs : List ℕ) → Through (k rs) n ws) where
      drained : (b : Bool) → Stands (moves (cond b (stays full) over) drain l taken brings k bs n) (sending at l ws)
      drained true = at_full t
      drained false = proceeds l taken brings k bs n ws t

      polled : (b twice : Bool) → Stands (moves (cond b (stays (cond twice again ready)) (stays first)) (reply twice) l taken brings k bs n) (sending at l ws)
      polled true true = at_again t
      polled true false = at_ready t
      polled false twice = at_first t

      polled_again_lem : (b twice : Bool) → Stands (moves (cond b (stays ready) (stays first)) (reply twice) l taken brings k bs n) (sending at l ws)
      polled_again_lem true twice = at_ready t
      polled_again_lem false twice = at_first t

      first_steps : (a : Action) → Steps (going first a l taken brings k bs n) (want_at first a) (sending at (a ∷ l) ws)
      first_steps (write o v) = (sending at l ws, proceeds l taken brings k bs n ws t, refl)
      first_steps (modify f) = λ v. at_changed t
      first_steps drain = λ v. drained (waits v)
      first_steps (reply twice) = λ v. polled (waits v) twice

    steps : {s : State} {ws : List ℕ} → Stands s ws → Steps s (want s) ws
    steps (stopped h) = λ i. absurd (omega arith)
    steps (arrived g) = λ i. (refl, g)
    steps (at_first {a} {l} {taken} {bs} {ws} {brings} {k} {n} t) = first_steps l taken brings k bs n ws t a
    steps (at_full t) = λ v. at_first t
    steps (at_changed {v} {a} {l} {taken} {bs} {ws} {brings} {k} {n} t) = (sending at l ws, proceeds l taken brings k bs n ws t, rw config)
    steps (at_again {twice} {l} {taken} {bs} {ws} {brings} {k} {n} t) = λ v. polled_again_lem l taken brings k bs n ws t (waits v) twice
    steps (at_ready {a} {l} {taken} {bs} {ws} {brings} {k} {n} t) = λ v. proceeds l (v ∷ taken) brings k bs n ws t

    -- unless the state ends the run, it has sent all the words and ends well
    abbrev Arrives : Result → List ℕ → Type 0
    Arrives r ws = number_of r.answer < 21 → (words_to at r.log ≡ ws) × Good r.answer (count_in r.state)

    no_room_arrives : (w : Want) (s : State) (ws rs : List ℕ) → Steps s w ws → Arrives (no_room w s rs) ws
    no_room_arrives nothing s ws rs y = y
    no_room_arrives (reads o) s ws rs y = λ i. absurd (omega arith)
    no_room_arrives (writes o v) s ws rs y = λ i. absurd (omega arith)

    made_arrives : (w : Want) (s : State) (ws : List ℕ) (room : ℕ) (rs : List ℕ) (run : State → List ℕ → Result) → Steps s w ws
        → ((s : State) (us rs : List ℕ) → Stands s us → Arrives (run s rs) us) → Arrives (made w s room rs run) ws
    made_arrives nothing s ws room rs run y h = y
    made_arrives (reads o) s ws room [] run y h = λ i. absurd (omega arith)
    made_arrives (reads o) s ws room (v ∷ rs) run y h = h (next s v) ws rs (y v)
    made_arrives (writes o v) s ws room rs run y h = λ i. let g = h (next s v) y.0 rs y.1 i in (ap (λ (z : List ℕ). cond (eqb o at) (v ∷ z) z) g.0 ∙ y.2, g.1)

    runs_arrive : (room : ℕ) (s : State) (ws rs : List ℕ) → Stands s ws → Arrives (runs room s rs) ws
    unfolding runs
    runs_arrive zero s ws rs h = no_room_arrives (want s) s ws rs (steps h)
    runs_arrive (suc room) s ws rs h = made_arrives (want s) s ws room rs (runs room) (steps h) (runs_arrive room)

    pub arrives_always : (c : Script) (ws : List ℕ) → Through c 0 ws → (room : ℕ) (rs : List ℕ) → Arrives (called c room rs) ws
    arrives_always c ws t room rs = runs_arrive room (begin c [] 0) ws rs (begins [] t)
