-- A call over lists between two steps: what a step adds to the accesses made, and that a run is its first step and the run from there. Assumes nothing.
use Rattle.std.proofs.Common.{◌≡◌, ℕ, zero, suc, ◌+◌, ◌-◌, ◌*◌, ◌/◌, ◌<◌, ◌≤◌, Bool, true, false, ltb, leb, List, [], ◌∷◌, ◌++◌, length, get_or, drop, set, sym, refl, ap, ◌∙◌, append-nil, arith, length-append, drop_of_length-le, drop-cons, ltb-false, ltb-true, leb-false, leb-true}
use lib.Seq.{sets}
use Rattle.zynq7000.specs.Access.{encode}
use Rattle.zynq7000.specs.declared.qspi.Access.{Access}
use Rattle.zynq7000.specs.declared.qspi.Access.TheVariants as access
use Rattle.zynq7000.proofs.AccessLaws.{length_encode}
use Rattle.std.specs.Prelude.{Option, Some, None}
use Rattle.qspi_operation.specs.Machine.{Want, reads, writes, nothing, State, going, ended, want, next, status_in, Result, halt, logging, runs, reads_of}
use Rattle.qspi_operation.specs.Points.{Point, reached, wanted, tried, filled, room_for, step_at, access_if, access_at, rest}
use Rattle.qspi_operation.specs.Orders.{before}
use Rattle.qspi_operation.specs.Step.{is_going, reply_of, pick_reply}
use Rattle.qspi_operation.proofs.Verdicts.{no}

-- ---- lists

pub encode_append : (l m : List Access) → encode (l ++ m) ≡ encode l ++ encode m
unfolding encode
encode_append [] m = refl
encode_append (a ∷ l) m = rw (encode_append l m)

pub sets_more : (xs ys l : List ℕ) (i : ℕ) → sets (sets l i xs) (i + length xs) ys ≡ sets l i (xs ++ ys)
sets_more [] ys l i = let e : i + 0 ≡ i = omega arith in rw e
sets_more (x ∷ xs) ys l i = let e : i + suc (length xs) ≡ suc i + length xs = omega arith in rw e (sets_more xs ys (set l i x) (suc i))

-- two parts of a log, one after the other
pub logs_more : (l m : List Access) (log : List ℕ) (n : ℕ) → sets (sets log (2 * n) (encode l)) (2 * (n + length l)) (encode m) ≡ sets log (2 * n) (encode (l ++ m))
logs_more l m log n =
    let e : 2 * (n + length l) ≡ 2 * n + length (encode l) = omega (arith, length_encode l) in
    rw (e, sets_more (encode l) (encode m) log (2 * n), encode_append l m)

abbrev pub is_read : Access → ℕ
is_read (access.Read o v) = 1
is_read (access.Write o v) = 0

pub reads_last : (l : List Access) (a : Access) → reads_of (l ++ a ∷ []) ≡ reads_of l + is_read a
unfolding reads_of
reads_last [] (access.Read o v) = refl
reads_last [] (access.Write o v) = refl
reads_last (access.Read o v ∷ l) a = omega (arith, reads_last l a)
reads_last (access.Write o v ∷ l) a = reads_last l a

pub reads_few : (l : List Access) → reads_of l ≤ length l
unfolding reads_of
reads_few [] = omega arith
reads_few (access.Read o v ∷ l) = omega (arith, reads_few l)
reads_few (access.Write o v ∷ l) = omega (arith, reads_few l)

-- ---- a step

-- the accesses made after it
pub made_more : (room : ℕ) (r : Option ℕ) (p : Point) → (step_at room r p).made ≡ p.made ++ access_at room r p
made_more room r p = go (leb (2 * length p.made + 2) room) (wanted p) r
  where
    go : (b : Bool) (x : Want) (r : Option ℕ) → (room_for b x r p).made ≡ p.made ++ access_if b x r
    go false nothing r = sym (append-nil p.made)
    go false (reads o) r = sym (append-nil p.made)
    go false (writes o v) r = sym (append-nil p.made)
    go true nothing r = sym (append-nil p.made)
    go true (reads o) (Some v) = refl
    go true (reads o) None = sym (append-nil p.made)
    go true (writes o v) r = refl

-- an ended call stays where it is, and makes none
pub stays : (room : ℕ) (r : Option ℕ) (p : Point) → is_going p.answer ≡ false → (step_at room r p ≡ p) × (access_at room r p ≡ [])
stays room r p e = rw e (go (leb (2 * length p.made + 2) room))
  where
    go : (b : Bool) → (room_for b nothing r p ≡ p) × (access_if b nothing r ≡ [])
    go true = (refl, refl)
    go false = (refl, refl)

-- the log never grows past its room
pub step_short : (room : ℕ) (r : Option ℕ) (p : Point) → 2 * length p.made ≤ room → 2 * length (step_at room r p).made ≤ room
step_short room r p h = go (leb (2 * length p.made + 2) room) refl (wanted p) r
  where
    last : (a : Access) → leb (2 * length p.made + 2) room ≡ true → 2 * length (p.made ++ a ∷ []) ≤ room
    last a e = let n : length (p.made ++ a ∷ []) ≡ length p.made + 1 = length-append p.made (a ∷ []) in omega (arith, n, leb-true (2 * length p.made + 2) room e)

    go : (b : Bool) → leb (2 * length p.made + 2) room ≡ b → (x : Want) (r : Option ℕ) → 2 * length (room_for b x r p).made ≤ room
    go false e nothing r = h
    go false e (reads o) r = h
    go false e (writes o v) r = h
    go true e nothing r = h
    go true e (reads o) (Some v) = last (access.Read o v) e
    go true e (reads o) None = h
    go true e (writes o v) r = last (access.Write o v) e

-- ---- the rest of a call, ended ones included

abbrev pub rest_if : Bool → ℕ → List ℕ → Point → Result
rest_if true room rs p = rest room rs p
rest_if false room rs p = halt p.answer p.state (room / 2 - length p.made) (drop (reads_of p.made) rs)

abbrev pub rest_at : ℕ → List ℕ → Point → Result
rest_at room rs p = rest_if (is_going p.answer) room rs p

pub before_is : (l : List Access) (r : Result) → before l r ≡ record { log = l ++ r.log; answer = r.answer; state = r.state; room = r.room; unread = r.unread }
before_is [] r = refl
before_is (a ∷ l) r = ap (logging a) (before_is l r)

-- an ended run stays ended
pub over_runs : (n : ℕ) (a : State) (rs : List ℕ) → is_going (status_in a) ≡ false → runs n a rs ≡ halt (status_in a) a n rs
unfolding runs
over_runs n (going m a l taken brings k bs j) rs g = no (sym g)
over_runs zero (ended a vs bs j) rs g = refl
over_runs (suc n) (ended a vs bs j) rs g = refl

-- at a point that a script has reached, the rest is its run
pub rest_reached : (room : ℕ) (rs : List ℕ) (s : State) (l : List Access) → rest_at room rs (reached s l) ≡ runs (room / 2 - length l) s (drop (reads_of l) rs)
rest_reached room rs s l = go (is_going (status_in s)) refl
  where
    go : (b : Bool) → is_going (status_in s) ≡ b → rest_if b room rs (reached s l) ≡ runs (room / 2 - length l) s (drop (reads_of l) rs)
    go true e = refl
    go false e = sym (over_runs (room / 2 - length l) s (drop (reads_of l) rs) e)

module _ (room : ℕ) (rs : List ℕ) (p : Point) (some : want p.state ≡ nothing → ⊥) where
  abbrev at : ℕ
  at = reads_of p.made

  abbrev n : ℕ
  n = room / 2 - length p.made

  no_room : room < 2 * length p.made + 2 → (x : Want) → want p.state ≡ x → runs n p.state (drop at rs) ≡ rest_at room rs (filled x p)
  unfolding runs
  no_room h nothing e = absurd (some e)
  no_room h (reads o) e = let k : n ≡ 0 = omega (arith, h) in rw (k, e)
  no_room h (writes o v) e = let k : n ≡ 0 = omega (arith, h) in rw (k, e)

  -- one access more, in front
  one : (a : Access) (s : State) (us : List ℕ) (m : ℕ) → m ≡ room / 2 - length (p.made ++ a ∷ []) → us ≡ drop (reads_of (p.made ++ a ∷ [])) rs
      → logging a (runs m s us) ≡ logging a (rest_at room rs (reached s (p.made ++ a ∷ [])))
  one a s us m e f = ap (logging a) (ap (λ (z : ℕ). runs z s us) e ∙ ap (runs (room / 2 - length (p.made ++ a ∷ [])) s) f ∙ sym (rest_reached room rs s (p.made ++ a ∷ [])))

  fewer : (a : Access) (m : ℕ) → n ≡ suc m → m ≡ room / 2 - length (p.made ++ a ∷ [])
  fewer a m e = let k : length (p.made ++ a ∷ []) ≡ length p.made + 1 = length-append p.made (a ∷ []) in omega (arith, e, k)

  has_room : (m : ℕ) → n ≡ suc m → (x : Want) → want p.state ≡ x → runs n p.state (drop at rs) ≡ before (access_if true x (reply_of rs at)) (rest_at room rs (tried x (reply_of rs at) p))
  unfolding runs
  has_room m e nothing f = absurd (some f)
  has_room m e (writes o v) f =
      let k : reads_of (p.made ++ access.Write o v ∷ []) ≡ at = reads_last p.made (access.Write o v) ∙ (let z : at + 0 ≡ at = omega arith in z) in
      rw (e, f) (one (access.Write o v) (next p.state v) (drop at rs) m (fewer (access.Write o v) m e) (ap (λ (z : ℕ). drop z rs) (sym k)))
  has_room m e (reads o) f = go (ltb at (length rs)) refl
    where
      go : (b : Bool) → ltb at (length rs) ≡ b → runs n p.state (drop at rs) ≡ before (access_if true (reads o) (pick_reply b (Some (get_or rs at 0)) None)) (rest_at room rs (tried (reads o) (pick_reply b (Some (get_or rs at 0)) None) p))
      go true g =
          let v = get_or rs at 0 in
          let k : reads_of (p.made ++ access.Read o v ∷ []) ≡ suc at = reads_last p.made (access.Read o v) ∙ (let z : at + 1 ≡ suc at = omega arith in z) in
          rw (e, f, drop-cons rs at 0 (ltb-true at (length rs) g)) (one (access.Read o v) (next p.state v) (drop (suc at) rs) m (fewer (access.Read o v) m e) (ap (λ (z : ℕ). drop z rs) (sym k)))
      go false g = rw (drop_of_length-le rs {i = at} (ltb-false at (length rs) g), e, f)

  -- THEOREM. The rest of a call that goes on is the step at the next reply, and the rest from there.
  pub step_rest : is_going p.answer ≡ true → rest room rs p ≡ before (access_at room (reply_of rs at) p) (rest_at room rs (step_at room (reply_of rs at) p))
  step_rest g = rw g (go (leb (2 * length p.made + 2) room) refl)
    where
      filled_none : (x : Want) (r : Option ℕ) → access_if false x r ≡ []
      filled_none x r = refl

      go : (b : Bool) → leb (2 * length p.made + 2) room ≡ b → runs n p.state (drop at rs) ≡ before (access_if b (want p.state) (reply_of rs at)) (rest_at room rs (room_for b (want p.state) (reply_of rs at) p))
      go true e = let h = leb-true (2 * length p.made + 2) room e in has_room (n - 1) (omega (arith, h)) (want p.state) refl
      go false e = no_room (leb-false (2 * length p.made + 2) room e) (want p.state) refl
