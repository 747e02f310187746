-- A call over lists that has come to its end, transfer by whole transfer: a transfer's accesses come first and are whole, then those of what its replies decide. Assumes nothing.
use Rattle.std.proofs.Common.{◌≡◌, ℕ, ◌<◌, Bool, true, false, cond, List, [], ◌∷◌, ◌++◌, map, reverse, length, sym, refl, ap, ◌∙◌, subst, append-nil, arith}
use Rattle.zynq7000.specs.Access.{value_word}
use Rattle.zynq7000.specs.declared.qspi.Access.{Access}
use Rattle.zynq7000.specs.declared.qspi.Access.TheVariants as access
use Rattle.qspi_script.specs.declared.Status.{Status}
use Rattle.qspi_script.specs.declared.Status.TheVariants.{Done}
use Rattle.qspi_transfer.specs.Wire.{waits}
use Rattle.qspi_operation.specs.Machine.{Action, Midway, first, full, write, drain, reply, Want, reads, writes, nothing, want_at, Progress, stays, over, takes, progress, Transfer, replicate, replying, opening, Script, ends, none, exchange, State, going, ended, begin, proceed, moves, want, next, values_in, Matches, m_read, m_write, Makes, after}
use Rattle.qspi_operation.specs.Whole.{Whole}
use Rattle.qspi_operation.proofs.Orders.{after_append}
use Rattle.qspi_operation.proofs.Stops.{some_due}

-- the accesses of a script from its beginning on, and where they lead
pub record Plays (c : Script) (bs : List ℕ) (n : ℕ) (log : List Access) (e : State) : Type 0 where
  pub makes : Makes (begin c bs n) log
  pub there : after (begin c bs n) log ≡ e

-- where nothing is due no access is made
none_due : {w : Want} {a : Access} → w ≡ nothing → Matches w a → ⊥
none_due e m_read = let z : ◌≡◌ {A = ℕ} 0 1 = cc in omega (arith, z)
none_due e m_write = let z : ◌≡◌ {A = ℕ} 0 1 = cc in omega (arith, z)

pub over_makes : (l : List Access) (s : State) → want s ≡ nothing → Makes s l → l ≡ []
over_makes [] s e m = refl
over_makes (x ∷ l) s e m = absurd (none_due e m.0)

-- a script that ends at once
pub plays_end : (a : Status) (vs bs : List ℕ) (n : ℕ) (log : List Access) (e : State) → Plays (ends a vs) bs n log e → (log ≡ []) × (ended a vs bs n ≡ e)
plays_end a vs bs n log e p =
    let z : log ≡ [] = over_makes log (ended a vs bs n) refl p.makes in
    (z, sym (ap (after (ended a vs bs n)) z) ∙ p.there)

-- ---- one transfer first

abbrev gives : List ℕ → Script
gives rs = ends Done rs

module _ (k : List ℕ → Script) (bs : List ℕ) (n : ℕ) where
  -- the transfer as it goes on, and by itself
  abbrev inside : Midway → Action → List Action → List ℕ → State
  inside m a l taken = going m a l taken none k bs n

  abbrev lone : Midway → Action → List Action → List ℕ → State
  lone m a l taken = going m a l taken none gives [] 0

  brought : (s : Script) → begin s (bs ++ []) n ≡ begin s bs n
  brought s = ap (λ (z : List ℕ). begin s z n) (append-nil bs)

  -- accesses that complete it, and then others
  record Cut (m : Midway) (a : Action) (l : List Action) (taken : List ℕ) (log : List Access) (e : State) : Type 0 where
    pub head : List Access
    pub tail : List Access
    pub replies : List ℕ
    pub is : log ≡ head ++ tail
    pub makes : Makes (lone m a l taken) head
    pub ends : after (lone m a l taken) head ≡ ended Done replies [] 0
    pub rest : Plays (k replies) bs n tail e

  module _ (e : State) (done : want e ≡ nothing) where
    abbrev Cuts : List Access → Type 0
    Cuts log = (m : Midway) (a : Action) (l : List Action) (taken : List ℕ) → Makes (inside m a l taken) log → after (inside m a l taken) log ≡ e → Cut m a l taken log e

    module _ (x : Access) (log : List Access) (cuts : Cuts log) (m : Midway) (a : Action) (l : List Action) (taken : List ℕ) (w : Matches (want_at m a) x) where
      -- one access more in front
      longer : (m' : Midway) (a' : Action) (l' : List Action) (taken' : List ℕ) → next (lone m a l taken) (value_word x) ≡ lone m' a' l' taken' → Cut m' a' l' taken' log e → Cut m a l taken (x ∷ log) e
      longer m' a' l' taken' f c = record {
        head = x ∷ c.head;
        tail = c.tail;
        replies = c.replies;
        is = ap (λ (z : List Access). x ∷ z) c.is;
        makes = (w, subst (λ (s : State). Makes s c.head) (sym f) c.makes);
        ends = ap (λ (s : State). after s c.head) f ∙ c.ends;
        rest = c.rest;
      }

      -- the actions are over, or the next one begins
      completes : (l' : List Action) (taken' : List ℕ) → next (lone m a l taken) (value_word x) ≡ proceed l' taken' none gives [] 0 → Makes (proceed l' taken' none k bs n) log → after (proceed l' taken' none k bs n) log ≡ e
          → Cut m a l taken (x ∷ log) e
      completes [] taken' f u v =
          let y = brought (k (reverse taken')) in
          record {
            head = x ∷ [];
            tail = log;
            replies = reverse taken';
            is = refl;
            makes = (w, tt);
            ends = f;
            rest = record { makes = subst (λ (s : State). Makes s log) y u; there = sym (ap (λ (s : State). after s log) y) ∙ v };
          }
      completes (c ∷ l') taken' f u v = longer first c l' taken' f (cuts first c l' taken' u v)

      cut_by : (g : Progress) → progress m a (value_word x) ≡ g → Makes (moves g a l taken none k bs n) log → after (moves g a l taken none k bs n) log ≡ e → Cut m a l taken (x ∷ log) e
      cut_by (stays m') f u v = longer m' a l taken (ap (λ (g : Progress). moves g a l taken none gives [] 0) f) (cuts m' a l taken u v)
      cut_by over f u v = completes l taken (ap (λ (g : Progress). moves g a l taken none gives [] 0) f) u v
      cut_by (takes r) f u v = completes l (r ∷ taken) (ap (λ (g : Progress). moves g a l taken none gives [] 0) f) u v

    cut : (log : List Access) → Cuts log
    cut [] m a l taken w f = absurd (some_due m a (ap want f ∙ done))
    cut (x ∷ log) m a l taken w f = cut_by x log (cut log) m a l taken w.0 (progress m a (value_word x)) refl w.1 f

  -- a whole transfer leads to what its replies decide
  module _ (rs : List ℕ) where
    abbrev Joins : List Access → Type 0
    Joins head = (m : Midway) (a : Action) (l : List Action) (taken : List ℕ) → Makes (lone m a l taken) head → after (lone m a l taken) head ≡ ended Done rs [] 0 → after (inside m a l taken) head ≡ begin (k rs) bs n

    module _ (x : Access) (head : List Access) (joins : Joins head) (m : Midway) (a : Action) (l : List Action) (taken : List ℕ) where
      goes_on : (l' : List Action) (taken' : List ℕ) → Makes (proceed l' taken' none gives [] 0) head → after (proceed l' taken' none gives [] 0) head ≡ ended Done rs [] 0 → after (proceed l' taken' none k bs n) head ≡ begin (k rs) bs n
      goes_on [] taken' u v =
          let z : head ≡ [] = over_makes head (ended Done (reverse taken') [] 0) refl u in
          let y : reverse taken' ≡ rs = ap values_in (sym (ap (after (ended Done (reverse taken') [] 0)) z) ∙ v) in
          ap (after (begin (k (reverse taken')) (bs ++ []) n)) z ∙ (brought (k (reverse taken')) ∙ ap (λ (q : List ℕ). begin (k q) bs n) y)
      goes_on (c ∷ l') taken' u v = joins first c l' taken' u v

      join_by : (g : Progress) → Makes (moves g a l taken none gives [] 0) head → after (moves g a l taken none gives [] 0) head ≡ ended Done rs [] 0 → after (moves g a l taken none k bs n) head ≡ begin (k rs) bs n
      join_by (stays m') u v = joins m' a l taken u v
      join_by over u v = goes_on l taken u v
      join_by (takes r) u v = goes_on l (r ∷ taken) u v

    join : (head : List Access) → Joins head
    join [] m a l taken w f = absurd (some_due m a (ap want f))
    join (x ∷ head) m a l taken w f = join_by x head (join head) m a l taken (progress m a (value_word x)) w.1 f

-- a call that begins with a transfer: the transfer whole, and then what its replies decide
pub record First (x : Transfer) (k : List ℕ → Script) (bs : List ℕ) (n : ℕ) (log : List Access) (e : State) : Type 0 where
  pub head : List Access
  pub tail : List Access
  pub replies : List ℕ
  pub is : log ≡ head ++ tail
  pub whole : Whole x head replies
  pub rest : Plays (k replies) bs n tail e

-- THEOREM. The accesses of such a call that has ended are those of the whole transfer, and then those of what its replies decide.
pub plays_first : (x : Transfer) (k : List ℕ → Script) (bs : List ℕ) (n : ℕ) (log : List Access) (e : State) → want e ≡ nothing → Plays (exchange x k) bs n log e → First x k bs n log e
plays_first x k bs n log e done p =
    let c = cut k bs n e done log first drain (opening x) [] p.makes p.there in
    record { head = c.head; tail = c.tail; replies = c.replies; is = c.is; whole = record { makes = c.makes; ends = c.ends }; rest = c.rest }

-- THEOREM. And the other way: accesses that begin with a whole transfer lead where the others lead from what its replies decide.
pub after_first : (x : Transfer) (k : List ℕ → Script) (bs : List ℕ) (n : ℕ) (head tail : List Access) (rs : List ℕ) → Whole x head rs → after (begin (exchange x k) bs n) (head ++ tail) ≡ after (begin (k rs) bs n) tail
after_first x k bs n head tail rs w = after_append (begin (exchange x k) bs n) head tail ∙ ap (λ (s : State). after s tail) (join k bs n rs head first drain (opening x) [] w.makes w.ends)

-- a whole transfer has an access
pub whole_some : (x : Transfer) (l : List Access) (rs : List ℕ) → Whole x l rs → 0 < length l
whole_some x [] rs w = absurd (some_due first drain (ap want w.ends))
whole_some x (a ∷ l) rs w = omega arith

-- ---- from the drain to the write of 0 to 14

-- actions of which the last writes 0 to 14
data Closes : List Action → Type 0 where
  the_last : Closes (write 0x14 0 ∷ [])
  another : {a : Action} {l : List Action} → Closes l → Closes (a ∷ l)

closes_after : (l m : List Action) → Closes m → Closes (l ++ m)
closes_after [] m h = h
closes_after (a ∷ l) m h = another (closes_after l m h)

replying_closes : (x : Transfer) → Closes (replying x)
replying_closes x = another (closes_after (replicate x.replies (reply x.twice)) _ (another the_last))

opening_closes : (x : Transfer) → Closes (write 0x14 1 ∷ map (write x.port) (x.command ∷ x.further) ++ replying x)
opening_closes x = another (closes_after (map (write x.port) (x.command ∷ x.further)) (replying x) (replying_closes x))

-- the action at hand, and those left
data Closing : Midway → Action → List Action → Type 0 where
  at_last : Closing first (write 0x14 0) []
  not_yet : {m : Midway} {a : Action} {l : List Action} → Closes l → Closing m a l

closing_next : {c : Action} {l : List Action} → Closes (c ∷ l) → Closing first c l
closing_next the_last = at_last
closing_next (another h) = not_yet h

abbrev EndsClosed : List Access → Type 0
EndsClosed l = (front : List Access) × (l ≡ front ++ access.Write 0x14 0 ∷ [])

one_before : (x : Access) {l : List Access} → EndsClosed l → EndsClosed (x ∷ l)
one_before x h = (x ∷ h.0, ap (λ (z : List Access). x ∷ z) h.1)

written : {x : Access} {o v : ℕ} → Matches (writes o v) x → x ≡ access.Write o v
written m_write = refl

read_at : {x : Access} {o : ℕ} → Matches (reads o) x → x ≡ access.Read o (value_word x)
read_at m_read = refl

module _ (rs : List ℕ) where
  abbrev Last : List Access → Type 0
  Last head = (m : Midway) (a : Action) (l : List Action) (taken : List ℕ) → Closing m a l → Makes (going m a l taken none gives [] 0) head → after (going m a l taken none gives [] 0) head ≡ ended Done rs [] 0 → EndsClosed head

  module _ (x : Access) (head : List Access) (lasts : Last head) (m : Midway) (a : Action) where
    last_then : (l : List Action) (taken : List ℕ) → Closes l → Makes (proceed l taken none gives [] 0) head → after (proceed l taken none gives [] 0) head ≡ ended Done rs [] 0 → EndsClosed (x ∷ head)
    last_then [] taken h u v = elim h [ ]
    last_then (c ∷ l) taken h u v = one_before x (lasts first c l taken (closing_next h) u v)

    last_by : (l : List Action) (taken : List ℕ) → Closes l → (g : Progress) → Makes (moves g a l taken none gives [] 0) head → after (moves g a l taken none gives [] 0) head ≡ ended Done rs [] 0 → EndsClosed (x ∷ head)
    last_by l taken h (stays m') u v = one_before x (lasts m' a l taken (not_yet h) u v)
    last_by l taken h over u v = last_then l taken h u v
    last_by l taken h (takes r) u v = last_then l (r ∷ taken) h u v

  last : (head : List Access) → Last head
  last [] m a l taken h w f = absurd (some_due m a (ap want f))
  last (x ∷ head) m a l taken at_last w f =
      let z : head ≡ [] = over_makes head (ended Done (reverse taken) [] 0) refl w.1 in
      ([], ap (λ (y : Access). y ∷ head) (written w.0) ∙ ap (λ (y : List Access). access.Write 0x14 0 ∷ y) z)
  last (x ∷ head) m a l taken (not_yet h) w f = last_by x head (last head) m a l taken h (progress m a (value_word x)) w.1 f

-- THEOREM. A whole transfer begins with a read of 04 and ends with the write of 0 to 14.
pub whole_closes : (x : Transfer) (l : List Access) (rs : List ℕ) → Whole x l rs → (v : ℕ) × (middle : List Access) × (l ≡ access.Read 0x04 v ∷ (middle ++ access.Write 0x14 0 ∷ []))
whole_closes x [] rs w = absurd (some_due first drain (ap want w.ends))
whole_closes x (a ∷ l) rs w =
    let h = go (waits (value_word a)) w.makes.1 w.ends in
    (value_word a, h.0, ap (λ (z : Access). z ∷ l) (read_at w.makes.0) ∙ ap (λ (z : List Access). access.Read 0x04 (value_word a) ∷ z) h.1)
  where
    go : (b : Bool) → Makes (moves (cond b (stays full) over) drain (opening x) [] none gives [] 0) l → after (moves (cond b (stays full) over) drain (opening x) [] none gives [] 0) l ≡ ended Done rs [] 0 → EndsClosed l
    go true u v = last rs l full drain (opening x) [] (not_yet (another (opening_closes x))) u v
    go false u v = last rs l first _ _ [] (not_yet (opening_closes x)) u v
