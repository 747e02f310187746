-- What a whole call hands back, out of what its start and its run promise. Assumes nothing.
use mathlib.Core.Path.{◌≡◌, refl, ap, subst, ◌∙◌, sym}
use mathlib.Core.Bool.{Bool, true, false}
use mathlib.Core.List.{List, [], ◌++◌}
use Prim.Native.Nat.{ℕ, ◌+◌, ◌-◌, ◌*◌, ◌/◌}
use native.Mathlib.Omega.{arith}
use Rattle.std.proofs.lemmas.List.{nil_from_length}
use lib.ListN.{length, drop}
use lib.Seq.{sets, sets-eq}
use Rattle.zynq7000.specs.Access.{encode}
use Rattle.zynq7000.proofs.AccessLaws.{length_encode}
use Rattle.qspi_operation.specs.declared.Op.{Op}
use Rattle.qspi_operation.specs.declared.Stepped.{Stepped}
use Rattle.qspi_operation.specs.Machine.{Script, State, begin, status_in, bytes_in, Result, halt, runs, called, overlaid, reads_of}
use Rattle.qspi_operation.specs.Points.{Lending, outset, rest, answered_of}
use Rattle.qspi_operation.specs.Follows.{Begun, OnRun, RunFollows}
use Rattle.qspi_operation.specs.Run as by-counters
use Rattle.qspi_operation.specs.Run.{run_of}
use Rattle.qspi_operation.specs.Step.{is_going}
use Rattle.qspi_operation.proofs.Orders.{run_ended}
use Rattle.qspi_operation.proofs.PointLaws.{over_runs}
use Rattle.qspi_operation.proofs.Runs.{run_job, run_wide}
use Rattle.qspi_calls.specs.Promise.{logged_of, buffered_of, Called}

-- ---- for `run::command`

-- what a run promises that is lent no data and no buffer
pub commanded : (o : Op) (rs log : List ℕ) {s : Stepped} {buffer₁ log₁ : List ℕ} → by-counters.Ran s buffer₁ log₁ (run_of o [] rs [] log) × RunFollows o [] [] log rs s buffer₁ log₁
    → RunFollows o [] [] log rs s [] log₁ × (s.op.job ≡ o.job)
commanded o rs log {s} {buffer₁} {log₁} h =
    let e : buffer₁ ≡ [] = nil_from_length buffer₁ (ap length h.0.stored ∙ run_wide o [] rs [] log) in
    (subst (λ (z : List ℕ). RunFollows o [] [] log rs s z log₁) e h.1, ap (λ (z : Op). z.job) h.0.op ∙ run_job o [] rs [] log)

-- ---- a whole call

-- the log over which a run was made
pub log_is : (log : List ℕ) (s : State) (rs : List ℕ) → sets log 0 (encode (runs (length log / 2) s rs).log) ≡ logged_of (runs (length log / 2) s rs) log
log_is log s rs =
    let l = (runs (length log / 2) s rs).log in
    let m = length_encode l in
    let k = (run_ended (length log / 2) s rs).short in
    let f : 0 + length (encode l) ≡ 2 * length l = omega (arith, m) in
    sets-eq (encode l) log 0 (omega (arith, m, k)) ∙ ap (λ (z : ℕ). encode l ++ drop z log) f

module _ (c : Script) (g : Lending) {o : Op} (b : Begun g c o) {buffer log rs : List ℕ} {s : Stepped} {buffer₁ log₁ : List ℕ} (r : RunFollows o g.bytes buffer log rs s buffer₁ log₁)
    (wide : buffer ≡ g.buffer) (long : length log ≡ g.room) where
  on : OnRun g (outset (begin c [] 0)) o g.bytes buffer log rs s buffer₁ log₁
  on = r g (outset (begin c [] 0)) b.follows

  -- the rest of a call of which no step was made is all of it
  all_of_it : rest g.room rs (outset (begin c [] 0)) ≡ called c (length log / 2) rs
  unfolding reads_of
  all_of_it = let e : g.room / 2 - 0 ≡ length log / 2 = omega (arith, long) in rw e

  buffer_is : buffer ≡ overlaid (bytes_in (begin c [] 0)) g.buffer
  buffer_is = wide ∙ ap (λ (z : List ℕ). overlaid z g.buffer) (sym b.unread)

  goes : is_going (status_in (begin c [] 0)) ≡ true → Called c log buffer rs s buffer₁ log₁
  goes e =
      let y = on.runs e refl (ap length wide) long in
      record {
        answer = y.answer ∙ ap answered_of all_of_it;
        logged = y.logged ∙ ap (λ (x : Result). sets log 0 (encode x.log)) all_of_it ∙ log_is log (begin c [] 0) rs;
        stored = on.stored e refl long buffer_is ∙ ap (λ (x : Result). overlaid (bytes_in x.state) g.buffer) all_of_it ∙ ap (overlaid (bytes_in (called c (length log / 2) rs).state)) (sym wide);
      }

  is_over_lem : is_going (status_in (begin c [] 0)) ≡ false → Called c log buffer rs s buffer₁ log₁
  unfolding reads_of encode
  is_over_lem e =
      let y = on.repeats e in
      let w : called c (length log / 2) rs ≡ halt (status_in (begin c [] 0)) (begin c [] 0) (length log / 2) rs = over_runs (length log / 2) (begin c [] 0) rs e in
      record {
        answer = y.1 ∙ ap answered_of (sym w);
        logged = y.0.logged ∙ ap (λ (x : Result). logged_of x log) (sym w);
        stored = y.0.stored ∙ buffer_is ∙ ap (overlaid (bytes_in (begin c [] 0))) (sym wide) ∙ ap (λ (x : Result). buffered_of x buffer) (sym w);
      }

  -- THEOREM. The run of an operation that begins a script is the script's: answer, log, buffer.
  pub whole_call : Called c log buffer rs s buffer₁ log₁
  whole_call = go (is_going (status_in (begin c [] 0))) refl
    where
      go : (x : Bool) → is_going (status_in (begin c [] 0)) ≡ x → Called c log buffer rs s buffer₁ log₁
      go true e = goes e
      go false e = is_over_lem e
