use Rattle.qspi_calls.proofs.StartLaws.{worded, too_wide}
use native.Mathlib.Omega.{arith}
use Rattle.qspi_calls.proofs.start.initialize.Goals as goal
use Rattle.qspi_calls.proofs.Begins as begins

-- src/start.rt:568:1
pub returns-in-Ok-clause-begins : goal.returns-in-Ok-clause-begins
returns-in-Ok-clause-begins c =
    let x = c.args in
    let y = worded x.clock_config x.phase x.polarity c.initialize_words.ensures.answer c.in-Ok.is in
    begins.initialize c.args.clock_config c.args.phase c.args.polarity _ (omega (arith, c.well_formed)) _ (simp (c.registers.ensures.start, y.narrow, y.config, y.clock, c.sequence_of-sequence.ensures.sequence))

-- src/start.rt:568:1
pub returns-in-Err-clause-begins : goal.returns-in-Err-clause-begins
returns-in-Err-clause-begins c =
    let x = c.args in
    begins.initialize c.args.clock_config c.args.phase c.args.polarity c.args.log (omega (arith, c.well_formed)) c.over.result (simp (c.over.ensures.start, c.registers_job.ensures.job, too_wide x.clock_config x.phase x.polarity c.initialize_words.ensures.answer c.in-Err.is))
