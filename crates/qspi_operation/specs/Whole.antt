-- A whole transfer by its accesses: document 01, "One transfer, access by access", from the drain to the write of 0 to 14. The terms in which Failures and Precisely of qspi_calls say
-- what a log shows.
use Rattle.std.specs.Prelude.{◌≡◌, ℕ, List, []}
use Rattle.zynq7000.specs.declared.qspi.Access.{Access}
use Rattle.qspi_script.specs.declared.Status.TheVariants.{Done}
use Rattle.qspi_operation.specs.Machine.{Transfer, Script, ends, exchange, ended, begin, Makes, after}

-- a call that makes this transfer and gives its replies
abbrev pub alone : Transfer → Script
alone x = exchange x (λ rs. ends Done rs)

-- the accesses of a transfer from its first to its last, and the replies that it took
pub record Whole (x : Transfer) (l : List Access) (rs : List ℕ) : Type 0 where
  pub makes : Makes (begin (alone x) [] 0) l
  pub ends : after (begin (alone x) [] 0) l ≡ ended Done rs [] 0
