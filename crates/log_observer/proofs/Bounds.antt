-- The transfer at hand after so many accesses has no more bytes than they can send: four each. Assumes nothing.
use Rattle.std.proofs.Common.{ℕ, ◌*◌, ◌≤◌, List, [], ◌∷◌, ◌++◌, length}
use Rattle.qspi_calls.proofs.WireOrder.{AllBytes}
use Rattle.power_cut.specs.Observer.{Transfer, closed, opened, Observed}

pub octets_append : (a b : List ℕ) → AllBytes a → AllBytes b → AllBytes (a ++ b)
octets_append [] b p q = q
octets_append (x ∷ a) b p q = (p.0, octets_append a b p.1 q)

abbrev pub OctetsIn : Transfer → Type 0
OctetsIn closed = Unit {0}
OctetsIn (opened sent reply) = AllBytes sent

abbrev pub sent_in : Transfer → ℕ
sent_in closed = 0
sent_in (opened sent reply) = length sent

-- after k accesses
pub record Within (k : ℕ) (o : Observed) : Type 0 where
  pub octets : OctetsIn o.transfer
  pub small : sent_in o.transfer ≤ 4 * k
