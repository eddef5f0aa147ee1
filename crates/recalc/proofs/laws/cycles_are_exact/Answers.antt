-- The cycle error is shown exactly where there is a cycle. Assumes nothing.
use Rattle.recalc.proofs.Ways.{cycle_exact}
use Rattle.recalc.proofs.laws.cycles_are_exact.Goals as goal

pub returns : goal.returns
returns c = cycle_exact
