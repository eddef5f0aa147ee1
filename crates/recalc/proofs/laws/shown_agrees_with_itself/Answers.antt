-- What is shown agrees with itself. Assumes nothing.
use Rattle.recalc.proofs.Shown.{shown_is_consistent, deeper_is_the_same}
use Rattle.recalc.proofs.laws.shown_agrees_with_itself.Goals as goal

pub returns : goal.returns
returns c = record { consistent = shown_is_consistent; deeper = deeper_is_the_same }
