-- An insertion changes nothing that is shown, but for one in a sheet of 2 ^ 64 - 1 lines. Assumes nothing.
use Rattle.shift.proofs.Kept.{insertion_keeps}
use Rattle.shift.proofs.Bound.{bound_is_needed}
use Rattle.shift.proofs.laws.insertion_keeps_values.Goals as goal

pub returns : goal.returns
returns c = record { keeps = insertion_keeps; bound = bound_is_needed }
