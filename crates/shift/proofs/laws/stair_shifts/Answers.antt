-- The stair after each change, worked out by the definitions. Assumes nothing.
use Rattle.std.proofs.Common.{refl}
use Rattle.evaluate.specs.Traces.{each}
use Rattle.recalc.specs.Sheets.{deep, shown}
use Rattle.shift.specs.Sheets.{shifted}
use Rattle.shift.proofs.laws.stair_shifts.Goals as goal

pub returns : goal.returns
unfolding shifted shown deep each
returns c = (refl, refl)
