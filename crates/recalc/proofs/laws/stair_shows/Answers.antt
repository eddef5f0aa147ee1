-- The small sheet, worked out by the definitions. Assumes nothing.
use Rattle.std.proofs.Common.{refl}
use Rattle.evaluate.specs.Traces.{each}
use Rattle.recalc.specs.Sheets.{deep, shown}
use Rattle.recalc.proofs.laws.stair_shows.Goals as goal

pub returns : goal.returns
unfolding shown deep each
returns c = refl
