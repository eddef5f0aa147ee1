-- The stair after each write, worked out by the definitions. Assumes nothing.
use Rattle.std.proofs.Common.{refl}
use Rattle.evaluate.specs.Traces.{each}
use Rattle.recalc.specs.Sheets.{deep, shown}
use Rattle.edit.specs.Places.{places_from}
use Rattle.edit.proofs.laws.stair_writes.Goals as goal

pub returns : goal.returns
unfolding shown deep each places_from
returns c = refl
