-- One row more.
use Rattle.std.proofs.Common.{refl}
use Rattle.show.proofs.Texts.{none_written, one_more}
use Rattle.show.proofs.grid.LinesDisplay.fmt.Goals as goal

pub loop-row-init : goal.loop-row-init
loop-row-init g c = none_written _ _ _

pub loop-row-preserved : goal.loop-row-preserved
loop-row-preserved g c = one_more _ _ _ _ _ _ _ c.loop-row.invariant c.in_ok-fmt.ensures.writes refl
