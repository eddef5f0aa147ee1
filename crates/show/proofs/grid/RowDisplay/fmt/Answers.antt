use Rattle.show.proofs.Texts.{none_written, one_more}
use Rattle.show.proofs.grid.RowDisplay.fmt.Goals as goal

pub loop-col-init : goal.loop-col-init
loop-col-init g c = none_written _ _ _

pub loop-col-preserved : goal.loop-col-preserved
loop-col-preserved g c = one_more _ _ _ _ _ _ _ c.loop-col.invariant c.in_ok-write.ensures.writes (rw (c.gap-before.ensures, c.entry-entry.ensures))
