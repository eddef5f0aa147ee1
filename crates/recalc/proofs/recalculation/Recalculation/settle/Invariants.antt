use Rattle.recalc.specs.Table.{Later}
use Rattle.recalc.specs.Change.{toil}
use Rattle.recalc.specs.Turns.{on_stack, Going}
use Rattle.recalc.proofs.recalculation.Recalculation.settle.Given as goal

abbrev pub invariant-loop-k : goal.invariant-loop-k
invariant-loop-k g l = Going l.initial.self l.self × Later l.initial.self.table.now l.self.table.now

abbrev pub decreases-loop-k : goal.decreases-loop-k
decreases-loop-k g l = toil l.self.table.now l.self.marks.now (on_stack l.self)
