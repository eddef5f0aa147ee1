use Rattle.std.proofs.Common.{◌≡◌, ℕ, ◌<◌, [], ◌≢◌}
use Rattle.recalc.specs.declared.formulas.Progress.TheVariants.{Waiting}
use Rattle.recalc.specs.Table.{at}
use Rattle.recalc.specs.Turns.{on_stack, Going}
use Rattle.recalc.proofs.recalculation.Recalculation.visit_all.Given as goal

abbrev pub invariant-loop-k : goal.invariant-loop-k
invariant-loop-k g l =
    Going l.initial.self l.self
    × (on_stack l.self ≡ [])
    × ((i : ℕ) → i < l.k → at l.self.table.now i ≢ Waiting)
