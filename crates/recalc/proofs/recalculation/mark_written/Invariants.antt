use Rattle.std.proofs.Common.{◌≡◌, ℕ, ◌<◌}
use Rattle.recalc.specs.Marks.{mark_at, mark_if}
use Rattle.recalc.proofs.recalculation.mark_written.Given as goal

-- the marks before k are made
abbrev pub invariant-loop-k : goal.invariant-loop-k
invariant-loop-k g l = (i : ℕ) → i < l.k → mark_at l.marks i ≡ mark_if (g.B.Before.written l.before i)
