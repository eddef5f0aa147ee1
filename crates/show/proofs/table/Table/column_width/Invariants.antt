-- The widest of the entries so far.
use Rattle.std.proofs.Common.{◌≡◌}
use Rattle.show.specs.Table.{largest, width_at}
use Rattle.show.proofs.table.Table.column_width.Given as goal

abbrev pub invariant-loop-line : goal.invariant-loop-line
invariant-loop-line l = l.width ≡ largest (width_at l.self.values.numbers.now l.self.values.size.cols l.col) l.line
