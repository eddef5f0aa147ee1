use Rattle.std.proofs.Common.{◌≡◌, ℕ, ◌<◌, length, slice_index}
use Rattle.show.specs.Table.{column_width}
use Rattle.show.proofs.table.Table.column_widths.Given as goal

-- the columns before this one are measured
abbrev pub invariant-loop-col : goal.invariant-loop-col
invariant-loop-col l =
    (length l.widths.items ≡ l.col)
    × ((k : ℕ) → k < l.col → slice_index l.widths.items k ≡ column_width l.self.values.numbers.now l.self.values.size k)
