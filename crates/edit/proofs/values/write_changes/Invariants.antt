use Rattle.std.proofs.Common.{◌≡◌, vec_items}
use Rattle.evaluate.specs.Values.{value_numbers}
use Rattle.recalc.specs.Before.{row_shows}
use Rattle.recalc.specs.Layout.{cols_in}
use Rattle.recalc.proofs.Entries.{FilledTo}
use Rattle.edit.specs.Places.{places_from}
use Rattle.recalc.specs.Showing.{table_shows}
use Rattle.edit.specs.Values.{table_differs}
use Rattle.edit.proofs.values.write_changes.Given as goal

-- the values before k are those of the table, and their changes are listed
abbrev pub invariant-loop-k : goal.invariant-loop-k
invariant-loop-k l =
    FilledTo (λ i. value_numbers (table_shows l.table i)) 2 l.initial.values l.k l.values
    × (vec_items l.list.places ≡ places_from (cols_in l.sheet.nums.now) (table_differs l.table (row_shows l.initial.values)) 0 l.k)
