-- What is known of the cells by their numbers, before a write and after it. Assumes nothing: these are definitions.
use Rattle.std.specs.Prelude.{ℕ, Bool, ◌&&◌, List, is_some}
use Rattle.formula.specs.Cells.{content}
use Rattle.evaluate.specs.declared.value.Value.{Value}
pub use Rattle.evaluate.specs.Rows.{with_value}
use Rattle.recalc.specs.declared.formulas.Progress.{Progress}
use Rattle.recalc.specs.declared.mark.Mark.{Mark}
use Rattle.recalc.specs.Layout.{cell_numbers}
use Rattle.recalc.specs.Sheets.{formula_in}
use Rattle.recalc.specs.Marks.{flag}
use Rattle.recalc.specs.Showing.{table_shows}
use Rattle.edit.specs.Changes.{differs}

-- that this is something else than before
abbrev pub table_differs : List Progress → (ℕ → Value) → ℕ → Bool
table_differs t before k = differs (table_shows t k) (before k)

-- cell k is marked and holds a formula
abbrev pub formula_marked : List ℕ → List Mark → ℕ → Bool
formula_marked xs marks k = flag marks k && is_some (formula_in (content (cell_numbers k xs)))
