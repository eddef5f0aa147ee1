-- Sheets, and what their cells show. Assumes nothing: these are definitions.
use Rattle.std.specs.Prelude.{◌≡◌, ℕ, zero, suc, ◌+◌, ◌*◌, Bool, cond, ◌&&◌, List, [], Some, None, Option, nat_lt}
use Rattle.formula.specs.declared.token.CellRef.{CellRef}
use Rattle.formula.specs.Formula.{Formula}
use Rattle.formula.specs.Cells.{content}
pub use Rattle.formula.specs.Cells.{formula_in}
use Rattle.evaluate.specs.declared.value.CellError.TheVariants.{Cycle}
use Rattle.evaluate.specs.declared.value.Value.{Value}
use Rattle.evaluate.specs.declared.value.Value.TheVariants.{Empty, Error}
use Rattle.evaluate.specs.Evaluation.{looked_at, evaluated}
use Rattle.recalc.specs.Layout.{rows_in, cols_in, cell_numbers}

-- a cell that is None is blank
pub record Sheet : Type 0 where
  pub rows : ℕ
  pub cols : ℕ
  pub cells : ℕ → ℕ → Option Formula

abbrev pub inside : Sheet → ℕ → ℕ → Bool
inside s r c = nat_lt r s.rows && nat_lt c s.cols

-- what stands at a place; outside the sheet every cell is blank
abbrev pub held : Sheet → ℕ → ℕ → Option Formula
held s r c = cond (inside s r c) (s.cells r c) None

-- two sheets that hold the same at every place
pub record Same (s t : Sheet) : Type 0 where
  pub rows : s.rows ≡ t.rows
  pub cols : s.cols ≡ t.cols
  pub cells : (r c : ℕ) → held s r c ≡ held t r c

-- what a cell shows, and the places that it looks at, where the cells show f
abbrev pub cell_shows : (ℕ → ℕ → Value) → Option Formula → Value
cell_shows f None = Empty
cell_shows f (Some x) = evaluated f x

abbrev pub cell_looks : (ℕ → ℕ → Value) → Option Formula → List CellRef
cell_looks f None = []
cell_looks f (Some x) = looked_at f x

-- shown by looking at most n cells deep; a cell that would have to be looked at deeper shows the cycle error
unfoldable pub deep : ℕ → Sheet → ℕ → ℕ → Value
deep zero s r c = cond (inside s r c) (Error Cycle) Empty
deep (suc n) s r c = cell_shows (λ i j. deep n s i j) (held s r c)

-- no way of different cells is longer than that
unfoldable pub shown : Sheet → ℕ → ℕ → Value
shown s r c = deep (suc (s.rows * s.cols)) s r c

-- the sheet that lies in a memory
abbrev pub sheet_in : List ℕ → Sheet
sheet_in xs = record { rows = rows_in xs; cols = cols_in xs; cells = λ r c. formula_in (content (cell_numbers (r * cols_in xs + c) xs)) }
