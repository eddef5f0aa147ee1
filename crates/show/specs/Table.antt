-- A sheet's values as a table with row and column numbers. Assumes nothing: these are definitions.
use Rattle.std.specs.Prelude.{ℕ, zero, suc, ◌+◌, ◌-◌, ◌≤◌, max, List, ◌++◌, length, replicate, codes}
use Rattle.evaluate.specs.Limits.{max_rows, max_columns}
use Rattle.recalc.specs.declared.size.Size.{Size}
use Rattle.show.specs.declared.entry.Entry.{Entry}
use Rattle.show.specs.declared.entry.Entry.TheVariants.{Corner, Label}
use Rattle.show.specs.Entries.{entry_text, cell_entry}
use Rattle.show.specs.Grids.{gap, grid_text}

-- a size that a sheet can have, or a smaller one
pub record Small (s : Size) : Type 0 where
  pub few_rows : s.rows ≤ max_rows
  pub few_cols : s.cols ≤ max_columns

-- the first line has the column numbers, and the first column the row numbers
abbrev pub table_entry : List ℕ → ℕ → ℕ → ℕ → Entry
table_entry xs cols zero zero = Corner
table_entry xs cols zero (suc col) = Label col
table_entry xs cols (suc row) zero = Label row
table_entry xs cols (suc row) (suc col) = cell_entry xs cols row col

abbrev pub width_at : List ℕ → ℕ → ℕ → ℕ → ℕ
width_at xs cols col line = length (entry_text (table_entry xs cols line col))

-- the largest of the first n
unfoldable pub largest : (ℕ → ℕ) → ℕ → ℕ
largest f zero = 0
largest f (suc n) = max (largest f n) (f n)

-- the widest entry of a column, its number included
abbrev pub column_width : List ℕ → Size → ℕ → ℕ
column_width xs s col = largest (width_at xs s.cols col) (s.rows + 1)

-- to the right of so many places
abbrev pub padded : ℕ → List ℕ → List ℕ
padded w t = replicate (w - length t) 32 ++ t

-- w col is the width of a column
-- as `spaced_entry` of Values with a width: one line each, and longer with what they share named
abbrev pub aligned : List ℕ → ℕ → (ℕ → ℕ) → ℕ → ℕ → List ℕ
aligned xs cols w line col = gap (codes "  ") col ++ padded (w col) (entry_text (table_entry xs cols line col))

abbrev pub table_text : List ℕ → Size → List ℕ
table_text xs s = grid_text (aligned xs s.cols (column_width xs s)) (s.rows + 1) (s.cols + 1)
