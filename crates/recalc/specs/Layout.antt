-- A sheet in lent memory, and when it is refused. Assumes nothing: these are definitions.
use Rattle.std.specs.Prelude.{ℕ, zero, suc, ◌+◌, ◌*◌, ◌≤◌, Bool, cond, ◌&&◌, List, length, take, drop, Some, None, Ok, Err, Option, Result, nat_le, slice_index}
use Rattle.formula.specs.Layout.{cell_len}
use Rattle.formula.specs.Cells.{content}
pub use Rattle.formula.specs.Cells.{is_malformed}
use Rattle.evaluate.specs.Limits.{max_rows, max_columns}
use Rattle.recalc.specs.declared.size.Size.{Size}
use Rattle.recalc.specs.declared.refusal.Refusal.{Refusal}
use Rattle.recalc.specs.declared.refusal.Refusal.TheVariants.{Rows, Columns, Short, Malformed}

-- the count of rows and the count of columns
abbrev pub header_len : ℕ
header_len = 2

-- a memory that ends too early is read as if 0 stood there
abbrev pub rows_in : List ℕ → ℕ
rows_in xs = slice_index xs 0

abbrev pub cols_in : List ℕ → ℕ
cols_in xs = slice_index xs 1

-- how long a sheet of so many cells is
abbrev pub sheet_len : ℕ → ℕ
sheet_len n = header_len + cell_len * n

-- the part that is cell k, in reading order
abbrev pub cell_numbers : ℕ → List ℕ → List ℕ
cell_numbers k xs = take cell_len (drop (sheet_len k) xs)

-- the first of n cells, from cell k on, that is malformed
unfoldable pub first_malformed : ℕ → ℕ → List ℕ → Option ℕ
first_malformed k zero xs = None
first_malformed k (suc n) xs = cond (is_malformed (content (cell_numbers k xs))) (Some k) (first_malformed (suc k) n xs)

abbrev pub unless_malformed : Option ℕ → Size → Result Size Refusal
unless_malformed None s = Ok s
unless_malformed (Some k) s = Err (Malformed k)

abbrev pub within : ℕ → ℕ → Bool
within most n = nat_le 1 n && nat_le n most

abbrev pub size_in : List ℕ → Size
size_in xs = record { rows = rows_in xs; cols = cols_in xs }

-- a sheet's size, or the first refusal that applies
abbrev pub checked : List ℕ → Result Size Refusal
checked xs =
    cond (within max_rows (rows_in xs))
    (cond (within max_columns (cols_in xs))
    (cond (nat_le (sheet_len (rows_in xs * cols_in xs)) (length xs)) (unless_malformed (first_malformed 0 (rows_in xs * cols_in xs) xs) (size_in xs)) (Err (Short (length xs))))
    (Err Columns))
    (Err Rows)

-- the same of a sheet that may come to have as many rows and columns as `most` says, and of a memory that has room for that
abbrev pub fitting : Size → List ℕ → Result Size Refusal
fitting most xs =
    cond (within max_rows most.rows && within most.rows (rows_in xs))
    (cond (within max_columns most.cols && within most.cols (cols_in xs))
    (cond (nat_le (sheet_len (most.rows * most.cols)) (length xs)) (checked xs) (Err (Short (length xs))))
    (Err Columns))
    (Err Rows)

-- what is known of a sheet that was not refused, besides that its cells are well formed
pub record Sized (xs : List ℕ) (s : Size) : Type 0 where
  pub some_rows : 1 ≤ s.rows
  pub few_rows : s.rows ≤ max_rows
  pub some_cols : 1 ≤ s.cols
  pub few_cols : s.cols ≤ max_columns
  pub room : sheet_len (s.rows * s.cols) ≤ length xs
