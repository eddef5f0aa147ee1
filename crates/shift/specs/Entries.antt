-- The entries of a grid, in reading order, after a shift: one definition for the cells of a sheet and for what they show. Assumes nothing: these are definitions, and two proofs that a ghost field needs.
use Rattle.std.specs.Prelude.{ℕ, ◌+◌, ◌-◌, ◌*◌, ◌<◌, ◌≤◌, max, List, ◌++◌, drop, replicate, Some, None, Option}
use Rattle.std.specs.Option.{option_map}
use Rattle.std.specs.Coded.{×_prop, le_prop}
use Rattle.evaluate.specs.Limits.{max_rows, max_columns, max_cells}
use Rattle.recalc.specs.declared.size.Size.{Size}
use Rattle.recalc.specs.Entries.{entry, entries_from, by_number}
use Rattle.shift.specs.declared.shift.Change.{Change}
use Rattle.shift.specs.declared.shift.Change.TheVariants.{Insert, Delete}
use Rattle.shift.specs.declared.shift.Shift.{Shift}
use Rattle.shift.specs.Shifts.{by_axis, rows_after, cols_after, place_from}

abbrev pub size_after : Shift → Size → Size
size_after d size = record { rows = rows_after d size.rows; cols = cols_after d size.cols }

abbrev pub cells_of : Size → ℕ
cells_of size = size.rows * size.cols

-- what comes to stand at number k: the entry of len numbers that came there, or zeros in a new line
abbrev pub coming : ℕ → Shift → Size → List ℕ → ℕ → List ℕ
coming len d size xs k = by_number (cols_after d size.cols) (place_from (replicate len 0) d (λ r c. entry len (r * size.cols + c) xs)) k

-- a grid at the front of a row, after a shift; what came free is 0, and what lies behind is as it was
abbrev pub shifted_entries : ℕ → Shift → Size → List ℕ → List ℕ
shifted_entries len d size xs =
    entries_from (coming len d size xs) 0 (cells_of (size_after d size))
    ++ (replicate (len * (cells_of size - cells_of (size_after d size))) 0 ++ drop (len * max (cells_of size) (cells_of (size_after d size))) xs)

-- line p of n can be deleted, or one can be inserted before it
abbrev pub LineThere : Change → ℕ → ℕ → Type 0
LineThere Insert p n = p ≤ n
LineThere Delete p n = (p < n) × (1 < n)

-- a sheet within the bounds that a shift leaves within them
pub record Shiftable (d : Shift) (size : Size) : Type 0 where
  pub some_rows : 1 ≤ size.rows
  pub few_rows : size.rows ≤ max_rows
  pub some_cols : 1 ≤ size.cols
  pub few_cols : size.cols ≤ max_columns
  pub there : LineThere d.change d.line (by_axis d.axis size.rows size.cols)
  pub rows_left : rows_after d size.rows ≤ max_rows
  pub cols_left : cols_after d size.cols ≤ max_columns

-- a fact of a grid and of a shift: no two proofs of it differ
LineThere-prop : (h : Change) (p n : ℕ) → IsProp (LineThere h p n)
LineThere-prop Insert p n = le_prop
LineThere-prop Delete p n = ×_prop le_prop le_prop

pub Shiftable-prop : (d : Shift) (size : Size) → IsProp (Shiftable d size)
Shiftable-prop d size x y = λ i. record {
  some_rows = le_prop x.some_rows y.some_rows i;
  few_rows = le_prop x.few_rows y.few_rows i;
  some_cols = le_prop x.some_cols y.some_cols i;
  few_cols = le_prop x.few_cols y.few_cols i;
  there = LineThere-prop d.change d.line (by_axis d.axis size.rows size.cols) x.there y.there i;
  rows_left = le_prop x.rows_left y.rows_left i;
  cols_left = le_prop x.cols_left y.cols_left i;
}

-- the number that an entry had which comes to stand at number k
abbrev pub origin : Shift → Size → ℕ → Option ℕ
origin d size k = by_number (cols_after d size.cols) (place_from None d (λ r c. Some (r * size.cols + c))) k

-- the first entry of the line of the shift: those before it stay where they are
abbrev pub first_entry : Shift → Size → ℕ
first_entry d size = by_axis d.axis (d.line * size.cols) d.line

-- how many entries there are from that one on, afterwards, and before or afterwards, whichever is more
abbrev pub left_behind : Shift → Size → ℕ
left_behind d size = cells_of (size_after d size) - first_entry d size

abbrev pub most_behind : Shift → Size → ℕ
most_behind d size = max (cells_of size - first_entry d size) (left_behind d size)

-- the number that an entry had, both counted from that one on
abbrev pub origin_behind : Shift → Size → ℕ → Option ℕ
origin_behind d size i = option_map (λ j. j - first_entry d size) (origin d size (first_entry d size + i))

abbrev pub entry_or_zeros : ℕ → Option ℕ → List ℕ → List ℕ
entry_or_zeros len None xs = replicate len 0
entry_or_zeros len (Some j) xs = entry len j xs

-- an entry that is there, in a row of n numbers
abbrev pub Within : ℕ → Option ℕ → ℕ → Type 0
Within len None n = Unit {0}
Within len (Some j) n = (j < max_cells) × (len * j + len ≤ n)

-- m entries, each from where it was
abbrev pub placed : ℕ → (ℕ → Option ℕ) → ℕ → List ℕ → List ℕ
placed len from m xs = entries_from (λ i. entry_or_zeros len (from i) xs) 0 m ++ drop (len * m) xs
