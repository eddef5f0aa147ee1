-- A sheet in lent memory after a write, with the row of what it shows and the two lists. Assumes nothing: these are definitions.
use Rattle.std.specs.Prelude.{◌≡◌, ℕ, ◌+◌, ◌*◌, true, List, ◌++◌, drop, replicate, is_ok, Some, None, Ok, Err, Option, Result}
use Rattle.formula.specs.declared.token.CellRef.{CellRef}
use Rattle.formula.specs.Layout.{cell_len}
use Rattle.formula.specs.Formula.{Formula}
use Rattle.formula.specs.Cells.{stored}
use Rattle.recalc.specs.declared.refusal.Refusal.{Refusal}
use Rattle.recalc.specs.Layout.{cols_in, sheet_len, size_in, checked}
use Rattle.recalc.specs.Entries.{with_part}
use Rattle.recalc.specs.Numbered.{count}
use Rattle.recalc.specs.Sheets.{Same, sheet_in}
use Rattle.recalc.specs.Showing.{sheet_values, ShownIn, shown_in}
use Rattle.edit.specs.declared.write.Write as code
use Rattle.edit.specs.Writes.{Write, written, allowed, answered}
use Rattle.edit.specs.Changes.{told, worked}

-- the 61 numbers of a cell
abbrev pub cell_stored : Option Formula → List ℕ
cell_stored None = replicate cell_len 0
cell_stored (Some f) = stored f

-- cell k becomes these numbers, and all else is as it was
abbrev pub with_cell : ℕ → List ℕ → List ℕ → List ℕ
with_cell k cell xs = with_part (sheet_len k) cell_len cell xs

-- the memory after a write
abbrev pub written_memory : Write → List ℕ → List ℕ
written_memory w xs = with_cell (w.row * cols_in xs + w.col) (cell_stored w.what) xs

-- all that a write may change: a sheet in memory, the row of what it shows, what shows something else and what was worked out again
pub record State : Type 0 where
  pub nums : List ℕ
  pub values : List ℕ
  pub changed : List CellRef
  pub recalculated : List CellRef

-- a sheet that is not refused, and a row that begins with what it shows
abbrev pub Ready : State → Type 0
Ready a = (is_ok (checked a.nums) ≡ true) × ShownIn (sheet_in a.nums) a.values

-- from a to b by a write
pub record Wrote (w : Write) (a b : State) : Type 0 where
  pub memory : b.nums ≡ written_memory w a.nums
  pub sheet : Same (sheet_in b.nums) (written w (sheet_in a.nums))
  pub formed : checked b.nums ≡ Ok (size_in a.nums)
  pub values : b.values ≡ sheet_values (sheet_in b.nums) ++ drop (2 * count (sheet_in a.nums)) a.values
  pub shown : ShownIn (sheet_in b.nums) b.values
  pub changed : b.changed ≡ told (sheet_in a.nums) (written w (sheet_in a.nums))
  pub recalculated : b.recalculated ≡ worked w (sheet_in a.nums)

-- by the write that is asked for
abbrev pub WroteAsked : code.Write → State → State → Type 0
WroteAsked w a b = (v : Write) → allowed w (sheet_in a.nums) ≡ Ok v → Wrote v a b

-- what `write_cell` promises: the write that is asked for, or the first refusal that applies, and then nothing has changed; either way all is ready for the next write
pub record Writes (w : code.Write) (a : State) (r : Result (Unit {0}) Refusal) (b : State) : Type 0 where
  pub answer : r ≡ answered (allowed w (sheet_in a.nums))
  pub wrote : WroteAsked w a b
  pub refused : (e : Refusal) → allowed w (sheet_in a.nums) ≡ Err e → b ≡ a
  pub ready : Ready b

-- with another row of values
abbrev pub with_row : List ℕ → State → State
with_row row a = record { nums = a.nums; values = row; changed = a.changed; recalculated = a.recalculated }

-- what `write_shown` promises: the sheet is shown in the row, and then the write
pub record ShowsAndWrites (w : code.Write) (a : State) (r : Result (Unit {0}) Refusal) (b : State) : Type 0 where
  pub wrote : (row : List ℕ) → shown_in a.nums a.values ≡ Ok row → Writes w (with_row row a) r b
  pub refused : (e : Refusal) → shown_in a.nums a.values ≡ Err e → (r ≡ Err e) × (b ≡ a)
