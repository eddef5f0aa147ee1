-- What is promised of writes and a shift that were made apart. Assumes nothing: each is a definition or a statement.
use Rattle.std.specs.Prelude.{◌≡◌, ℕ, ◌^◌, ◌<◌, false, List, ◌≢◌}
use Rattle.formula.specs.Results.{answered}
use Rattle.evaluate.specs.declared.value.Value.TheVariants.{Empty}
use Rattle.recalc.specs.declared.size.Size.{Size}
use Rattle.recalc.specs.Sheets.{Sheet, shown, sheet_in, Same}
use Rattle.shift.specs.declared.shift.Change.TheVariants.{Insert, Delete}
use Rattle.shift.specs.declared.shift.Shift.{Shift}
use Rattle.shift.specs.Shifts.{by_axis, place_lost, row_to, col_to}
use Rattle.shift.specs.Sheets.{shifted, Allowed, without}
use Rattle.edit.specs.declared.write.Write as code
use Rattle.edit.specs.Writes.{Write, allowed}
use Rattle.rebase.specs.Carried.{all_written, carried, accepted}
use Rattle.rebase.specs.Rebased.{rebased}

-- one person wrote ws into the sheet s, and another shifted it: t is what comes of both
pub record Together (d : Shift) (ws : List Write) (s t : Sheet) : Type 0 where
  -- the same formulas stand at the same places as if the writes had been first
  pub same : Same t (shifted d (all_written ws s))
  -- and every cell shows the same
  pub shows : (r c : ℕ) → shown t r c ≡ shown (shifted d (all_written ws s)) r c
  -- where a line was inserted, each cell shows at its new place what the writes alone would have made it show
  pub inserted : d.change ≡ Insert → (r c : ℕ) → shown t (row_to d r) (col_to d c) ≡ shown (all_written ws s) r c
  -- and the new line is empty
  pub new : d.change ≡ Insert → (r c : ℕ) → by_axis d.axis r c ≡ d.line → shown t r c ≡ Empty
  -- where a line was deleted, each other cell shows what it would if that line were blank and what named a cell of it, or a range of it alone, were lost
  pub deleted : d.change ≡ Delete → (r c : ℕ) → (by_axis d.axis r c ≢ d.line) → shown t (row_to d r) (col_to d c) ≡ shown (without d.axis d.line (all_written ws s)) r c

-- whichever was first: the shift, and then the writes carried over it, come to that
abbrev pub EitherFirst : Type 0
EitherFirst =
    (most : Size) → most.rows < 2 ^ 64 → most.cols < 2 ^ 64 → (s : Sheet) (d : Shift) (ws : List Write) → Allowed d s most
    → Together d ws s (all_written (carried d ws) (shifted d s))

-- a carried write whose line was not deleted is refused exactly as it would have been on the sheet before the shift
abbrev pub RefusedAlike : Type 0
RefusedAlike =
    (most : Size) → most.rows < 2 ^ 64 → most.cols < 2 ^ 64 → (s : Sheet) (d : Shift) (w : code.Write) → Allowed d s most
    → place_lost d w.place.row w.place.col ≡ false → answered (rebased d w (shifted d s)) ≡ answered (allowed w s)

-- of the memories before and after a row of carried writes: whichever sheet was shifted, and whichever writes were asked for on it, what is in the memory is what comes of both
abbrev pub BroughtTogether : Shift → List code.Write → List ℕ → List ℕ → Type 0
BroughtTogether d ws xs ys =
    (most : Size) → most.rows < 2 ^ 64 → most.cols < 2 ^ 64 → (s : Sheet) → Allowed d s most → Same (sheet_in xs) (shifted d s) → Together d (accepted ws s) s (sheet_in ys)
