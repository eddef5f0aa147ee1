-- A stair with a row inserted and with a row deleted: what its cells then hold and show. Assumes nothing: these are definitions and a statement.
use Rattle.std.specs.Prelude.{◌≡◌, ℕ, List, [], ◌∷◌, Some, None}
use Rattle.formula.specs.Formula.{cell}
use Rattle.evaluate.specs.declared.value.CellError.TheVariants.{Lost}
use Rattle.evaluate.specs.declared.value.Value.{Value}
use Rattle.evaluate.specs.declared.value.Value.TheVariants.{Empty, Number, Error}
use Rattle.recalc.specs.Sheets.{Sheet}
use Rattle.recalc.specs.Stair.{Held, row, sheet_of, rows_from, holds, ref, line, below, stair, row_inserted, line_written, row_deleted, priced, alone}
use Rattle.shift.specs.declared.shift.Axis.TheVariants.{Row}
use Rattle.shift.specs.declared.shift.Change.{Change}
use Rattle.shift.specs.declared.shift.Change.TheVariants.{Insert, Delete}
use Rattle.shift.specs.Shifts.{the_shift}
use Rattle.shift.specs.Sheets.{shifted}

-- a stair of which row p changed
abbrev pub changed : Change → ℕ → Held → Sheet
changed h p x = shifted (the_shift Row h p) (sheet_of x)

abbrev pub shows : Sheet → List (List Value)
shows s = rows_from s 0 s.rows

-- a note names the cell that the deletion of row 0 takes away
abbrev pub noted : Held
noted = line 0 20 35 ∷ line 1 1 75 ∷ line 2 2 60 ∷ below (Some (ref 0 0)) 3

-- the formulas are those that one would write by hand, and so is what is shown
abbrev pub StairShifts : Type 0
StairShifts =
    (holds (changed Insert 1 stair) ∷ holds (changed Delete 0 (line_written 14)) ∷ holds (changed Delete 0 noted) ∷ []
    ≡ row_inserted ∷ row_deleted None ∷ row_deleted (Some (cell None)) ∷ [])
    × (shows (changed Insert 1 stair) ∷ shows (changed Delete 0 (line_written 14)) ∷ shows (changed Delete 0 noted) ∷ []
    ≡ (priced 14 35 490 ∷ alone Empty ∷ priced 2 60 120 ∷ alone (Number 610) ∷ alone (Number 610) ∷ [])
    ∷ (priced 1 75 75 ∷ priced 2 60 120 ∷ alone (Number 195) ∷ alone (Number 500) ∷ [])
    ∷ (priced 1 75 75 ∷ priced 2 60 120 ∷ row Empty (Error Lost) (Number 195) ∷ alone (Number 500) ∷ [])
    ∷ [])
