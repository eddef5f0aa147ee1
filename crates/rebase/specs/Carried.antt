-- A row of writes, and writes carried over a shift that was made apart from them. Assumes nothing: these are definitions.
use Rattle.std.specs.Prelude.{List, [], ◌∷◌, Some, None, Ok, Err, Option, Result}
use Rattle.recalc.specs.declared.refusal.Refusal.{Refusal}
use Rattle.recalc.specs.Sheets.{Sheet}
use Rattle.shift.specs.declared.shift.Shift.{Shift}
use Rattle.shift.specs.Shifts.{unless, place_lost, row_to, col_to}
use Rattle.shift.specs.Sheets.{shift_cell}
use Rattle.edit.specs.declared.write.Write as code
use Rattle.edit.specs.Writes.{Write, written, allowed}

-- one write after the other
unfoldable pub all_written : List Write → Sheet → Sheet
all_written [] s = s
all_written (w ∷ ws) s = all_written ws (written w s)

-- a write at the place to which a shift moves its cell, its formula shifted as if it had stood there
abbrev pub write_to : Shift → Write → Write
write_to d w = record { row = row_to d w.row; col = col_to d w.col; what = shift_cell d w.what }

-- that, or nothing if its line was deleted
abbrev pub carried_one : Shift → Write → Option Write
carried_one d w = unless (place_lost d w.row w.col) (write_to d w)

abbrev pub with_any : {A : Type 0} → Option A → List A → List A
with_any None xs = xs
with_any (Some x) xs = x ∷ xs

unfoldable pub carried : Shift → List Write → List Write
carried d [] = []
carried d (w ∷ ws) = with_any (carried_one d w) (carried d ws)

-- with a write, unless it is refused
abbrev pub accept : Result Write Refusal → List Write → List Write
accept (Ok v) vs = v ∷ vs
accept (Err e) vs = vs

-- the writes that the code asks for on the sheet s, but for those that are refused
unfoldable pub accepted : List code.Write → Sheet → List Write
accepted [] s = []
accepted (w ∷ ws) s = accept (allowed w s) (accepted ws s)
