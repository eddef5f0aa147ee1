-- What is promised of a write. Assumes nothing: each is a definition or a statement.
use Rattle.std.specs.Prelude.{◌≡◌, true, ◌⊎◌, List, is_some, ◌≢◌}
use Rattle.formula.specs.declared.token.CellRef.{CellRef}
use Rattle.formula.specs.Tokens.{the_ref}
use Rattle.evaluate.specs.Knowledge.{In}
use Rattle.recalc.specs.Sheets.{Sheet, inside, held}
use Rattle.recalc.specs.Shown.{shown_at, Looks}
use Rattle.edit.specs.Writes.{Write, written}
use Rattle.edit.specs.Places.{Listed}
use Rattle.edit.specs.Changes.{told, worked}

-- a place of t that shows something else than in s
abbrev pub Changed : Sheet → Sheet → CellRef → Type 0
Changed s t p = (inside t p.row p.col ≡ true) × (shown_at t p ≢ shown_at s p)

-- a place that holds a formula now, and that is the written place or looked at a place that shows something else now
abbrev pub Recalculated : Write → Sheet → CellRef → Type 0
Recalculated w s p =
    (is_some (held (written w s) p.row p.col) ≡ true)
    × ((p ≡ the_ref w.row w.col) ⊎ ((q : CellRef) × Looks s p q × (shown_at (written w s) q ≢ shown_at s q)))

-- the lists are exactly these places
abbrev pub ToldExactly : Type 0
ToldExactly = (s t : Sheet) → Listed (Changed s t) (told s t)

abbrev pub WorkedExactly : Type 0
WorkedExactly = (w : Write) (s : Sheet) → Listed (Recalculated w s) (worked w s)

-- and no other list fits
abbrev pub OneListTold : Type 0
OneListTold = (s t : Sheet) (ps : List CellRef) → Listed (Changed s t) ps → ps ≡ told s t

abbrev pub OneListWorked : Type 0
OneListWorked = (w : Write) (s : Sheet) (ps : List CellRef) → Listed (Recalculated w s) ps → ps ≡ worked w s

-- what is neither written nor worked out again shows what it showed
abbrev pub NotWorkedStays : Type 0
NotWorkedStays =
    (w : Write) (s : Sheet) (p : CellRef) → (p ≢ the_ref w.row w.col) → (In p (worked w s) → ⊥) → shown_at (written w s) p ≡ shown_at s p
