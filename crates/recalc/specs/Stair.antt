-- A stair as it goes through a day, and what it shows each time. Assumes nothing: these are definitions and a statement.
use Rattle.std.specs.Prelude.{◌≡◌, ℕ, zero, suc, List, [], ◌∷◌, length, Some, None, Option, slice_index_or}
use Rattle.formula.specs.declared.token.Aggregate.TheVariants.{Sum}
use Rattle.formula.specs.declared.token.Operator.TheVariants.{Multiply}
use Rattle.formula.specs.Tokens.{the_ref, the_range}
use Rattle.formula.specs.Formula.{Formula, number, cell, fold, binary, if_less}
use Rattle.evaluate.specs.declared.value.CellError.TheVariants.{Lost, Cycle}
use Rattle.evaluate.specs.declared.value.Value.{Value}
use Rattle.evaluate.specs.declared.value.Value.TheVariants.{Empty, Number, Error}
use Rattle.recalc.specs.Sheets.{Sheet, held, shown}

-- three columns of what the cells hold, and of what they show
abbrev pub Held : Type 0
Held = List (List (Option Formula))

abbrev pub row : {A : Type 0} → A → A → A → List A
row a b c = a ∷ b ∷ c ∷ []

abbrev pub sheet_of : Held → Sheet
sheet_of h = record { rows = length h; cols = 3; cells = λ r c. slice_index_or (slice_index_or h r []) c None }

abbrev pub rows_from : Sheet → ℕ → ℕ → List (List Value)
rows_from s r zero = []
rows_from s r (suc n) = row (shown s r 0) (shown s r 1) (shown s r 2) ∷ rows_from s (suc r) n

-- what its cells hold
abbrev pub holds_from : Sheet → ℕ → ℕ → Held
holds_from s r zero = []
holds_from s r (suc n) = row (held s r 0) (held s r 1) (held s r 2) ∷ holds_from s (suc r) n

abbrev pub holds : Sheet → Held
holds s = holds_from s 0 s.rows

abbrev pub shows : Held → List (List Value)
shows h = rows_from (sheet_of h) 0 (length h)

abbrev pub ref : ℕ → ℕ → Formula
ref r c = cell (Some (the_ref r c))

-- how many at which price, and their product; the sum of the first n products; that of row r, but at least 500
abbrev pub line : ℕ → ℕ → ℕ → List (Option Formula)
line r n p = row (Some (number n)) (Some (number p)) (Some (binary Multiply (ref r 0) (ref r 1)))

abbrev pub total : ℕ → Option Formula
total n = Some (fold Sum (Some (the_range 0 n 2 1)))

abbrev pub at_least : ℕ → Option Formula
at_least r = Some (if_less (ref r 2) (number 500) (number 500) (ref r 2))

abbrev pub below : Option Formula → ℕ → Held
below note n = row None note (total n) ∷ row None None (at_least n) ∷ []

abbrev pub stair : Held
stair = line 0 14 35 ∷ line 1 2 60 ∷ below None 2

abbrev pub row_inserted : Held
row_inserted = line 0 14 35 ∷ row None None None ∷ line 2 2 60 ∷ below None 3

abbrev pub line_written : ℕ → Held
line_written n = line 0 n 35 ∷ line 1 1 75 ∷ line 2 2 60 ∷ below None 3

-- row 0 is gone, and with it what the note named
abbrev pub row_deleted : Option Formula → Held
row_deleted note = line 0 1 75 ∷ line 1 2 60 ∷ below note 2

-- a cell that totals itself
abbrev pub cycle_written : Held
cycle_written =
    row (Some (fold Sum (Some (the_range 0 1 0 1)))) (Some (number 75)) (Some (binary Multiply (ref 0 0) (ref 0 1)))
    ∷ line 1 2 60 ∷ below (Some (cell None)) 2

abbrev pub priced : ℕ → ℕ → ℕ → List Value
priced n p q = row (Number n) (Number p) (Number q)

abbrev pub alone : Value → List Value
alone v = row Empty Empty v

-- each time, every cell shows what one works out by hand
abbrev pub StairShows : Type 0
StairShows =
    shows stair
    ∷ shows row_inserted
    ∷ shows (line_written 14)
    ∷ shows (row_deleted None)
    ∷ shows (line_written 20)
    ∷ shows (row_deleted (Some (cell None)))
    ∷ shows cycle_written
    ∷ []
    ≡ (priced 14 35 490 ∷ priced 2 60 120 ∷ alone (Number 610) ∷ alone (Number 610) ∷ [])
    ∷ (priced 14 35 490 ∷ alone Empty ∷ priced 2 60 120 ∷ alone (Number 610) ∷ alone (Number 610) ∷ [])
    ∷ (priced 14 35 490 ∷ priced 1 75 75 ∷ priced 2 60 120 ∷ alone (Number 685) ∷ alone (Number 685) ∷ [])
    ∷ (priced 1 75 75 ∷ priced 2 60 120 ∷ alone (Number 195) ∷ alone (Number 500) ∷ [])
    ∷ (priced 20 35 700 ∷ priced 1 75 75 ∷ priced 2 60 120 ∷ alone (Number 895) ∷ alone (Number 895) ∷ [])
    ∷ (priced 1 75 75 ∷ priced 2 60 120 ∷ row Empty (Error Lost) (Number 195) ∷ alone (Number 500) ∷ [])
    ∷ (row (Error Cycle) (Number 75) (Error Cycle) ∷ priced 2 60 120 ∷ row Empty (Error Lost) (Error Cycle) ∷ alone (Error Cycle) ∷ [])
    ∷ []
