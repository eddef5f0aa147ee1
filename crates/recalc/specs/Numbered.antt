-- The cells of a sheet by their numbers in reading order, as the engine has them. Assumes nothing: these are definitions.
use Rattle.std.specs.Prelude.{◌≡◌, ℕ, ◌+◌, ◌*◌, ◌/◌, ◌%◌, true, cond, List, is_ok, Some, None, Ok, Err, Option, Result}
use Rattle.formula.specs.declared.token.CellRef.{CellRef}
use Rattle.formula.specs.Formula.{Formula}
use Rattle.evaluate.specs.declared.value.Value.{Value}
use Rattle.evaluate.specs.declared.value.Value.TheVariants.{Empty, Number, Error}
use Rattle.evaluate.specs.declared.stop.Stop.{Stop}
use Rattle.evaluate.specs.declared.stop.Stop.TheVariants as stop
use Rattle.evaluate.specs.Evaluation.{attempt}
use Rattle.evaluate.specs.Knowledge.{In}
use Rattle.recalc.specs.declared.formulas.Progress.{Progress}
use Rattle.recalc.specs.declared.formulas.Progress.TheVariants.{Waiting, Open, Known}
use Rattle.recalc.specs.Layout.{checked}
use Rattle.recalc.specs.Table.{at}
use Rattle.recalc.specs.Sheets.{Sheet, inside, held, cell_shows, cell_looks, sheet_in}
use Rattle.recalc.specs.Language.{Language}

abbrev pub count : Sheet → ℕ
count s = s.rows * s.cols

abbrev pub number_of : Sheet → CellRef → ℕ
number_of s p = p.row * s.cols + p.col

-- cell k
abbrev pub nth_cell : Sheet → ℕ → Option Formula
nth_cell s k = held s (k / s.cols) (k % s.cols)

-- values by number, laid out on the sheet; outside it every cell is empty
abbrev pub laid : Sheet → (ℕ → Value) → ℕ → ℕ → Value
laid s f r c = cond (inside s r c) (f (r * s.cols + c)) Empty

-- what cell k comes to where cell j shows f j
abbrev pub worked : Sheet → (ℕ → Value) → ℕ → Value
worked s f k = cell_shows (laid s f) (nth_cell s k)

-- cell k looks at cell j for that
abbrev pub LooksAt : Sheet → (ℕ → Value) → ℕ → ℕ → Type 0
LooksAt s f k j = (q : CellRef) × In q (cell_looks (laid s f) (nth_cell s k)) × (inside s q.row q.col ≡ true) × (number_of s q ≡ j)

abbrev pub known_of : Progress → Option Value
known_of Waiting = None
known_of (Open i) = None
known_of (Known v) = Some v

-- what a table says that the cells of a sheet show; not `laid` with another value outside, since a size is all that is known here of the sheet
abbrev pub laid_known : ℕ → ℕ → List Progress → ℕ → ℕ → Option Value
laid_known h w t r c = cond (inside (record { rows = h; cols = w; cells = λ i j. None }) r c) (known_of (at t (r * w + c))) (Some Empty)

-- a sheet as a language of formulas
abbrev pub sheet_language : Sheet → Language
sheet_language s = record { count = count s; work = worked s; looks = LooksAt s }

-- the sheet that lies in a memory; none where that is refused
abbrev pub readable : List ℕ → Sheet
readable xs = cond (is_ok (checked xs)) (sheet_in xs) (record { rows = 0; cols = 0; cells = λ r c. None })

-- the end of a formula's work as what its cell shows, or the place that is wanted
abbrev pub tried : Result ℕ Stop → Result Value CellRef
tried (Ok n) = Ok (Number n)
tried (Err (stop.Error e)) = Ok (Error e)
tried (Err (stop.Needs p)) = Err p

-- a cell worked out from what is known
abbrev pub tried_cell : (ℕ → ℕ → Option Value) → Option Formula → Result Value CellRef
tried_cell t None = Ok Empty
tried_cell t (Some x) = tried (attempt t x)

-- the same as the engine has it; no map over results, since each case says in a word what it stands for
abbrev pub as_attempt : Sheet → Result Value CellRef → Result Value ℕ
as_attempt s (Ok v) = Ok v
as_attempt s (Err q) = Err (number_of s q)
