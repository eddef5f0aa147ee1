-- What is shown of a sheet in lent memory, written into a lent row. Assumes nothing: these are definitions.
use Rattle.std.specs.Prelude.{◌≡◌, ℕ, zero, suc, ◌*◌, ◌/◌, ◌%◌, cond, List, [], ◌∷◌, ◌++◌, length, drop, Ok, Err, Result, nat_le}
use Rattle.evaluate.specs.declared.value.Value.{Value}
use Rattle.evaluate.specs.declared.value.Value.TheVariants.{Empty}
use Rattle.evaluate.specs.Values.{value_numbers}
pub use Rattle.formula.specs.Results.{answered, kept, and_then}
use Rattle.recalc.specs.declared.refusal.Refusal.{Refusal}
use Rattle.recalc.specs.declared.refusal.Refusal.TheVariants.{NoRoom}
use Rattle.recalc.specs.declared.formulas.Progress.{Progress}
use Rattle.recalc.specs.declared.formulas.Progress.TheVariants.{Waiting, Open, Known}
use Rattle.recalc.specs.Layout.{checked}
use Rattle.recalc.specs.Table.{at}
use Rattle.recalc.specs.Sheets.{Sheet, shown, sheet_in}

-- what cell k shows, in reading order
abbrev pub nth_shown : Sheet → ℕ → Value
nth_shown s k = shown s (k / s.cols) (k % s.cols)

-- two numbers each for n cells, from cell k on
unfoldable pub values_from : (ℕ → Value) → ℕ → ℕ → List ℕ
values_from f k zero = []
values_from f k (suc n) = value_numbers (f k) ++ values_from f (suc k) n

-- two numbers a cell, in reading order
abbrev pub sheet_values : Sheet → List ℕ
sheet_values s = values_from (nth_shown s) 0 (s.rows * s.cols)

-- a row begins with what the cells show
abbrev pub ShownIn : Sheet → List ℕ → Type 0
ShownIn s row = row ≡ sheet_values s ++ drop (2 * (s.rows * s.cols)) row

-- the values, and behind them what the row held
abbrev pub in_front : List ℕ → ℕ → List ℕ → Result (List ℕ) Refusal
in_front values n out = cond (nat_le (2 * n) (length out)) (Ok (values ++ drop (2 * n) out)) (Err (NoRoom (length out)))

-- the row after the sheet is shown, or the first refusal that applies
abbrev pub shown_in : List ℕ → List ℕ → Result (List ℕ) Refusal
shown_in xs out = and_then (checked xs) (λ size. in_front (sheet_values (sheet_in xs)) (size.rows * size.cols) out)

abbrev pub value_known : Progress → Value
value_known Waiting = Empty
value_known (Open i) = Empty
value_known (Known v) = v

-- the numbers of a table in which every cell is known
abbrev pub table_numbers : List Progress → List ℕ
table_numbers [] = []
table_numbers (p ∷ t) = value_numbers (value_known p) ++ table_numbers t

-- what a table says that cell k shows
abbrev pub table_shows : List Progress → ℕ → Value
table_shows t k = value_known (at t k)

-- what `show_sheet` promises of its answer and of the row afterwards
abbrev pub Shows : List ℕ → List ℕ → Result (Unit {0}) Refusal → List ℕ → Type 0
Shows xs out r row = (r ≡ answered (shown_in xs out)) × (row ≡ kept out (shown_in xs out))

-- no second answer and no second row fits
abbrev pub OneResult : Type 0
OneResult = (xs out : List ℕ) (r r₁ : Result (Unit {0}) Refusal) (row row₁ : List ℕ) → Shows xs out r row → Shows xs out r₁ row₁ → (r ≡ r₁) × (row ≡ row₁)
