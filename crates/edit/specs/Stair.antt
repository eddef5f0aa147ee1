-- The writes of a stair's day: what the cells then hold and show, what is told and what is worked out again. Assumes nothing: these are definitions and a statement.
use Rattle.std.specs.Prelude.{◌≡◌, ℕ, List, [], ◌∷◌, Some, None}
use Rattle.formula.specs.declared.token.CellRef.{CellRef}
use Rattle.formula.specs.declared.token.Aggregate.TheVariants.{Sum}
use Rattle.formula.specs.declared.token.Operator.TheVariants.{Multiply}
use Rattle.formula.specs.Tokens.{the_ref, the_range}
use Rattle.formula.specs.Formula.{Formula, number, cell, fold, binary}
use Rattle.evaluate.specs.declared.value.CellError.TheVariants.{Lost, Cycle}
use Rattle.evaluate.specs.declared.value.Value.{Value}
use Rattle.evaluate.specs.declared.value.Value.TheVariants.{Empty, Number, Error}
use Rattle.recalc.specs.Stair.{Held, row, sheet_of, rows_from, holds, ref, line, below, line_written, row_deleted, cycle_written, priced, alone}
use Rattle.edit.specs.Writes.{Write, written}
use Rattle.edit.specs.Changes.{told, worked}

abbrev pub put : ℕ → ℕ → Formula → Write
put r c x = record { row = r; col = c; what = Some x }

-- what the cells hold and show after a write, what is told and what is worked out again
pub record Outcome : Type 0 where
  pub held : Held
  pub shown : List (List Value)
  pub told : List CellRef
  pub worked : List CellRef

abbrev pub outcome : Held → Write → Outcome
outcome h w = record {
  held = holds (written w (sheet_of h));
  shown = rows_from (written w (sheet_of h)) 0 (sheet_of h).rows;
  told = told (sheet_of h) (written w (sheet_of h));
  worked = worked w (sheet_of h);
}

-- what is told is what is worked out again
abbrev pub all_told : Held → List (List Value) → List CellRef → Outcome
all_told h vs ps = record { held = h; shown = vs; told = ps; worked = ps }

-- a line whose product is still to be written
abbrev pub line_begun : Held
line_begun = line 0 14 35 ∷ row (Some (number 1)) (Some (number 75)) None ∷ line 2 2 60 ∷ below None 3

-- its product, another count, and a total of itself
abbrev pub StairWrites : Type 0
StairWrites =
    outcome line_begun (put 1 2 (binary Multiply (ref 1 0) (ref 1 1)))
    ∷ outcome (line_written 14) (put 0 0 (number 20))
    ∷ outcome (row_deleted (Some (cell None))) (put 0 0 (fold Sum (Some (the_range 0 1 0 1))))
    ∷ []
    ≡ all_told (line_written 14)
    (priced 14 35 490 ∷ priced 1 75 75 ∷ priced 2 60 120 ∷ alone (Number 685) ∷ alone (Number 685) ∷ [])
    (the_ref 1 2 ∷ the_ref 3 2 ∷ the_ref 4 2 ∷ [])
    ∷ all_told (line_written 20)
    (priced 20 35 700 ∷ priced 1 75 75 ∷ priced 2 60 120 ∷ alone (Number 895) ∷ alone (Number 895) ∷ [])
    (the_ref 0 0 ∷ the_ref 0 2 ∷ the_ref 3 2 ∷ the_ref 4 2 ∷ [])
    ∷ all_told cycle_written
    (row (Error Cycle) (Number 75) (Error Cycle) ∷ priced 2 60 120 ∷ row Empty (Error Lost) (Error Cycle) ∷ alone (Error Cycle) ∷ [])
    (the_ref 0 0 ∷ the_ref 0 2 ∷ the_ref 2 2 ∷ the_ref 3 2 ∷ [])
    ∷ []
