-- A write and the sheet after it; what the code asks for, and when that is refused. Assumes nothing: these are definitions.
use Rattle.std.specs.Prelude.{ℕ, Bool, cond, ◌&&◌, Some, None, Ok, Err, List, Option, Result, ◌==◌}
use denote.Ref.{Bor}
use Rattle.std.specs.Option.{option_map}
use Rattle.formula.specs.Formula as formula
use Rattle.formula.specs.Reading.{spelled}
pub use Rattle.formula.specs.Results.{answered}
use Rattle.recalc.specs.declared.refusal.Refusal.{Refusal}
use Rattle.recalc.specs.declared.refusal.Refusal.TheVariants.{Malformed, Outside}
use Rattle.recalc.specs.Sheets.{Sheet, inside}
use Rattle.edit.specs.declared.write.Write as code

-- what comes to stand at a place; None is a blank
pub record Write : Type 0 where
  pub row : ℕ
  pub col : ℕ
  pub what : Option formula.Formula

-- the place that is written
abbrev pub target : Write → ℕ → ℕ → Bool
target w r c = r == w.row && c == w.col

-- the sheet with that cell; a write outside it changes nothing
abbrev pub written : Write → Sheet → Sheet
written w s = record { rows = s.rows; cols = s.cols; cells = λ r c. cond (target w r c && inside s r c) w.what (s.cells r c) }

-- what is asked for: a cell, or None where the tokens are no formula
abbrev pub asked : Option (Bor (List ℕ)) → Option (Option formula.Formula)
asked None = Some None
asked (Some ts) = option_map Some (spelled ts.now)

abbrev pub put_inside : Sheet → ℕ → ℕ → Option (Option formula.Formula) → Result Write Refusal
put_inside s r c None = Err (Malformed 0)
put_inside s r c (Some x) = cond (inside s r c) (Ok (record { row = r; col = c; what = x })) (Err Outside)

-- the write that the code asks for, or the first refusal that applies
abbrev pub allowed : code.Write → Sheet → Result Write Refusal
allowed w s = put_inside s w.place.row w.place.col (asked w.formula)
