-- A formula in a row: a token, and after it the formulas that the token needs. Assumes nothing: this is a definition.
use Rattle.std.specs.Prelude.{◌≡◌, ℕ, List, Some, Option}
use Rattle.formula.specs.declared.token.CellRef.{CellRef}
use Rattle.formula.specs.declared.token.Range.{Range}
use Rattle.formula.specs.declared.token.Aggregate.{Aggregate}
use Rattle.formula.specs.declared.token.Operator.{Operator}
use Rattle.formula.specs.declared.token.Token.TheVariants.{Number, Cell, Fold, Binary, IfLess}
use Rattle.formula.specs.Tokens.{decoded}
use Rattle.formula.specs.Formula.{Formula, number, cell, fold, binary, if_less}

-- the first row begins with the formula, and the second is what is left
pub data Spells : List ℕ → Formula → List ℕ → Type 0 where
  a_number : {n : ℕ} {ws bs : List ℕ} → decoded ws ≡ Some (Number n, bs) → Spells ws (number n) bs
  a_cell : {p : Option CellRef} {ws bs : List ℕ} → decoded ws ≡ Some (Cell p, bs) → Spells ws (cell p) bs
  a_fold : {g : Aggregate} {b : Option Range} {ws bs : List ℕ} → decoded ws ≡ Some (Fold g b, bs) → Spells ws (fold g b) bs
  an_operation : {op : Operator} {x y : Formula} {ws bs cs ds : List ℕ} → decoded ws ≡ Some (Binary op, bs)
      → Spells bs x cs → Spells cs y ds → Spells ws (binary op x y) ds
  a_choice : {x y u v : Formula} {ws bs cs ds es fs : List ℕ} → decoded ws ≡ Some (IfLess, bs)
      → Spells bs x cs → Spells cs y ds → Spells ds u es → Spells es v fs → Spells ws (if_less x y u v) fs
