-- A formula whose references and ranges move. Assumes nothing: these are definitions.
use Rattle.std.specs.Prelude.{ℕ, List, ◌++◌, Some, None, Option}
use Rattle.formula.specs.declared.token.CellRef.{CellRef}
use Rattle.formula.specs.declared.token.Range.{Range}
use Rattle.formula.specs.declared.token.Token.{Token}
use Rattle.formula.specs.declared.token.Token.TheVariants.{Number, Cell, Fold, Binary, IfLess}
use Rattle.formula.specs.Tokens.{numbers, by_tokens}
use Rattle.formula.specs.Formula.{Formula, number, cell, fold, binary, if_less}

-- what is lost stays lost
abbrev pub unless_lost : {A : Type 0} → (A → Option A) → Option A → Option A
unless_lost f None = None
unless_lost f (Some x) = f x

module _ (m : CellRef → Option CellRef) (n : Range → Option Range) where
  abbrev pub moved_token : Token → Token
  moved_token (Number a) = Number a
  moved_token (Cell p) = Cell (unless_lost m p)
  moved_token (Fold g b) = Fold g (unless_lost n b)
  moved_token (Binary op) = Binary op
  moved_token IfLess = IfLess

  abbrev pub moved_formula : Formula → Formula
  moved_formula (number a) = number a
  moved_formula (cell p) = cell (unless_lost m p)
  moved_formula (fold g b) = fold g (unless_lost n b)
  moved_formula (binary op x y) = binary op (moved_formula x) (moved_formula y)
  moved_formula (if_less x y u v) = if_less (moved_formula x) (moved_formula y) (moved_formula u) (moved_formula v)

  -- a row, token by token, up to the first that is none
  unfoldable pub moved_row : List ℕ → List ℕ
  moved_row xs = by_tokens (λ same. same) (λ t _ more. numbers (moved_token t) ++ more) xs
