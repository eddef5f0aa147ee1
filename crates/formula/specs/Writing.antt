-- A formula written out in tokens. Assumes nothing: these are definitions.
use Rattle.std.specs.Prelude.{ℕ, ◌+◌, List, ◌++◌}
use Rattle.formula.specs.declared.token.Token.TheVariants.{Number, Cell, Fold, Binary, IfLess}
use Rattle.formula.specs.Tokens.{numbers}
use Rattle.formula.specs.Formula.{Formula, number, cell, fold, binary, if_less}

-- the formula, and then the rest
unfoldable pub writes : Formula → List ℕ → List ℕ
writes (number n) rest = numbers (Number n) ++ rest
writes (cell p) rest = numbers (Cell p) ++ rest
writes (fold g b) rest = numbers (Fold g b) ++ rest
writes (binary op x y) rest = numbers (Binary op) ++ writes x (writes y rest)
writes (if_less x y u v) rest = numbers IfLess ++ writes x (writes y (writes u (writes v rest)))

unfoldable pub token_count : Formula → ℕ
token_count (number n) = 1
token_count (cell p) = 1
token_count (fold g b) = 1
token_count (binary op x y) = 1 + token_count x + token_count y
token_count (if_less x y u v) = 1 + token_count x + token_count y + token_count u + token_count v
