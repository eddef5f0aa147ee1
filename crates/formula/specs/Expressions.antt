-- A formula where it stands in a row, and what it is made of. Assumes nothing: these are definitions.
use Rattle.std.specs.Prelude.{ℕ, ◌<◌, length, Some, None, Option}
use Rattle.std.specs.Option.{option_map}
use Rattle.formula.specs.declared.expression.Expression.{Expression}
use Rattle.formula.specs.declared.node.Node.{Node}
use Rattle.formula.specs.declared.node.Node.TheVariants.{Number, Cell, Fold, Binary, IfLess}
use Rattle.formula.specs.Formula.{Formula, number, cell, fold, binary, if_less}
use Rattle.formula.specs.Reading.{reads, formula_at}

-- the formula that an expression is
abbrev pub formula_of : Expression → Option Formula
formula_of e = formula_at e.nth (reads e.tokens.now)

abbrev pub of_two : (Formula → Formula → Formula) → Option Formula → Option Formula → Option Formula
of_two f None y = None
of_two f (Some x) y = option_map (f x) y

abbrev pub of_four : (Formula → Formula → Formula → Formula → Formula) → Option Formula → Option Formula → Option Formula → Option Formula → Option Formula
of_four f None y u v = None
of_four f (Some x) None u v = None
of_four f (Some x) (Some y) u v = of_two (f x y) u v

-- the formula that a node is
abbrev pub formula_in : Node → Option Formula
formula_in (Number n) = Some (number n)
formula_in (Cell p) = Some (cell p)
formula_in (Fold g b) = Some (fold g b)
formula_in (Binary op a b) = of_two (binary op) (formula_of a) (formula_of b)
formula_in (IfLess a b c d) = of_four if_less (formula_of a) (formula_of b) (formula_of c) (formula_of d)

abbrev pub Shorter : ℕ → Expression → Type 0
Shorter n e = length e.tokens.now < n

-- the operands stand in rows of fewer than n numbers
abbrev pub OperandsWithin : ℕ → Node → Type 0
OperandsWithin n (Number m) = Unit {0}
OperandsWithin n (Cell p) = Unit {0}
OperandsWithin n (Fold g b) = Unit {0}
OperandsWithin n (Binary op a b) = Shorter n a × Shorter n b
OperandsWithin n (IfLess a b c d) = Shorter n a × Shorter n b × Shorter n c × Shorter n d
