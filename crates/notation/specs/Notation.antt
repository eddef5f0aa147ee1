-- The readable notation of a formula. Assumes nothing: these are definitions.
use Rattle.std.specs.Prelude.{ℕ, Bool, true, false, List, ◌++◌, Some, None, codes, decimal, Option}
use Rattle.formula.specs.declared.token.CellRef.{CellRef}
use Rattle.formula.specs.declared.token.Range.{Range}
use Rattle.formula.specs.declared.token.Aggregate.{Aggregate}
use Rattle.formula.specs.declared.token.Aggregate.TheVariants.{Sum, Count, Max}
use Rattle.formula.specs.declared.token.Operator.{Operator}
use Rattle.formula.specs.declared.token.Operator.TheVariants.{Add, Subtract, Multiply, Divide}
use Rattle.formula.specs.Formula.{Formula, number, cell, fold, binary, if_less}
use Rattle.formula.specs.Reading.{spelled}
use Rattle.formula.specs.Texts.{place_text}

abbrev pub cell_text : Option CellRef → List ℕ
cell_text (Some p) = codes "(" ++ place_text p.row p.col ++ codes ")"
cell_text None = codes "lost"

-- the first, and how many there are
abbrev pub span_text : ℕ → ℕ → List ℕ
span_text first count = decimal first ++ codes "+" ++ decimal count

abbrev pub range_text : Option Range → List ℕ
range_text (Some b) = codes "rows " ++ span_text b.row b.rows ++ codes ", columns " ++ span_text b.col b.cols
range_text None = codes "lost"

abbrev pub name : Aggregate → List ℕ
name Sum = codes "total"
name Count = codes "count"
name Max = codes "most"

abbrev pub fold_text : Aggregate → Option Range → List ℕ
fold_text g b = name g ++ codes "(" ++ range_text b ++ codes ")"

abbrev pub sign : Operator → List ℕ
sign Add = codes " + "
sign Subtract = codes " - "
sign Multiply = codes " * "
sign Divide = codes " / "

-- in parentheses, where it stands inside another
abbrev pub enclosed : Bool → List ℕ → List ℕ
enclosed true t = codes "(" ++ t ++ codes ")"
enclosed false t = t

abbrev pub text_in : Bool → Formula → List ℕ
text_in inside (number n) = decimal n
text_in inside (cell p) = cell_text p
text_in inside (fold g b) = fold_text g b
text_in inside (binary op x y) = enclosed inside (text_in true x ++ sign op ++ text_in true y)
text_in inside (if_less x y u v) =
    enclosed inside (codes "if " ++ text_in true x ++ codes " < " ++ text_in true y ++ codes " then " ++ text_in true u ++ codes " else " ++ text_in true v)

abbrev pub text : Formula → List ℕ
text f = text_in false f

abbrev pub text_or_malformed : Option Formula → List ℕ
text_or_malformed (Some f) = text f
text_or_malformed None = codes "malformed"

-- the text of the formula that a row of tokens spells
abbrev pub formula_text : List ℕ → List ℕ
formula_text xs = text_or_malformed (spelled xs)
