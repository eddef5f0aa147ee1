-- The formulas that a row of numbers spells. Assumes nothing: these are definitions.
use Rattle.std.specs.Prelude.{◌≡◌, ℕ, zero, suc, ◌<◌, true, cond, List, [], ◌∷◌, length, is_some, Some, None, Option, nat_le}
use Rattle.formula.specs.declared.token.Token.{Token}
use Rattle.formula.specs.declared.token.Token.TheVariants.{Number, Cell, Fold, Binary, IfLess}
use Rattle.formula.specs.Layout.{formula_len}
use Rattle.formula.specs.Tokens.{needs, decoded, by_tokens}
use Rattle.formula.specs.Formula.{Formula, number, cell, fold, binary, if_less}

-- a formula, and the numbers after it
pub record Read : Type 0 where
  pub formula : Formula
  pub rest : List ℕ

abbrev pub read : Formula → List ℕ → Read
read f xs = record { formula = f; rest = xs }

abbrev pub two : (Formula → Formula → Formula) → List Read → List Read
two f [] = []
two f (x ∷ []) = []
two f (x ∷ y ∷ more) = read (f x.formula y.formula) y.rest ∷ more

abbrev pub four : (Formula → Formula → Formula → Formula → Formula) → List Read → List Read
four f [] = []
four f (x ∷ []) = []
four f (x ∷ y ∷ []) = []
four f (x ∷ y ∷ u ∷ []) = []
four f (x ∷ y ∷ u ∷ v ∷ more) = read (f x.formula y.formula u.formula v.formula) v.rest ∷ more

-- a token takes the formulas that it needs from those that stand after it
abbrev pub joins : Token → List ℕ → List Read → List Read
joins (Number n) xs more = read (number n) xs ∷ more
joins (Cell p) xs more = read (cell p) xs ∷ more
joins (Fold g r) xs more = read (fold g r) xs ∷ more
joins (Binary op) xs more = two (binary op) more
joins IfLess xs more = four if_less more

-- the formulas that stand one after another from here on, as far as there are any
unfoldable pub reads : List ℕ → List Read
reads xs = by_tokens (λ _. []) joins xs

abbrev pub rest_at : ℕ → List Read → Option (List ℕ)
rest_at n [] = None
rest_at zero (x ∷ more) = Some x.rest
rest_at (suc n) (x ∷ more) = rest_at n more

-- what is left after n formulas
abbrev pub after : ℕ → List ℕ → Option (List ℕ)
after zero xs = Some xs
after (suc n) xs = rest_at n (reads xs)

abbrev pub begun : Option (List ℕ) → Option (Token × List ℕ)
begun None = None
begun (Some xs) = decoded xs

-- the token with which the formula after n others begins, and the numbers after it
abbrev pub operand_of : ℕ → List ℕ → Option (Token × List ℕ)
operand_of n xs = begun (after n xs)

abbrev pub formula_at : ℕ → List Read → Option Formula
formula_at n [] = None
formula_at zero (x ∷ more) = Some x.formula
formula_at (suc n) (x ∷ more) = formula_at n more

-- the formula after n others begins with a token, and after that stand its operands
pub record Operand (n : ℕ) (xs : List ℕ) (t : Token) (rest : List ℕ) : Type 0 where
  pub shorter : length rest < length xs
  pub begins : formula_at n (reads xs) ≡ formula_at 0 (joins t rest (reads rest))
  pub operands : is_some (formula_at n (reads xs)) ≡ true → (k : ℕ) → k < needs t → is_some (formula_at k (reads rest)) ≡ true

abbrev pub ends : List ℕ → Formula → Option Formula
ends [] f = Some f
ends (x ∷ xs) f = None

abbrev pub whole : List Read → Option Formula
whole [] = None
whole (x ∷ more) = ends x.rest x.formula

-- the formula that a row of at most 12 tokens is
abbrev pub spelled : List ℕ → Option Formula
spelled xs = cond (nat_le (length xs) formula_len) (whole (reads xs)) None
