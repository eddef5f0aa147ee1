-- What five numbers of a lent row stand for. Assumes nothing: these are definitions.
use Rattle.std.specs.Prelude.{ℕ, List, [], ◌∷◌, Some, None, Option, slice_index, slice_index_or}
use Rattle.std.specs.Option.{option_map}
use Rattle.formula.specs.declared.token.CellRef.{CellRef}
use Rattle.formula.specs.declared.token.Range.{Range}
use Rattle.formula.specs.declared.token.Aggregate.{Aggregate}
use Rattle.formula.specs.declared.token.Aggregate.TheVariants.{Sum, Count, Max}
use Rattle.formula.specs.declared.token.Operator.{Operator}
use Rattle.formula.specs.declared.token.Operator.TheVariants.{Add, Subtract, Multiply, Divide}
use Rattle.formula.specs.declared.token.Token.{Token}
use Rattle.formula.specs.declared.token.Token.TheVariants.{Number, Cell, Fold, Binary, IfLess}

abbrev pub the_ref : ℕ → ℕ → CellRef
the_ref a b = record { row = a; col = b }

abbrev pub the_range : ℕ → ℕ → ℕ → ℕ → Range
the_range a b c d = record { row = a; rows = b; col = c; cols = d }

-- the tokens by their kind, from 0 on
abbrev pub kinds : ℕ → ℕ → ℕ → ℕ → List (Option Token)
kinds a b c d =
    Some (Number a)
    ∷ Some (Cell (Some (the_ref a b)))
    ∷ Some (Cell None)
    ∷ Some (Fold Sum (Some (the_range a b c d)))
    ∷ Some (Fold Count (Some (the_range a b c d)))
    ∷ Some (Fold Max (Some (the_range a b c d)))
    ∷ Some (Fold Sum None)
    ∷ Some (Fold Count None)
    ∷ Some (Fold Max None)
    ∷ Some (Binary Add)
    ∷ Some (Binary Subtract)
    ∷ Some (Binary Multiply)
    ∷ Some (Binary Divide)
    ∷ Some IfLess
    ∷ []

abbrev pub token : ℕ → ℕ → ℕ → ℕ → ℕ → Option Token
token k a b c d = slice_index_or (kinds a b c d) k None

-- the same of a kind and four numbers one after another
abbrev pub token_in : List ℕ → Option Token
token_in ns = token (slice_index ns 0) (slice_index ns 1) (slice_index ns 2) (slice_index ns 3) (slice_index ns 4)

-- how many formulas stand after a token
abbrev pub needs : Token → ℕ
needs (Number n) = 0
needs (Cell p) = 0
needs (Fold g r) = 0
needs (Binary op) = 2
needs IfLess = 4

-- the first token, and what is left after it
abbrev pub decoded : List ℕ → Option (Token × List ℕ)
decoded [] = None
decoded (k ∷ []) = None
decoded (k ∷ a ∷ []) = None
decoded (k ∷ a ∷ b ∷ []) = None
decoded (k ∷ a ∷ b ∷ c ∷ []) = None
decoded (k ∷ a ∷ b ∷ c ∷ d ∷ xs) = option_map (λ t. (t, xs)) (token k a b c d)

module _ {A : Type 0} (stop : List ℕ → A) (step : Token → List ℕ → A → A) where
  abbrev pub or_stop : Option Token → List ℕ → List ℕ → A → A
  or_stop None all xs more = stop all
  or_stop (Some t) all xs more = step t xs more

  -- a row gone through token by token, up to the first that is none
  unfoldable pub by_tokens : List ℕ → A
  by_tokens [] = stop []
  by_tokens (k ∷ []) = stop (k ∷ [])
  by_tokens (k ∷ a ∷ []) = stop (k ∷ a ∷ [])
  by_tokens (k ∷ a ∷ b ∷ []) = stop (k ∷ a ∷ b ∷ [])
  by_tokens (k ∷ a ∷ b ∷ c ∷ []) = stop (k ∷ a ∷ b ∷ c ∷ [])
  by_tokens (k ∷ a ∷ b ∷ c ∷ d ∷ xs) = or_stop (token k a b c d) (k ∷ a ∷ b ∷ c ∷ d ∷ xs) xs (by_tokens xs)

abbrev five : ℕ → ℕ → ℕ → ℕ → ℕ → List ℕ
five k a b c d = k ∷ a ∷ b ∷ c ∷ d ∷ []

abbrev fold_kind : Aggregate → ℕ
fold_kind Sum = 3
fold_kind Count = 4
fold_kind Max = 5

abbrev lost_kind : Aggregate → ℕ
lost_kind Sum = 6
lost_kind Count = 7
lost_kind Max = 8

abbrev operator_kind : Operator → ℕ
operator_kind Add = 9
operator_kind Subtract = 10
operator_kind Multiply = 11
operator_kind Divide = 12

-- a token as it is written, the unused numbers 0
abbrev pub numbers : Token → List ℕ
numbers (Number n) = five 0 n 0 0 0
numbers (Cell (Some p)) = five 1 p.row p.col 0 0
numbers (Cell None) = five 2 0 0 0 0
numbers (Fold g (Some b)) = five (fold_kind g) b.row b.rows b.col b.cols
numbers (Fold g None) = five (lost_kind g) 0 0 0 0
numbers (Binary op) = five (operator_kind op) 0 0 0 0
numbers IfLess = five 13 0 0 0 0
