-- The two numbers of a value in a lent row, and its text. Assumes nothing: these are definitions.
use Rattle.std.specs.Prelude.{◌≡◌, ℕ, List, [], ◌∷◌, Some, None, codes, decimal, Option, slice_index, slice_index_or}
use Rattle.std.specs.Option.{option_map}
use Rattle.evaluate.specs.declared.value.CellError.{CellError}
use Rattle.evaluate.specs.declared.value.CellError.TheVariants.{DivideByZero, OutOfRange, Lost, Cycle}
use Rattle.evaluate.specs.declared.value.Value.{Value}
use Rattle.evaluate.specs.declared.value.Value.TheVariants.{Empty, Number, Error}

abbrev pub error_number : CellError → ℕ
error_number DivideByZero = 1
error_number OutOfRange = 2
error_number Lost = 3
error_number Cycle = 4

abbrev pub value_numbers : Value → List ℕ
value_numbers Empty = 0 ∷ 0 ∷ []
value_numbers (Number n) = 1 ∷ n ∷ []
value_numbers (Error e) = 2 ∷ error_number e ∷ []

-- the errors by their number, from 1 on
abbrev pub error_in : ℕ → Option CellError
error_in n = slice_index_or (None ∷ Some DivideByZero ∷ Some OutOfRange ∷ Some Lost ∷ Some Cycle ∷ []) n None

-- what two numbers stand for
abbrev pub value_in : ℕ → ℕ → Option Value
value_in k n = slice_index_or (slice_index_or (Some Empty ∷ []) n None ∷ Some (Number n) ∷ option_map Error (error_in n) ∷ []) k None

-- the two numbers of a value, which are read as it again
pub record StandsFor (v : Value) (ns : List ℕ) : Type 0 where
  pub is : ns ≡ value_numbers v
  pub back : value_in (slice_index ns 0) (slice_index ns 1) ≡ Some v

abbrev pub error_text : CellError → List ℕ
error_text DivideByZero = codes "by-nothing"
error_text OutOfRange = codes "too-big"
error_text Lost = codes "lost"
error_text Cycle = codes "ring"

abbrev pub value_text : Value → List ℕ
value_text Empty = codes "."
value_text (Number n) = decimal n
value_text (Error e) = error_text e
