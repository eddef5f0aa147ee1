-- What a refusal says, and when it comes. Assumes nothing: these are definitions.
use Rattle.std.specs.Prelude.{◌≡◌, ℕ, List, ◌++◌, Err, codes, decimal}
use Rattle.notation.specs.declared.text_error.TextError.{TextError}
use Rattle.notation.specs.declared.text_error.TextError.TheVariants.{NotANumber, OutOfMemory}
use Rattle.notation.specs.Numbers.{numbers_of}

abbrev pub error_text : TextError → List ℕ
error_text (NotANumber word) = codes "word " ++ decimal word ++ codes " is no number from 0 to " ++ decimal 18446744073709551615
error_text OutOfMemory = codes "out of memory"

-- for the first word that is no number, or for want of memory
abbrev pub Refuses : List ℕ → TextError → Type 0
Refuses bs (NotANumber word) = numbers_of bs ≡ Err word
Refuses bs OutOfMemory = Unit {0}
