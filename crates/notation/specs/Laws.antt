-- What reading numbers promises. Assumes nothing: this is a statement.
use Rattle.std.specs.Prelude.{◌≡◌, ℕ, ◌^◌, ◌<◌, List, [], ◌∷◌, ◌++◌, Ok, codes, decimal}
use Rattle.std.specs.List.{AllByRecursion}
use Rattle.notation.specs.Numbers.{numbers_of}

-- numbers in decimal, with a space between each two
abbrev pub spaced : List ℕ → List ℕ
spaced [] = []
spaced (n ∷ []) = decimal n
spaced (n ∷ m ∷ ns) = decimal n ++ codes " " ++ spaced (m ∷ ns)

-- numbers that are written so are read back as they were
abbrev pub WrittenNumbersAreRead : Type 0
WrittenNumbersAreRead = (ns : List ℕ) → AllByRecursion (λ n. n < 2 ^ 64) ns → numbers_of (spaced ns) ≡ Ok ns
