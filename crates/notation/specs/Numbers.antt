-- The numbers that a text holds: its words, each in decimal. Assumes nothing: these are definitions.
use Rattle.std.specs.Prelude.{ℕ, ◌+◌, ◌-◌, ◌*◌, ◌^◌, Bool, cond, ◌||◌, List, [], ◌∷◌, ◌++◌, length, Some, None, Ok, Err, Option, Result, ◌==◌, nat_lt}
use Rattle.std.specs.Str.Parse.{digits_value}
use Rattle.std.specs.Char.{is_ascii_digit}
use Rattle.std.specs.Str.{all_ascii_digits}

-- a space, a tab, a line feed or a carriage return
abbrev pub white : ℕ → Bool
white b = b == 32 || b == 9 || b == 10 || b == 13

abbrev pub closed : List ℕ → List (List ℕ) → List (List ℕ)
closed [] words = words
closed (b ∷ word) words = (b ∷ word) ∷ words

-- what stands between white space; the first word has begun already
abbrev pub words_from : List ℕ → List ℕ → List (List ℕ)
words_from word [] = closed word []
words_from word (b ∷ bs) = cond (white b) (closed word (words_from [] bs)) (words_from (word ++ b ∷ []) bs)

abbrev pub words : List ℕ → List (List ℕ)
words bs = words_from [] bs

abbrev pub fitting : ℕ → Option ℕ
fitting n = cond (nat_lt n (2 ^ 64)) (Some n) None

-- a word of digits whose number has at most 64 bits
abbrev pub number : List ℕ → Option ℕ
number word = cond (all_ascii_digits word) (fitting (digits_value 10 word)) None

-- a number with a byte more
abbrev pub appended : ℕ → ℕ → Option ℕ
appended n b = cond (is_ascii_digit b) (fitting (n * 10 + (b - 48))) None

abbrev pub or_refused : Option ℕ → ℕ → (ℕ → Result (List ℕ) ℕ) → Result (List ℕ) ℕ
or_refused None k more = Err k
or_refused (Some n) k more = more n

-- the numbers so far, and then each word's; or which word is the first that is no number
abbrev pub numbers_from : List ℕ → List (List ℕ) → Result (List ℕ) ℕ
numbers_from ns [] = Ok ns
numbers_from ns (word ∷ rest) = or_refused (number word) (length ns + 1) (λ n. numbers_from (ns ++ n ∷ []) rest)

abbrev pub numbers_of : List ℕ → Result (List ℕ) ℕ
numbers_of bs = numbers_from [] (words bs)
