-- Numbers that are written with spaces between them are read back. Assumes nothing.
use Rattle.std.proofs.Common.{◌≡◌, ℕ, ◌^◌, ◌<◌, true, false, List, [], ◌∷◌, ◌++◌, length, Some, Ok, decimal, refl, ◌∙◌, append_assoc, append-nil, arith}
use Rattle.std.specs.Str.Parse.{digits_value}
use Rattle.std.specs.List.{AllByRecursion}
use Rattle.std.specs.Str.{all_ascii_digits}
use Rattle.std.proofs.lemmas.Fmt.{digits_decimal, digits_value-decimal, decimal_nonempty}
use Rattle.std.proofs.lemmas.Str.Parse.{IsNumeralModel, numerals_by_value, tells_all_ascii_digits}
use Rattle.std.proofs.lemmas.Bool.Decides.{nat_tests}
use Rattle.notation.specs.Numbers.{white, closed, words_from, words, number, numbers_from}
use Rattle.notation.specs.Laws.{spaced}

own : IsNumeralModel (λ ds. all_ascii_digits ds ≡ true) (digits_value 10)
own = numerals_by_value _ tells_all_ascii_digits

number_decimal : (n : ℕ) → n < 2 ^ 64 → number (decimal n) ≡ Some n
number_decimal n h = rw (digits_decimal own n h, digits_value-decimal own n h) (grind (arith, nat_tests))

-- digits are no white space
through : (w ds bs : List ℕ) → all_ascii_digits ds ≡ true → words_from w (ds ++ bs) ≡ words_from (w ++ ds) bs
through w [] bs h = rw append-nil
through w (d ∷ ds) bs h =
    let dark : white d ≡ false = grind (arith, nat_tests) in
    let digits : all_ascii_digits ds ≡ true = grind (arith, nat_tests) in
    rw dark (through (w ++ d ∷ []) ds bs digits ∙ rw append_assoc)

closed_some : (w : List ℕ) (rest : List (List ℕ)) → 0 < length w → closed w rest ≡ w ∷ rest
closed_some [] rest l = absurd (omega arith)
closed_some (b ∷ w) rest l = refl

pub spaced_read : (done ns : List ℕ) → AllByRecursion (λ n. n < 2 ^ 64) ns → numbers_from done (words (spaced ns)) ≡ Ok (done ++ ns)
spaced_read done [] h = rw append-nil
spaced_read done (n ∷ []) h =
    let one : words_from [] (decimal n ++ []) ≡ decimal n ∷ [] = through [] (decimal n) [] (digits_decimal own n h.0) ∙ closed_some (decimal n) [] (decimal_nonempty n h.0) in
    rw (← append-nil (decimal n), one, number_decimal n h.0)
spaced_read done (n ∷ m ∷ ns) h =
    let first : words_from [] (decimal n ++ (32 ∷ spaced (m ∷ ns))) ≡ decimal n ∷ words (spaced (m ∷ ns)) =
    through [] (decimal n) (32 ∷ spaced (m ∷ ns)) (digits_decimal own n h.0) ∙ closed_some (decimal n) _ (decimal_nonempty n h.0) in
    rw (append_assoc, first, number_decimal n h.0) (spaced_read (done ++ n ∷ []) (m ∷ ns) h.1 ∙ rw append_assoc)
