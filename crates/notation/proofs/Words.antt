-- A text gone through byte by byte, word by word. Assumes nothing.
use Rattle.std.proofs.Common.{◌≡◌, ℕ, ◌+◌, ◌-◌, ◌*◌, ◌^◌, ◌<◌, ◌≤◌, Bool, true, false, cond, ◌&&◌, ltb, List, [], ◌∷◌, ◌++◌, length, get_or, drop, Some, None, Ok, Err, Option, unwrap_or, refl, ap, ◌∙◌, append-nil, add-one, arith, length-append, drop-cons}
use Rattle.std.specs.Str.Parse.{digits_value}
use Rattle.std.specs.Char.{is_ascii_digit, digit_value}
use Rattle.std.specs.Option.{option_to_list}
use Rattle.std.specs.Str.{all_ascii_digits}
use Rattle.std.proofs.lemmas.Int.Digits.{digits_value_push}
use Rattle.std.proofs.lemmas.List.{drop_all}
use Rattle.std.proofs.lemmas.Bool.Decides.{nat_tests}
use Rattle.notation.specs.Numbers.{white, closed, words_from, fitting, number, appended, numbers_from, numbers_of}

-- a word with a byte more
abbrev more : Option ℕ → ℕ → Option ℕ
more None b = None
more (Some n) b = appended n b

all_push : (w : List ℕ) (b : ℕ) → all_ascii_digits (w ++ b ∷ []) ≡ all_ascii_digits w && is_ascii_digit b
all_push [] b = grind (arith, nat_tests)
all_push (c ∷ w) b = rw (all_push w b) (grind (arith, nat_tests))

digit_is : (b : ℕ) → is_ascii_digit b ≡ true → digit_value b ≡ b - 48
digit_is b h = grind (arith, nat_tests)

pub number_push : (w : List ℕ) (b : ℕ) → number (w ++ b ∷ []) ≡ more (number w) b
number_push w b = rw (all_push w b, digits_value_push 10 w b) (go (all_ascii_digits w) (is_ascii_digit b) (ltb v (2 ^ 64)) refl refl)
  where
    v : ℕ
    v = digits_value 10 w

    go : (a d t : Bool) → is_ascii_digit b ≡ d → ltb v (2 ^ 64) ≡ t → cond (a && d) (fitting (v * 10 + digit_value b)) None ≡ more (cond a (cond t (Some v) None) None) b
    go false d t e h = refl
    go true true true e h = rw (e, digit_is b e)
    go true true false e h = grind (arith, nat_tests)
    go true false true e h = rw e
    go true false false e h = refl

-- the number of a word that has begun
abbrev pub Begun : Option ℕ → List ℕ → Type 0
Begun None w = w ≡ []
Begun (Some n) w = (0 < length w) × (number w ≡ Some n)

begun_number : (word : Option ℕ) (w : List ℕ) → Begun word w → number w ≡ Some (unwrap_or word 0)
begun_number None w e = rw e
begun_number (Some n) w e = e.1

-- a word that has ended
ended : (ns : List ℕ) (word : Option ℕ) (w : List ℕ) (rest : List (List ℕ)) → Begun word w → numbers_from ns (closed w rest) ≡ numbers_from (ns ++ option_to_list word) rest
ended ns None w rest e = rw (e, append-nil)
ended ns (Some n) [] rest e = absurd (omega arith)
ended ns (Some n) (b ∷ w) rest e = rw e.1

stops : (ns w : List ℕ) (rest : List (List ℕ)) → 0 < length w → number w ≡ None → numbers_from ns (closed w rest) ≡ Err (length ns + 1)
stops ns [] rest l e = absurd (omega arith)
stops ns (b ∷ w) rest l e = rw e

-- a word that is no number, whatever comes after it
hopeless : (ns w bs : List ℕ) → 0 < length w → number w ≡ None → numbers_from ns (words_from w bs) ≡ Err (length ns + 1)
hopeless ns w [] l e = stops ns w [] l e
hopeless ns w (b ∷ bs) l e =
    go (closed w (words_from [] bs)) (words_from (w ++ b ∷ []) bs) (white b) (stops ns w (words_from [] bs) l e) (hopeless ns (w ++ b ∷ []) bs (simp length-append (omega arith)) (number_push w b ∙ ap (λ (o : Option ℕ). more o b) e))
  where
    go : (us vs : List (List ℕ)) (t : Bool) → numbers_from ns us ≡ Err (length ns + 1) → numbers_from ns vs ≡ Err (length ns + 1) → numbers_from ns (cond t us vs) ≡ Err (length ns + 1)
    go us vs true u v = u
    go us vs false u v = v

-- the numbers of the words that have ended, and the word that has begun, before the byte at i
pub record Before (bs : List ℕ) (i : ℕ) (ns : List ℕ) (word : Option ℕ) : Type 0 where
  pub begun : List ℕ
  pub is : Begun word begun
  pub rest : numbers_of bs ≡ numbers_from ns (words_from begun (drop i bs))
  pub few : length ns ≤ i

module _ (bs : List ℕ) where
  pub at_start : Before bs 0 [] None
  at_start = record { begun = []; is = refl; rest = refl; few = omega arith }

  module _ (i : ℕ) (ns : List ℕ) (word : Option ℕ) (s : Before bs i ns word) where
    pub at_end : i ≡ length bs → numbers_of bs ≡ Ok (ns ++ option_to_list word)
    at_end e = s.rest ∙ rw (drop_all i bs (omega arith)) (ended ns word s.begun [] s.is)

    -- one byte more
    step : i < length bs → (t : Bool) → white (get_or bs i 0) ≡ t
        → numbers_of bs ≡ numbers_from ns (cond t (closed s.begun (words_from [] (drop (i + 1) bs))) (words_from (s.begun ++ get_or bs i 0 ∷ []) (drop (i + 1) bs)))
    step l t e = s.rest ∙ rw (drop-cons bs i 0 l, e, add-one)

    one_more : length (ns ++ option_to_list word) ≤ i + 1
    one_more = go word s.few
      where
        go : (o : Option ℕ) → length ns ≤ i → length (ns ++ option_to_list o) ≤ i + 1
        go None f = simp length-append (omega arith)
        go (Some n) f = simp length-append (omega arith)

    pub after_white : i < length bs → white (get_or bs i 0) ≡ true → Before bs (i + 1) (ns ++ option_to_list word) None
    after_white l e = record { begun = []; is = refl; rest = step l true e ∙ ended ns word s.begun _ s.is; few = one_more }

    grown : number (s.begun ++ get_or bs i 0 ∷ []) ≡ appended (unwrap_or word 0) (get_or bs i 0)
    grown = number_push s.begun (get_or bs i 0) ∙ ap (λ (o : Option ℕ). more o (get_or bs i 0)) (begun_number word s.begun s.is)

    pub after_digit : (n : ℕ) → i < length bs → white (get_or bs i 0) ≡ false → appended (unwrap_or word 0) (get_or bs i 0) ≡ Some n → Before bs (i + 1) ns (Some n)
    after_digit n l e h =
        let f = s.few in
        record { begun = s.begun ++ get_or bs i 0 ∷ []; is = (simp length-append (omega arith), grown ∙ h); rest = step l false e; few = omega arith }

    pub refused : i < length bs → white (get_or bs i 0) ≡ false → appended (unwrap_or word 0) (get_or bs i 0) ≡ None → numbers_of bs ≡ Err (length ns + 1)
    refused l e h = step l false e ∙ hopeless ns _ (drop (i + 1) bs) (simp length-append (omega arith)) (grown ∙ h)
