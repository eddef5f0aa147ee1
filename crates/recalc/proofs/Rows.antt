-- A row of values. Assumes nothing.
use Rattle.std.proofs.Common.{◌≡◌, ℕ, zero, suc, ◌+◌, ◌*◌, ◌<◌, ◌≤◌, List, [], ◌∷◌, ◌++◌, length, drop, sym, refl, ap, ◌∙◌, subst, arith}
use Rattle.evaluate.specs.declared.value.Value.{Value}
use Rattle.evaluate.specs.declared.value.Value.TheVariants.{Empty, Number, Error}
use Rattle.evaluate.specs.Values.{value_numbers}
use Rattle.recalc.specs.declared.formulas.Progress.{Progress}
use Rattle.recalc.specs.declared.formulas.Progress.TheVariants.{Known}
use Rattle.recalc.specs.Language.{shown}
use Rattle.recalc.specs.Table.{at}
use Rattle.recalc.specs.Sheets.{Sheet}
use Rattle.recalc.specs.Numbered.{count, sheet_language}
use Rattle.recalc.specs.Entries.{entry, entries_from}
use Rattle.recalc.specs.Showing.{nth_shown, values_from, sheet_values, value_known, table_numbers, table_shows}
use Rattle.recalc.proofs.Entries.{same_entries, entries_again, entries_length, entry_at, FilledTo}
use Rattle.recalc.proofs.Laid.{nth_shown_is}

-- a value is two numbers
pub two_numbers : (v : Value) → length (value_numbers v) ≡ 2
two_numbers Empty = refl
two_numbers (Number n) = refl
two_numbers (Error e) = refl

-- values are entries of two numbers
pub values_entries : (f : ℕ → Value) (k n : ℕ) → values_from f k n ≡ entries_from (λ i. value_numbers (f i)) k n
unfolding values_from entries_from
values_entries f k zero = refl
values_entries f k (suc n) = ap (λ ys. value_numbers (f k) ++ ys) (values_entries f (suc k) n)

pub values_length : (f : ℕ → Value) (k n : ℕ) → length (values_from f k n) ≡ 2 * n
values_length f k n =
    ap length (values_entries f k n)
    ∙ entries_length (λ i. value_numbers (f i)) 2 (k + n) (λ i l. two_numbers (f i)) k n (omega arith)

-- the same values, one by one
pub same_values : (f g : ℕ → Value) (k n : ℕ) → ((i : ℕ) → k ≤ i → i < k + n → f i ≡ g i) → values_from f k n ≡ values_from g k n
same_values f g k n e =
    values_entries f k n
    ∙ same_entries (λ i. value_numbers (f i)) (λ i. value_numbers (g i)) k n (λ i a b. ap value_numbers (e i a b))
    ∙ sym (values_entries g k n)

-- value k of n values with something behind them
pub value_entry : (f : ℕ → Value) (n k : ℕ) (rest : List ℕ) → k < n → entry 2 k (values_from f 0 n ++ rest) ≡ value_numbers (f k)
value_entry f n k rest l =
    let zero_left : 0 + k ≡ k = omega arith in
    ap (λ ys. entry 2 k (ys ++ rest)) (values_entries f 0 n)
    ∙ entry_at (λ i. value_numbers (f i)) 2 n (λ i h. two_numbers (f i)) 0 n k rest (omega arith) l
    ∙ ap (λ i. value_numbers (f i)) zero_left

-- a row that is filled with the numbers of n values
pub filled_values : (f : ℕ → Value) (xs now : List ℕ) (k n : ℕ) → k ≡ n → FilledTo (λ i. value_numbers (f i)) 2 xs k now → now ≡ values_from f 0 n ++ drop (2 * n) xs
filled_values f xs now k n same filled =
    subst (λ m. FilledTo (λ i. value_numbers (f i)) 2 xs m now) same filled ∙ ap (λ ys. ys ++ drop (2 * n) xs) (sym (values_entries f 0 n))

-- values counted from the second
values_again : (f : ℕ → Value) (n : ℕ) → values_from f 1 n ≡ values_from (λ i. f (suc i)) 0 n
values_again f n =
    values_entries f 1 n
    ∙ entries_again (λ i. value_numbers (f i)) 1 0 n
    ∙ same_entries (λ i. value_numbers (f (1 + i))) (λ i. value_numbers (f (suc i))) 0 n (λ i a b. let one : 1 + i ≡ suc i = omega arith in ap (λ m. value_numbers (f m)) one)
    ∙ sym (values_entries (λ i. f (suc i)) 0 n)

-- the numbers of a table are those of the values that it shows
pub table_values : (t : List Progress) → table_numbers t ≡ values_from (table_shows t) 0 (length t)
unfolding values_from
table_values [] = refl
table_values (p ∷ t) = ap (λ ys. value_numbers (value_known p) ++ ys) (table_values t ∙ sym (values_again (table_shows (p ∷ t)) (length t)))

-- the row that is written from a table in which every cell is known as it is shown
pub row_shown : (s : Sheet) (t : List Progress) (out row : List ℕ) → length t ≡ count s → ((k : ℕ) → k < count s → at t k ≡ Known (shown (sheet_language s) k))
    → row ≡ table_numbers t ++ drop (2 * length t) out → row ≡ sheet_values s ++ drop (2 * count s) out
row_shown s t out row size known e =
    e
    ∙ ap (λ ys. ys ++ drop (2 * length t) out) (table_values t)
    ∙ ap (λ n. values_from (table_shows t) 0 n ++ drop (2 * n) out) size
    ∙ ap (λ ys. ys ++ drop (2 * count s) out) (same_values (table_shows t) (nth_shown s) 0 (count s)
    (λ k a b. let l : k < count s = omega arith in ap value_known (known k l) ∙ nth_shown_is s k l))
