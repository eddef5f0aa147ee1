-- The row of values, gone over cell by cell. Assumes nothing.
use Rattle.std.proofs.Common.{◌≡◌, ℕ, suc, ◌+◌, ◌*◌, ◌<◌, ◌≤◌, Bool, true, false, cond, leb, List, ◌++◌, length, get_or, take, drop, is_ok, None, Ok, Err, Result, unwrap_or, sym, refl, ap, ◌∙◌, subst, arith}
use Rattle.std.proofs.lemmas.List.{drop_at, get_or-take, get_or-drop, length-take, length-drop}
use Rattle.std.proofs.lemmas.Bool.{lt-ltb}
use Rattle.evaluate.specs.declared.value.Value.{Value}
use Rattle.evaluate.specs.declared.value.Value.TheVariants.{Empty}
use Rattle.evaluate.specs.Values.{value_numbers, value_in}
use Rattle.recalc.specs.declared.size.Size.{Size}
use Rattle.recalc.specs.declared.refusal.Refusal.{Refusal}
use Rattle.recalc.specs.declared.refusal.Refusal.TheVariants.{NoRoom}
use Rattle.recalc.specs.declared.formulas.Progress.{Progress}
use Rattle.recalc.specs.Layout.{checked}
use Rattle.recalc.specs.Sheets.{Sheet, sheet_in}
use Rattle.recalc.specs.Numbered.{count}
use Rattle.recalc.specs.Before.{row_shows}
use Rattle.recalc.specs.Entries.{entry}
use Rattle.recalc.specs.Showing.{nth_shown, values_from, sheet_values, ShownIn, in_front, and_then, answered, kept, Shows, table_shows}
use Rattle.recalc.proofs.Entries.{entry_behind, around_entry, entries_length, FilledTo, filled_more}
use Rattle.recalc.proofs.Rows.{two_numbers, values_length, value_entry}
use Rattle.recalc.proofs.Numbered.{checked_size}
use Rattle.edit.specs.Values.{with_value}
use Rattle.edit.proofs.Differing.{read_back}

-- a cell shows the value whose numbers lie there
pub entry_shows : (xs : List ℕ) (k : ℕ) (v : Value) → entry 2 k xs ≡ value_numbers v → row_shows xs k ≡ v
entry_shows xs k v is =
    let zero_right : 2 * k + 0 ≡ 2 * k = omega arith in
    let first : get_or xs (2 * k) 0 ≡ get_or (value_numbers v) 0 0 =
    ap (λ i. get_or xs i 0) (sym zero_right) ∙ sym (get_or-take 2 (drop (2 * k) xs) 0 0 (omega arith) ∙ get_or-drop (2 * k) xs 0 0) ∙ ap (λ ys. get_or ys 0 0) is in
    let second : get_or xs (2 * k + 1) 0 ≡ get_or (value_numbers v) 1 0 =
    sym (get_or-take 2 (drop (2 * k) xs) 1 0 (omega arith) ∙ get_or-drop (2 * k) xs 1 0) ∙ ap (λ ys. get_or ys 1 0) is in
    let long : 2 ≤ length (drop (2 * k) xs) = omega (arith, ap length is, two_numbers v, length-take 2 (drop (2 * k) xs)) in
    let there : 2 * k + 1 < length xs = omega (arith, long, length-drop (2 * k) xs) in
    ap (λ b. unwrap_or (cond b (value_in (get_or xs (2 * k) 0) (get_or xs (2 * k + 1) 0)) None) Empty) (lt-ltb (2 * k + 1) (length xs) there)
    ∙ ap (λ i. unwrap_or (value_in i (get_or xs (2 * k + 1) 0)) Empty) first
    ∙ ap (λ i. unwrap_or (value_in (get_or (value_numbers v) 0 0) i) Empty) second
    ∙ ap (λ o. unwrap_or o Empty) (read_back v)

module _ (t : List Progress) where
  -- the numbers of cell i as the table has it
  abbrev numbers : ℕ → List ℕ
  numbers i = value_numbers (table_shows t i)

  -- one value more, overwritten
  pub value_written : (xs : List ℕ) (k : ℕ) (now next : List ℕ) (n : ℕ) → k < n → FilledTo numbers 2 xs k now
      → next ≡ with_value now k (table_shows t k) → FilledTo numbers 2 xs (k + 1) next
  value_written xs k now next n l e p =
      let one : suc k ≡ k + 1 = omega arith in
      subst (λ i. FilledTo numbers 2 xs i next) one (filled_more numbers 2 n (λ i h. two_numbers (table_shows t i)) xs k now next l e p)

  -- what is not written yet is as it was
  entry_still : (xs : List ℕ) (k : ℕ) (now : List ℕ) (n : ℕ) → k < n → FilledTo numbers 2 xs k now → entry 2 k now ≡ entry 2 k xs
  entry_still xs k now n l f =
      let done = entries_length numbers 2 n (λ i h. two_numbers (table_shows t i)) 0 k (omega arith) in
      ap (entry 2 k) f ∙ entry_behind 2 k (2 * k) _ xs done (omega arith)

  pub still_shows : (xs : List ℕ) (k : ℕ) (now : List ℕ) (n : ℕ) → k < n → xs ≡ values_from (row_shows xs) 0 n ++ drop (2 * n) xs → FilledTo numbers 2 xs k now → row_shows now k ≡ row_shows xs k
  still_shows xs k now n l e f =
      entry_shows now k (row_shows xs k) (entry_still xs k now n l f ∙ ap (entry 2 k) e ∙ value_entry (row_shows xs) n k (drop (2 * n) xs) l)

  -- one value more, left as it is where it is the same
  pub value_left : (before : ℕ → Value) (xs : List ℕ) (k : ℕ) (now next : List ℕ) (n : ℕ) → k < n → xs ≡ values_from before 0 n ++ drop (2 * n) xs
      → FilledTo numbers 2 xs k now
      → table_shows t k ≡ before k → next ≡ now → FilledTo numbers 2 xs (k + 1) next
  value_left before xs k now next n l e f same is =
      let there : entry 2 k xs ≡ value_numbers (before k) = ap (entry 2 k) e ∙ value_entry before n k (drop (2 * n) xs) l in
      let here : entry 2 k now ≡ numbers k = entry_still xs k now n l f ∙ there ∙ ap value_numbers (sym same) in
      value_written xs k now next n l f (is ∙ around_entry 2 k now ∙ ap (λ ys. take (2 * k) now ++ (ys ++ drop (2 * k + 2) now)) here)

-- the value of a cell in a row of values
pub value_there : (f : ℕ → Value) (n : ℕ) (xs rest : List ℕ) → xs ≡ values_from f 0 n ++ rest → (k : ℕ) → k < n → row_shows xs k ≡ f k
value_there f n xs rest e k l = entry_shows xs k (f k) (ap (entry 2 k) e ∙ value_entry f n k rest l)

-- a row with what a sheet shows in front of what lay behind
pub row_shown : (s : Sheet) (out row : List ℕ) → row ≡ sheet_values s ++ drop (2 * count s) out → ShownIn s row
row_shown s out row e =
    let behind : drop (2 * count s) row ≡ drop (2 * count s) out =
    ap (drop (2 * count s)) e ∙ drop_at (sheet_values s) (drop (2 * count s) out) (2 * count s) (values_length (nth_shown s) 0 (count s)) in
    e ∙ ap (λ ys. sheet_values s ++ ys) (sym behind)

-- a sheet that was shown is not refused, and the row begins with what it shows
pub shown_first : (xs out row : List ℕ) (r : Result (Unit {0}) Refusal) → r ≡ Ok tt → Shows xs out r row → (is_ok (checked xs) ≡ true) × ShownIn (sheet_in xs) row
shown_first xs out row r e s = sized (checked xs) refl (sym s.0 ∙ e) s.1
  where
    roomy : (b : Bool) → answered (cond b (Ok (sheet_values (sheet_in xs) ++ drop (2 * count (sheet_in xs)) out)) (Err (NoRoom (length out)))) ≡ Ok tt
        → row ≡ kept out (cond b (Ok (sheet_values (sheet_in xs) ++ drop (2 * count (sheet_in xs)) out)) (Err (NoRoom (length out)))) → ShownIn (sheet_in xs) row
    roomy true a b = row_shown (sheet_in xs) out row b
    roomy false a b = absurd (grind arith)

    sized : (o : Result Size Refusal) → checked xs ≡ o → answered (and_then o (λ size. in_front (sheet_values (sheet_in xs)) (size.rows * size.cols) out)) ≡ Ok tt
        → row ≡ kept out (and_then o (λ size. in_front (sheet_values (sheet_in xs)) (size.rows * size.cols) out)) → (is_ok (checked xs) ≡ true) × ShownIn (sheet_in xs) row
    sized (Ok size) d a b =
        let z = checked_size xs size d in
        let f : Size → Result (List ℕ) Refusal = λ y. in_front (sheet_values (sheet_in xs)) (y.rows * y.cols) out in
        (ap is_ok d, roomy (leb (2 * count (sheet_in xs)) (length out)) (ap (λ y. answered (f y)) (sym z) ∙ a) (b ∙ ap (λ y. kept out (f y)) z))
    sized (Err x) d a b = absurd (grind arith)
