-- The row of what a sheet shows, with a line inserted. Assumes nothing.
use Rattle.std.proofs.Common.{◌≡◌, ℕ, ◌+◌, ◌-◌, ◌*◌, ◌/◌, ◌%◌, ◌<◌, max, List, ◌++◌, drop, replicate, sym, ap, ◌∙◌, inl, inr, arith}
use Rattle.std.proofs.lemmas.List.{drop_at}
use Rattle.std.proofs.lemmas.Nat.{mul-add-lt, div-mul-add, mod-mul-add}
use Rattle.evaluate.specs.declared.value.Value.{Value}
use Rattle.evaluate.specs.declared.value.Value.TheVariants.{Empty}
use Rattle.evaluate.specs.Values.{value_numbers}
use Rattle.recalc.specs.declared.size.Size.{Size}
use Rattle.recalc.specs.Sheets.{Sheet, shown}
use Rattle.recalc.specs.Entries.{entry, entries_from}
use Rattle.recalc.specs.Showing.{nth_shown, sheet_values, ShownIn}
use Rattle.recalc.proofs.Entries.{same_entries}
use Rattle.recalc.proofs.Rows.{values_length, values_entries, value_entry}
use Rattle.shift.specs.declared.shift.Axis.{Axis}
use Rattle.shift.specs.declared.shift.Axis.TheVariants.{Row, Column}
use Rattle.shift.specs.declared.shift.Change.{Change}
use Rattle.shift.specs.declared.shift.Change.TheVariants.{Insert, Delete}
use Rattle.shift.specs.declared.shift.Shift.{Shift}
use Rattle.shift.specs.Shifts.{the_shift, by_axis, by_line, cols_after}
use Rattle.shift.specs.Entries.{size_after, cells_of, coming, shifted_entries, Shiftable}
use Rattle.shift.specs.Sheets.{shifted}
use Rattle.shift.specs.Values.{value_len}
use Rattle.shift.proofs.Gaps.{Gap}
use Rattle.shift.proofs.Ranges.{empty}
use Rattle.shift.proofs.Kept.{shown_beside}
use Rattle.shift.proofs.Origins.{Came, From, place_cases, place_within}

abbrev size_of : Sheet → Size
size_of s = record { rows = s.rows; cols = s.cols }

-- what a line shows is what the line showed from which it came
came_shown : (p : ℕ) (big small : ℕ → ℕ → Value) → Gap empty p big small → (n i j : ℕ) → Came Insert p n i → big i j ≡ small n j
came_shown p big small g n i j (inl c) = g.below i j c.0 ∙ ap (λ m. small m j) (sym c.1)
came_shown p big small g n i j (inr c) = ap (λ m. big m j) c.1 ∙ g.above n j (let e = c.1 in omega arith)

-- a place shows what the place showed from which its cell came, and in the new line nothing
place_shown : (d : Shift) (s : Sheet) (r c : ℕ) → Shiftable d (size_of s) → d.change ≡ Insert
    → ((i j : ℕ) → From d (size_of s) r c i j → shown (shifted d s) r c ≡ shown s i j) × (by_axis d.axis r c ≡ d.line → shown (shifted d s) r c ≡ Empty)
place_shown d s r c k e = go d.axis d.change d.line k e
  where
    go : (a : Axis) (h : Change) (p : ℕ) → Shiftable (the_shift a h p) (size_of s) → h ≡ Insert
        → ((i j : ℕ) → From (the_shift a h p) (size_of s) r c i j → shown (shifted (the_shift a h p) s) r c ≡ shown s i j)
        × (by_axis a r c ≡ p → shown (shifted (the_shift a h p) s) r c ≡ Empty)
    go a Delete p k e = absurd (grind arith)
    go Row Insert p k e =
        let g = (shown_beside Row Insert p s (k.there, let l = k.few_rows in omega arith)).0 in
        ((λ i j m. came_shown p (shown (shifted (the_shift Row Insert p) s)) (shown s) g i r c m.came ∙ ap (shown s i) (sym m.beside)), (λ q. ap (λ x. shown (shifted (the_shift Row Insert p) s) x c) q ∙ g.here c))
    go Column Insert p k e =
        let g = (shown_beside Column Insert p s (k.there, let l = k.few_cols in omega arith)).0 in (
          (λ i j m. came_shown p (by_line Column (shown (shifted (the_shift Column Insert p) s))) (by_line Column (shown s)) g j c r m.came ∙ ap (λ x. shown s x j) (sym m.beside)),
          (λ q. ap (λ x. shown (shifted (the_shift Column Insert p) s) r x) q ∙ g.here r),
        )

module _ (d : Shift) (s : Sheet) (row : List ℕ) (k : Shiftable d (size_of s)) (e : d.change ≡ Insert) (is : ShownIn s row) where
  -- the value of a place
  entry_shown : (i j : ℕ) → i < s.rows → j < s.cols → entry value_len (i * s.cols + j) row ≡ value_numbers (shown s i j)
  entry_shown i j u v =
      let n = i * s.cols + j in
      let l : n < s.rows * s.cols = omega (arith, mul-add-lt i s.cols j s.rows u v) in
      let r = div-mul-add i s.cols j v in
      let c = mod-mul-add i s.cols j v in
      ap (entry value_len n) is
      ∙ value_entry (nth_shown s) (s.rows * s.cols) n _ l
      ∙ ap (λ m. value_numbers (shown s m (n % s.cols))) r
      ∙ ap (λ m. value_numbers (shown s i m)) c

  -- what comes to stand at each number is what its cell shows
  coming_shown : (n : ℕ) → n < cells_of (size_after d (size_of s)) → coming value_len d (size_of s) row n ≡ value_numbers (nth_shown (shifted d s) n)
  unfolding shifted
  coming_shown n l =
      let w = cols_after d s.cols in
      let t = place_within d (size_of s) n k l in
      let p = place_shown d s (n / w) (n % w) k e in
      elim (place_cases (replicate value_len 0) d (size_of s) (λ i j. entry value_len (i * s.cols + j) row) (n / w) (n % w) k t.0 t.1) [
        | inl (i, j, q, m) ↦ q ∙ entry_shown i j m.row_in m.col_in ∙ ap value_numbers (sym (p.0 i j m))
        | inr (q, h, new) ↦ q ∙ ap value_numbers (sym (p.1 new))
      ]

  pub inserted_shown : ShownIn (shifted d s) (shifted_entries value_len d (size_of s) row)
  unfolding shifted
  inserted_shown =
      let left = cells_of (size_after d (size_of s)) in
      let rest = replicate (value_len * (cells_of (size_of s) - left)) 0 ++ drop (value_len * max (cells_of (size_of s)) left) row in
      let all : entries_from (coming value_len d (size_of s) row) 0 left ≡ sheet_values (shifted d s) =
      same_entries (coming value_len d (size_of s) row) (λ n. value_numbers (nth_shown (shifted d s) n)) 0 left (λ n a b. coming_shown n (omega arith))
      ∙ sym (values_entries (nth_shown (shifted d s)) 0 left) in
      let long = values_length (nth_shown (shifted d s)) 0 left in
      let back : drop (value_len * left) (shifted_entries value_len d (size_of s) row) ≡ rest = ap (λ ys. drop (value_len * left) (ys ++ rest)) all ∙ drop_at (sheet_values (shifted d s)) rest (value_len * left) long in
      ap (λ ys. ys ++ rest) all ∙ ap (λ ys. sheet_values (shifted d s) ++ ys) (sym back)
