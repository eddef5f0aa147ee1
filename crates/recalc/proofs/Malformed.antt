-- The search for a malformed cell, cell by cell. Assumes nothing.
use Rattle.std.proofs.Common.{◌≡◌, ℕ, zero, suc, ◌+◌, ◌-◌, ◌<◌, ◌≤◌, Bool, true, false, cond, ◌⊎◌, List, Some, None, refl, inl, inr, arith}
use Rattle.std.proofs.lemmas.Bool.{cases_lt}
use Rattle.formula.specs.declared.cell.Cell.{Cell}
use Rattle.formula.specs.declared.cell.Cell.TheVariants as cell
use Rattle.formula.specs.Cells.{content, meant}
use Rattle.recalc.specs.Layout.{cell_numbers, is_malformed, first_malformed}

module _ (xs : List ℕ) (k n : ℕ) where
  pub found_here : k < n → is_malformed (content (cell_numbers k xs)) ≡ true → first_malformed k (n - k) xs ≡ Some k
  unfolding first_malformed
  found_here l e = let m : n - k ≡ suc (n - (k + 1)) = omega arith in rw (m, e)

  pub goes_on : k < n → is_malformed (content (cell_numbers k xs)) ≡ false → first_malformed k (n - k) xs ≡ first_malformed (k + 1) (n - (k + 1)) xs
  unfolding first_malformed
  goes_on l e = let m : n - k ≡ suc (n - (k + 1)) = omega arith in let s : k + 1 ≡ suc k = omega arith in rw (m, e, s)

  pub none_left : n ≤ k → first_malformed k (n - k) xs ≡ None
  unfolding first_malformed
  none_left l = let m : n - k ≡ 0 = omega arith in rw m

-- what the code sees of a cell
pub seen_whole : (x : Cell) → (x ≡ cell.Malformed → ⊥) → is_malformed (meant x) ≡ false
seen_whole cell.Blank h = refl
seen_whole (cell.Formula ts) h = refl
seen_whole cell.Malformed h = absurd (h refl)

-- no cell is malformed, one by one
pub none_malformed : (xs : List ℕ) (k n : ℕ) → ((i : ℕ) → k ≤ i → i < k + n → is_malformed (content (cell_numbers i xs)) ≡ false) → first_malformed k n xs ≡ None
unfolding first_malformed
none_malformed xs k zero h = refl
none_malformed xs k (suc n) h = rw (h k (omega arith) (omega arith)) (none_malformed xs (suc k) n (λ i l u. h i (omega arith) (omega arith)))

pub each_formed : (xs : List ℕ) (k n : ℕ) → first_malformed k n xs ≡ None → (i : ℕ) → k ≤ i → i < k + n → is_malformed (content (cell_numbers i xs)) ≡ false
unfolding first_malformed
each_formed xs k zero e i l u = absurd (omega arith)
each_formed xs k (suc n) e i l u = go (λ d c. each_formed xs (suc k) n d i (omega arith) (omega arith)) (is_malformed (content (cell_numbers k xs))) refl e (cases_lt k i)
  where
    go : (first_malformed (suc k) n xs ≡ None → k < i → is_malformed (content (cell_numbers i xs)) ≡ false) → (b : Bool) → is_malformed (content (cell_numbers k xs)) ≡ b
        → cond b (Some k) (first_malformed (suc k) n xs) ≡ None → (k < i) ⊎ (i ≤ k) → is_malformed (content (cell_numbers i xs)) ≡ false
    go later true d e c = absurd (let z : ◌≡◌ {A = ℕ} 0 1 = cc in omega arith)
    go later false d e (inl c) = later e c
    go later false d e (inr c) = let z : i ≡ k = omega arith in rw z d
