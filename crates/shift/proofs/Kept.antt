-- What is shown after an insertion and after a deletion. Assumes nothing.
use Rattle.std.proofs.Common.{◌≡◌, ℕ, suc, ◌+◌, ◌-◌, ◌^◌, ◌<◌, ◌≤◌, Ok, Option, sym, refl, ap, arith}
use Rattle.std.specs.Option.{option_map}
use Rattle.std.proofs.lemmas.Bool.Decides.{nat_tests}
use Rattle.std.proofs.lemmas.Bool.{le-ltb, ne_eqb}
use Rattle.formula.specs.Formula.{Formula}
use Rattle.evaluate.specs.declared.value.Value.{Value}
use Rattle.evaluate.specs.declared.value.Value.TheVariants.{Empty}
use Rattle.recalc.specs.declared.size.Size.{Size}
use Rattle.recalc.specs.Sheets.{Sheet, cell_shows, shown}
use Rattle.shift.specs.declared.shift.Axis.{Axis}
use Rattle.shift.specs.declared.shift.Axis.TheVariants.{Row, Column}
use Rattle.shift.specs.declared.shift.Change.{Change}
use Rattle.shift.specs.declared.shift.Change.TheVariants.{Insert, Delete}
use Rattle.shift.specs.declared.shift.Shift.{Shift}
use Rattle.shift.specs.Shifts.{the_shift, by_axis, by_line, row_to, col_to}
use Rattle.shift.specs.Sheets.{shift_formula, shifted, line_allowed, Allowed, without}
use Rattle.shift.specs.Laws.{InsertionKeeps, DeletionBlanks}
use Rattle.shift.proofs.Gaps.{far, Gap, Bare, inserted, emptied, bare_with, made, bare_made}
use Rattle.shift.proofs.Ranges.{empty, ShowsBeside}
use Rattle.shift.proofs.Evaluated.{rest_formula, kept_place, cell_alike}
use Rattle.shift.proofs.Transport.{blank, lines_of, Twins, bare_shown, show_alike}
use Rattle.shift.proofs.Held.{Takes, lines, rest, held_before, held_after, outside}

-- lines that hold the same, but for what is made of each formula, and but for a blank line
twins : (a : Axis) (p n : ℕ) (f g : ℕ → ℕ → Option Formula) (m k : Formula → Formula) → Gap blank p f g → p ≤ n → Bare blank n g
    → ((v w : ℕ → ℕ → Value) → Bare empty (suc n) (by_line a v) → Bare empty (suc n) (by_line a w) → Gap empty p (by_line a v) (by_line a w)
    → (x : Option Formula) → cell_shows v (option_map m x) ≡ cell_shows w (option_map k x))
    → Twins a p n (λ i j. option_map m (f i j)) (λ i j. option_map k (g i j))
twins a p n f g m k gap within ends show = record {
  within = within;
  big_ends = bare_made (λ l j. option_map m (l j)) (λ j. refl) (bare_with gap within ends);
  small_ends = bare_made (λ l j. option_map k (l j)) (λ j. refl) ends;
  new = λ j. ap (option_map m) (gap.here j);
  alike = λ v w b c between. made (λ l j. cell_shows v (option_map m (l j))) (λ l j. cell_shows w (option_map k (l j))) (λ l j. show v w b c between (l j)) (λ j. refl) gap;
}

-- what is shown before a change, with lost what it loses, and after it
pub shown_beside : (a : Axis) (h : Change) (p : ℕ) (s : Sheet) → Takes h p (lines a s)
    → ShowsBeside (the_shift a h p) (shown (rest a h p s)) (shown (shifted (the_shift a h p) s))
shown_beside a Insert p s t = (
  show_alike a p n (shifted d s) s pair,
  bare_shown a s n far pair.small_ends (omega arith),
  bare_shown a (shifted d s) (suc n) far pair.big_ends (omega arith),
)
  where
    d : Shift
    d = the_shift a Insert p

    n : ℕ
    n = lines a s

    pair : Twins a p n (lines_of a (shifted d s)) (lines_of a s)
    pair =
        rw (held_before a Insert p s, held_after a Insert p s t)
        (twins a p n _ _ (shift_formula d) (rest_formula d) (inserted (lines_of a s)) t.0 (outside a s)
        (λ v w b c between. cell_alike d w v (between, (λ i j u. c i j (omega arith)), (λ i j u. b i j (omega arith)))))
shown_beside a Delete p s t = show_alike a p n (without a p s) (shifted d s) pair
  where
    d : Shift
    d = the_shift a Delete p

    n : ℕ
    n = lines a s - 1

    pair : Twins a p n (lines_of a (without a p s)) (lines_of a (shifted d s))
    pair =
        rw (held_before a Delete p s, held_after a Delete p s t)
        (twins a p n _ _ (rest_formula d) (shift_formula d) (emptied (lines_of a s)) (omega arith)
        (λ i j u. rw (le-ltb i p (omega arith)) (outside a s (i + 1) j (omega arith)))
        (λ v w b c between x. sym (cell_alike d v w between x)))

-- where a line may be inserted and there may be fewer than 2 ^ 64
pub insert_takes : (p n m : ℕ) → m < 2 ^ 64 → line_allowed Insert p n m ≡ Ok tt → Takes Insert p n
insert_takes p n m h e = (grind (arith, nat_tests), grind (arith, nat_tests))

-- where a line may be deleted
pub delete_takes : (p n m : ℕ) → line_allowed Delete p n m ≡ Ok tt → Takes Delete p n
delete_takes p n m e = grind (arith, nat_tests)

-- the rows or the columns may be fewer than that
pub fewer : (a : Axis) (most : Size) → most.rows < 2 ^ 64 → most.cols < 2 ^ 64 → by_axis a most.rows most.cols < 2 ^ 64
fewer Row most h k = h
fewer Column most h k = k

-- a shift that is not refused has its line
pub allowed_takes : (most : Size) → most.rows < 2 ^ 64 → most.cols < 2 ^ 64 → (s : Sheet) (d : Shift) → Allowed d s most → Takes d.change d.line (lines d.axis s)
allowed_takes most u v s d ok = go d.change ok
  where
    go : (h : Change) → line_allowed h d.line (lines d.axis s) (by_axis d.axis most.rows most.cols) ≡ Ok tt → Takes h d.line (lines d.axis s)
    go Insert e = insert_takes d.line (lines d.axis s) (by_axis d.axis most.rows most.cols) (fewer d.axis most u v) e
    go Delete e = delete_takes d.line (lines d.axis s) (by_axis d.axis most.rows most.cols) e

-- a line of which each place is empty
at_line : (a : Axis) (f : ℕ → ℕ → Value) (p : ℕ) → ((j : ℕ) → by_line a f p j ≡ Empty) → (r c : ℕ) → by_axis a r c ≡ p → f r c ≡ Empty
at_line Row f p e r c q = rw q (e c)
at_line Column f p e r c q = rw q (e r)

-- an insertion changes nothing that is shown
pub insertion_keeps : InsertionKeeps
insertion_keeps most h k s d e ok = go d.axis d.change d.line e ok
  where
    go : (a : Axis) (g : Change) (p : ℕ) → g ≡ Insert → Allowed (the_shift a g p) s most
        → ((r c : ℕ) → shown (shifted (the_shift a g p) s) (row_to (the_shift a g p) r) (col_to (the_shift a g p) c) ≡ shown s r c)
        × ((r c : ℕ) → by_axis a r c ≡ p → shown (shifted (the_shift a g p) s) r c ≡ Empty)
    go a Delete p e ok = absurd (grind arith)
    go a Insert p e ok =
        let d = the_shift a Insert p in
        let b = shown_beside a Insert p s (allowed_takes most h k s d ok) in
        ((λ r c. kept_place a Insert p (shown s) (shown (shifted d s)) b r c refl), at_line a (shown (shifted d s)) p b.0.here)

-- a deletion shows what was shown with the line blank
pub deletion_blanks : DeletionBlanks
deletion_blanks most s d e ok = go d.axis d.change d.line e ok
  where
    go : (a : Axis) (g : Change) (p : ℕ) → g ≡ Delete → Allowed (the_shift a g p) s most → (r c : ℕ) → (by_axis a r c ≡ p → ⊥)
        → shown (shifted (the_shift a g p) s) (row_to (the_shift a g p) r) (col_to (the_shift a g p) c) ≡ shown (without a p s) r c
    go a Insert p e ok r c other = absurd (grind arith)
    go a Delete p e ok r c other =
        let d = the_shift a Delete p in
        let b = shown_beside a Delete p s (delete_takes p (lines a s) (by_axis a most.rows most.cols) ok) in
        kept_place a Delete p (shown (without a p s)) (shown (shifted d s)) b r c (ne_eqb (by_axis a r c) p other)
