-- What the lines of a sheet hold before a change and after it. Assumes nothing.
use Rattle.std.proofs.Common.{◌≡◌, ℕ, ◌<◌, ◌≤◌, Bool, true, false, cond, ◌&&◌, eqb, ltb, Some, None, Option, sym, refl, arith}
use mathlib.Core.Path.{fun_ext}
use Rattle.std.specs.Option.{option_map}
use Rattle.std.proofs.lemmas.Bool.Decides.{nat_tests}
use Rattle.std.proofs.lemmas.Bool.{and_right}
use Rattle.formula.specs.Formula.{Formula}
use Rattle.formula.proofs.Contents.{stays}
use Rattle.formula.specs.Moving.{moved_formula}
use Rattle.recalc.specs.Sheets.{Sheet, inside}
use Rattle.shift.specs.declared.shift.Axis.{Axis}
use Rattle.shift.specs.declared.shift.Axis.TheVariants.{Row, Column}
use Rattle.shift.specs.declared.shift.Change.{Change}
use Rattle.shift.specs.declared.shift.Change.TheVariants.{Insert, Delete}
use Rattle.shift.specs.Lines.{line_lost, count_to, line_from}
use Rattle.shift.specs.Shifts.{the_shift, by_axis}
use Rattle.shift.specs.Sheets.{shift_formula, shift_cell, shifted, without}
use Rattle.shift.proofs.Gaps.{far, Bare}
use Rattle.shift.proofs.Evaluated.{rest_formula}
use Rattle.shift.proofs.Transport.{blank, lines_of}

-- of n lines, line p can be deleted, or one inserted before it if they are fewer than 2 ^ 64 - 1
abbrev pub Takes : Change → ℕ → ℕ → Type 0
Takes Insert p n = (p ≤ n) × (n < far)
Takes Delete p n = p < n

-- how many lines a sheet has
abbrev pub lines : Axis → Sheet → ℕ
lines a s = by_axis a s.rows s.cols

-- what is in a line afterwards is blank outside the sheet
clipped : (h : Change) (p n i : ℕ) (t : Bool → Bool) (f : ℕ → Option Formula) (m : Formula → Formula) → t false ≡ false → Takes h p n
    → cond (t (ltb i (count_to h n))) (line_from None h p (λ x. option_map m (f x)) i) None
    ≡ option_map m (line_from None h p (λ x. cond (t (ltb x n)) (f x) None) i)
clipped Insert p n i t f m o k = grind (arith, nat_tests)
clipped Delete p n i t f m o k = grind (arith, nat_tests)

-- what the lines hold after a change
pub held_after : (a : Axis) (h : Change) (p : ℕ) (s : Sheet) → Takes h p (lines a s)
    → lines_of a (shifted (the_shift a h p) s) ≡ (λ i j. shift_cell (the_shift a h p) (line_from None h p (λ x. lines_of a s x j) i))
unfolding shifted
held_after Row h p s k =
    fun_ext (λ i. fun_ext (λ j. clipped h p s.rows i (λ b. b && ltb j s.cols) (λ x. s.cells x j) (shift_formula (the_shift Row h p)) refl k))
held_after Column h p s k =
    let before : (j : ℕ) → (ltb j s.rows && false) ≡ false = λ j. and_right (ltb j s.rows) false refl in
    fun_ext (λ i. fun_ext (λ j. clipped h p s.cols i (λ b. ltb j s.rows && b) (s.cells j) (shift_formula (the_shift Column h p)) (before j) k))

-- the sheet before a change, with lost what the change loses
abbrev pub rest : Axis → Change → ℕ → Sheet → Sheet
rest a Insert p s = s
rest a Delete p s = without a p s

-- what the lines of that sheet hold
pub held_before : (a : Axis) (h : Change) (p : ℕ) (s : Sheet)
    → lines_of a (rest a h p s) ≡ (λ i j. option_map (rest_formula (the_shift a h p)) (cond (line_lost h p i) None (lines_of a s i j)))
unfolding without
held_before a Insert p s = fun_ext (λ i. fun_ext (λ j. whole (lines_of a s i j)))
  where
    whole : (x : Option Formula) → x ≡ option_map (moved_formula Some Some) x
    whole None = refl
    whole (Some x) = λ i. Some (sym (stays x) i)
held_before a Delete p s = go a
  where
    cut : (b e : Bool) (x : Option Formula) (m : Formula → Formula) → cond b (cond e None (option_map m x)) None ≡ option_map m (cond e None (cond b x None))
    cut true true x m = refl
    cut true false x m = refl
    cut false true x m = refl
    cut false false x m = refl

    go : (a : Axis) → lines_of a (without a p s) ≡ (λ i j. option_map (rest_formula (the_shift a Delete p)) (cond (eqb i p) None (lines_of a s i j)))
    go Row = fun_ext (λ i. fun_ext (λ j. cut (inside s i j) (eqb i p) (s.cells i j) (rest_formula (the_shift Row Delete p))))
    go Column = fun_ext (λ i. fun_ext (λ j. cut (inside s j i) (eqb i p) (s.cells j i) (rest_formula (the_shift Column Delete p))))

-- outside a sheet there is nothing
pub outside : (a : Axis) (s : Sheet) → Bare blank (lines a s) (lines_of a s)
outside Row s i j h = grind (arith, nat_tests)
outside Column s i j h = grind (arith, nat_tests)
