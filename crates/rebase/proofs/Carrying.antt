-- Writes carried over a shift, and the shift done after them. Assumes nothing.
use Rattle.std.proofs.Common.{◌≡◌, ℕ, Bool, true, false, cond, ◌&&◌, eqb, ltb, List, [], ◌∷◌, None, Option, sym, refl, ap, ◌∙◌, arith}
use mathlib.Core.Path.{fun_ext}
use Rattle.std.proofs.lemmas.Bool.Decides.{nat_tests}
use Rattle.formula.specs.Formula.{Formula}
use Rattle.recalc.specs.Sheets.{Sheet, Same}
use Rattle.recalc.proofs.Shown.{same_refl, same_trans}
use Rattle.shift.specs.declared.shift.Axis.{Axis}
use Rattle.shift.specs.declared.shift.Axis.TheVariants.{Row, Column}
use Rattle.shift.specs.declared.shift.Change.{Change}
use Rattle.shift.specs.declared.shift.Change.TheVariants.{Insert, Delete}
use Rattle.shift.specs.declared.shift.Shift.{Shift}
use Rattle.shift.specs.Lines.{line_lost, line_to, count_to, line_from}
use Rattle.shift.specs.Shifts.{the_shift, by_axis, unless}
use Rattle.shift.specs.Sheets.{shift_cell, shifted}
use Rattle.shift.proofs.Transport.{lines_of}
use Rattle.shift.proofs.Held.{Takes, lines, held_after}
use Rattle.edit.specs.Writes.{Write, written}
use Rattle.rebase.specs.Carried.{all_written, write_to, with_any, carried}

-- of n lines of m places each, a write to place w of line v hits place j of line i
abbrev hits : ℕ → ℕ → ℕ → ℕ → ℕ → ℕ → Bool
hits n m v w i j = (ltb v n && ltb w m) && (eqb i v && eqb j w)

-- how many places a line has
abbrev breadth : Axis → Sheet → ℕ
breadth a s = by_axis a s.cols s.rows

-- the line of a write, and its place in the line
abbrev line_of : Axis → Write → ℕ
line_of a w = by_axis a w.row w.col

abbrev place_of : Axis → Write → ℕ
place_of a w = by_axis a w.col w.row

line_written : (a : Axis) (w : Write) (s : Sheet) (i j : ℕ)
    → lines_of a (written w s) i j ≡ cond (hits (lines a s) (breadth a s) (line_of a w) (place_of a w) i j) w.what (lines_of a s i j)
line_written Row w s i j = grind (arith, nat_tests)
line_written Column w s i j = grind (arith, nat_tests)

-- sheets that hold the same by lines hold the same
same_lines : (a : Axis) (s t : Sheet) → s.rows ≡ t.rows → s.cols ≡ t.cols → ((i j : ℕ) → lines_of a s i j ≡ lines_of a t i j) → Same s t
same_lines Row s t p q e = record { rows = p; cols = q; cells = λ r c. e r c }
same_lines Column s t p q e = record { rows = p; cols = q; cells = λ r c. e c r }

-- the same write into sheets that hold the same
pub written_same : (w : Write) (s t : Sheet) → Same s t → Same (written w s) (written w t)
written_same w s t e =
    record {
      rows = e.rows;
      cols = e.cols;
      cells = λ r c.
          line_written Row w s r c
          ∙ (λ i. cond (hits (e.rows i) (e.cols i) w.row w.col r c) w.what (e.cells r c i))
          ∙ sym (line_written Row w t r c);
    }

-- and the same writes
pub all_same : (ws : List Write) (s t : Sheet) → Same s t → Same (all_written ws s) (all_written ws t)
unfolding all_written
all_same [] s t e = e
all_same (w ∷ ws) s t e = all_same ws (written w s) (written w t) (written_same w s t e)

-- a write along a line, before a shift and after it; S is done to each cell
module _ (n m v w i j : ℕ) (x : Option Formula) (f : ℕ → Option Formula) where
  carried_line : (h : Change) (p : ℕ) (S : Option Formula → Option Formula) → Takes h p n → line_lost h p v ≡ false
      → cond (hits (count_to h n) m (line_to h p v) w i j) (S x) (S (line_from None h p f i)) ≡ S (line_from None h p (λ k. cond (hits n m v w k j) x (f k)) i)
  carried_line Insert p S t e = grind (arith, nat_tests)
  carried_line Delete p S t e = grind (arith, nat_tests)

  dropped_line : (h : Change) (p : ℕ) → line_lost h p v ≡ true → line_from None h p f i ≡ line_from None h p (λ k. cond (hits n m v w k j) x (f k)) i
  dropped_line Insert p e = grind (arith, nat_tests)
  dropped_line Delete p e = grind (arith, nat_tests)

module _ (a : Axis) (h : Change) (p : ℕ) (w : Write) (s : Sheet) (takes : Takes h p (lines a s)) where
  abbrev d : Shift
  d = the_shift a h p

  -- a line of the sheet with the write in it
  abbrev line_with : ℕ → ℕ → Option Formula
  line_with j k = cond (hits (lines a s) (breadth a s) (line_of a w) (place_of a w) k j) w.what (lines_of a s k j)

  -- what stands where no write was, after the shift
  shift_alone : (i j : ℕ) → lines_of a (shifted d s) i j ≡ shift_cell d (line_from None h p (λ k. lines_of a s k j) i)
  shift_alone i j = λ t. held_after a h p s takes t i j

  -- and after the write and then the shift
  write_first : (i j : ℕ) → lines_of a (shifted d (written w s)) i j ≡ shift_cell d (line_from None h p (line_with j) i)
  write_first i j = (λ t. held_after a h p (written w s) takes t i j) ∙ ap (λ f. shift_cell d (line_from None h p f i)) (fun_ext (λ k. line_written a w s k j))

  -- and after the shift and then the write, carried over it
  shift_first : (i j : ℕ) → lines_of a (written (write_to d w) (shifted d s)) i j
      ≡ cond (hits (count_to h (lines a s)) (breadth a s) (line_to h p (line_of a w)) (place_of a w) i j) (shift_cell d w.what) (lines_of a (shifted d s) i j)
  unfolding shifted
  shift_first i j = go a
    where
      go : (a : Axis) → lines_of a (written (write_to (the_shift a h p) w) (shifted (the_shift a h p) s)) i j
          ≡ cond (hits (count_to h (lines a s)) (breadth a s) (line_to h p (line_of a w)) (place_of a w) i j) (shift_cell (the_shift a h p) w.what) (lines_of a (shifted (the_shift a h p) s) i j)
      go Row = line_written Row (write_to (the_shift Row h p) w) (shifted (the_shift Row h p) s) i j
      go Column = line_written Column (write_to (the_shift Column h p) w) (shifted (the_shift Column h p) s) i j

  dropped : line_lost h p (line_of a w) ≡ true → Same (shifted d s) (shifted d (written w s))
  unfolding shifted
  dropped e = same_lines a (shifted d s) (shifted d (written w s)) refl refl
      (λ i j.
      shift_alone i j
      ∙ ap (shift_cell d) (dropped_line (lines a s) (breadth a s) (line_of a w) (place_of a w) i j w.what (λ k. lines_of a s k j) h p e)
      ∙ sym (write_first i j))

  moved : line_lost h p (line_of a w) ≡ false → Same (written (write_to d w) (shifted d s)) (shifted d (written w s))
  unfolding shifted
  moved e = same_lines a (written (write_to d w) (shifted d s)) (shifted d (written w s)) refl refl
      (λ i j.
      shift_first i j
      ∙ ap (λ x. cond (hits (count_to h (lines a s)) (breadth a s) (line_to h p (line_of a w)) (place_of a w) i j) (shift_cell d w.what) x) (shift_alone i j)
      ∙ carried_line (lines a s) (breadth a s) (line_of a w) (place_of a w) i j w.what (λ k. lines_of a s k j) h p (shift_cell d) takes e
      ∙ sym (write_first i j))

-- any writes
pub all_carried : (a : Axis) (h : Change) (p : ℕ) (ws : List Write) (s : Sheet) → Takes h p (lines a s)
    → Same (all_written (carried (the_shift a h p) ws) (shifted (the_shift a h p) s)) (shifted (the_shift a h p) (all_written ws s))
unfolding carried all_written
all_carried a h p [] s t = same_refl (shifted (the_shift a h p) s)
all_carried a h p (w ∷ ws) s t = same_trans (go (line_lost h p (line_of a w)) refl) (all_carried a h p ws (written w s) t)
  where
    d : Shift
    d = the_shift a h p

    go : (b : Bool) → line_lost h p (line_of a w) ≡ b
        → Same (all_written (with_any (unless b (write_to d w)) (carried d ws)) (shifted d s)) (all_written (carried d ws) (shifted d (written w s)))
    go true e = all_same (carried d ws) _ _ (dropped a h p w s t e)
    go false e = all_same (carried d ws) _ _ (moved a h p w s t e)
