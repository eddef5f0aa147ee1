-- A change of rows and a change of columns, in either order. Assumes nothing.
use Rattle.std.proofs.Common.{◌≡◌, ℕ, Bool, Some, None, Option, sym, refl, ap, ◌∙◌, arith}
use mathlib.Core.Path.{fun_ext}
use Rattle.std.proofs.lemmas.Bool.Decides.{nat_tests}
use Rattle.formula.specs.declared.token.CellRef.{CellRef}
use Rattle.formula.specs.declared.token.Range.{Range}
use Rattle.formula.specs.Formula.{Formula, number, cell, fold, binary, if_less}
use Rattle.formula.specs.Moving.{unless_lost, moved_formula}
use Rattle.recalc.specs.Sheets.{Sheet}
use Rattle.shift.specs.declared.shift.Axis.TheVariants.{Row, Column}
use Rattle.shift.specs.declared.shift.Change.{Change}
use Rattle.shift.specs.declared.shift.Change.TheVariants.{Insert, Delete}
use Rattle.shift.specs.declared.shift.Shift.{Shift}
use Rattle.shift.specs.Lines.{line_from, count_to}
use Rattle.shift.specs.Shifts.{the_shift, unless, place_lost, range_lost, ref_after, range_after, place_from}
use Rattle.shift.specs.Sheets.{shift_cell, shifted}
use Rattle.shift.specs.Laws.{EitherOrder}
use Rattle.shift.proofs.Ranges.{range_to}

-- one move after another comes to the same in either order
abbrev Swap : {A : Type 0} → (A → Option A) → (A → Option A) → Type 0
Swap {A} f g = (x : A) → unless_lost f (g x) ≡ unless_lost g (f x)

-- of what may be lost, if neither move changes whether the other loses it
swap_unless : {A : Type 0} (b e : A → Bool) (m k : A → A) → ((x : A) → b (k x) ≡ b x) → ((x : A) → e (m x) ≡ e x) → ((x : A) → m (k x) ≡ k (m x))
    → Swap (λ x. unless (b x) (m x)) (λ x. unless (e x) (k x))
swap_unless b e m k p q r x = grind (arith, nat_tests, p x, q x, r x)

module _ (m k : CellRef → Option CellRef) (n l : Range → Option Range) (p : Swap m k) (q : Swap n l) where
  -- moves of references and ranges that do so do so in a formula
  swap : (x : Formula) → moved_formula m n (moved_formula k l x) ≡ moved_formula k l (moved_formula m n x)
  swap (number n) = refl
  swap (cell None) = refl
  swap (cell (Some x)) = λ i. cell (p x i)
  swap (fold g None) = refl
  swap (fold g (Some b)) = λ i. fold g (q b i)
  swap (binary op x y) = λ i. binary op (swap x i) (swap y i)
  swap (if_less x y u v) = λ i. if_less (swap x i) (swap y i) (swap u i) (swap v i)

-- what is done to each cell, as it goes along with its row and with its column
crossed : {A : Type 0} (h k : Change) (p q : ℕ) (none : A) (m n : A → A) → m none ≡ none → n none ≡ none → ((x : A) → m (n x) ≡ n (m x)) → (f : ℕ → ℕ → A) (r c : ℕ)
    → line_from none h p (λ i. m (line_from none k q (λ j. n (f i j)) c)) r ≡ line_from none k q (λ j. n (line_from none h p (λ i. m (f i j)) r)) c
crossed Insert Insert p q none m n u v e f r c = grind (arith, nat_tests, e)
crossed Insert Delete p q none m n u v e f r c = grind (arith, nat_tests, e)
crossed Delete Insert p q none m n u v e f r c = grind (arith, nat_tests, e)
crossed Delete Delete p q none m n u v e f r c = grind (arith, nat_tests, e)

-- a change of rows and a change of columns
both : (h k : Change) (p q : ℕ) (s : Sheet)
    → shifted (the_shift Row h p) (shifted (the_shift Column k q) s) ≡ shifted (the_shift Column k q) (shifted (the_shift Row h p) s)
unfolding shifted
both h k p q s = λ i. record { rows = count_to h s.rows; cols = count_to k s.cols; cells = fun_ext (λ r. fun_ext (λ c. cells r c)) i }
  where
    d : Shift
    d = the_shift Row h p

    e : Shift
    e = the_shift Column k q

    refs : Swap (ref_after d) (ref_after e)
    refs = swap_unless (λ x. place_lost d x.row x.col) (λ x. place_lost e x.row x.col) _ _ (λ x. refl) (λ x. refl) (λ x. refl)

    ranges : Swap (range_after d) (range_after e)
    ranges = swap_unless (range_lost d) (range_lost e) (range_to d) (range_to e) (λ x. refl) (λ x. refl) (λ x. refl)

    either : (x : Option Formula) → shift_cell d (shift_cell e x) ≡ shift_cell e (shift_cell d x)
    either None = refl
    either (Some x) = ap Some (swap (ref_after d) (ref_after e) (range_after d) (range_after e) refs ranges x)

    cells : (r c : ℕ) → place_from None d (λ i j. shift_cell d (place_from None e (λ i j. shift_cell e (s.cells i j)) i j)) r c
        ≡ place_from None e (λ i j. shift_cell e (place_from None d (λ i j. shift_cell d (s.cells i j)) i j)) r c
    cells r c = crossed h k p q None (shift_cell d) (shift_cell e) refl refl either s.cells r c

-- whatever they are
pub either_order : EitherOrder
either_order s d e u v =
    (λ i. shifted (the_shift (u i) d.change d.line) (shifted (the_shift (v i) e.change e.line) s))
    ∙ both d.change e.change d.line e.line s
    ∙ sym (λ i. shifted (the_shift (v i) e.change e.line) (shifted (the_shift (u i) d.change d.line) s))
