-- What a formula shows before a change and after it. Assumes nothing.
use Rattle.std.proofs.Common.{◌≡◌, ℕ, Bool, true, false, cond, ltb, Some, None, Option, unwrap_or, refl, ap, ◌∙◌}
use Rattle.std.specs.Option.{option_map}
use Rattle.formula.specs.declared.token.CellRef.{CellRef}
use Rattle.formula.specs.declared.token.Range.{Range}
use Rattle.formula.specs.declared.token.Aggregate.{Aggregate}
use Rattle.formula.specs.Formula.{Formula, number, cell, fold, binary, if_less}
use Rattle.formula.specs.Moving.{moved_formula}
use Rattle.evaluate.specs.declared.value.Value.{Value}
use Rattle.evaluate.specs.Traces.{seen, bind}
use Rattle.evaluate.specs.Evaluation.{applied, finished, trace, attempt, known, value_of}
use Rattle.recalc.specs.Sheets.{cell_shows}
use Rattle.shift.specs.declared.shift.Axis.{Axis}
use Rattle.shift.specs.declared.shift.Axis.TheVariants.{Row, Column}
use Rattle.shift.specs.declared.shift.Change.{Change}
use Rattle.shift.specs.declared.shift.Shift.{Shift}
use Rattle.shift.specs.Lines.{lines_lost}
use Rattle.shift.specs.Shifts.{the_shift, by_axis, by_line, unless, place_lost, row_to, col_to, ref_after, range_after}
use Rattle.shift.specs.Sheets.{shift_formula, shift_cell}
use Rattle.shift.proofs.Gaps.{kept}
use Rattle.shift.proofs.Ranges.{empty, ShowsBeside, seen_alike, range_to, lost_or_moved, kept_range}

-- a reference before a shift, lost if the shift loses it
abbrev rest_ref : Shift → CellRef → Option CellRef
rest_ref d x = unless (place_lost d x.row x.col) x

-- a range
abbrev rest_range : Shift → Range → Option Range
rest_range d b = unless (lines_lost d.change d.line (by_axis d.axis b.row b.col) (by_axis d.axis b.rows b.cols)) b

-- and a formula, with lost what the shift loses
abbrev pub rest_formula : Shift → Formula → Formula
rest_formula d x = moved_formula (rest_ref d) (rest_range d) x

-- at its new place each cell that is not lost shows what it showed
pub kept_place : (a : Axis) (h : Change) (p : ℕ) (f g : ℕ → ℕ → Value) → ShowsBeside (the_shift a h p) f g
    → (r c : ℕ) → place_lost (the_shift a h p) r c ≡ false → g (row_to (the_shift a h p) r) (col_to (the_shift a h p) c) ≡ f r c
kept_place Row h p f g k r c e = kept empty h p f g k r c e
kept_place Column h p f g k r c e = kept empty h p (by_line Column f) (by_line Column g) k c r e

-- two branches end alike, whichever is taken
branch_alike : (f g : ℕ → ℕ → Option Value) (t u v w : Formula) → attempt f t ≡ attempt g u → attempt f v ≡ attempt g w
    → (b : Bool) → (cond b (trace f t) (trace f v)).end ≡ (cond b (trace g u) (trace g w)).end
branch_alike f g t u v w e q true = e
branch_alike f g t u v w e q false = q

module _ (d : Shift) (f g : ℕ → ℕ → Value) (k : ShowsBeside d f g) where
  -- a reference comes to what it came to
  ref_alike : (x : CellRef) → attempt (known g) (cell (ref_after d x)) ≡ attempt (known f) (cell (rest_ref d x))
  ref_alike x = go (place_lost d x.row x.col) _ (kept_place d.axis d.change d.line f g k x.row x.col)
    where
      go : (lost : Bool) (y : CellRef) → (lost ≡ false → g y.row y.col ≡ f x.row x.col)
          → attempt (known g) (cell (unless lost y)) ≡ attempt (known f) (cell (unless lost x))
      go true y e = refl
      go false y e = ap (λ v. seen y (Some v) (λ n. unwrap_or n 0)) (e refl) ∙ seen_alike y x (f x.row x.col) (λ n. unwrap_or n 0)

  -- so does a range
  range_alike : (t : Aggregate) (b : Range) → attempt (known g) (fold t (range_after d b)) ≡ attempt (known f) (fold t (rest_range d b))
  range_alike t b = ap (λ o. attempt (known g) (fold t o)) (lost_or_moved d.axis d.change d.line b) ∙ go _
    where
      go : (lost : Bool) → attempt (known g) (fold t (unless lost (range_to d b))) ≡ attempt (known f) (fold t (unless lost b))
      go true = refl
      go false = ap (λ o. bind o (finished t)) (kept_range d f g k b)

  -- so does a formula
  formula_alike : (x : Formula) → attempt (known g) (shift_formula d x) ≡ attempt (known f) (rest_formula d x)
  formula_alike (number n) = refl
  formula_alike (cell None) = refl
  formula_alike (cell (Some x)) = ref_alike x
  formula_alike (fold t None) = refl
  formula_alike (fold t (Some b)) = range_alike t b
  formula_alike (binary op x y) = λ i. bind (formula_alike x i) (λ m. bind (formula_alike y i) (λ n. applied op m n))
  formula_alike (if_less x y u v) =
      let taken = branch_alike (known g) (known f) (shift_formula d u) (rest_formula d u) (shift_formula d v) (rest_formula d v) (formula_alike u) (formula_alike v) in
      λ i. bind (formula_alike x i) (λ m. bind (formula_alike y i) (λ n. taken (ltb m n) i))

  -- a cell shows what it showed, but for what is lost
  pub cell_alike : (x : Option Formula) → cell_shows g (shift_cell d x) ≡ cell_shows f (option_map (rest_formula d) x)
  cell_alike None = refl
  cell_alike (Some x) = ap value_of (formula_alike x)
