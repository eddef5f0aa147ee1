-- A shift that is not refused: the sheet stays within its bounds, and the memory has room. Assumes nothing.
use Rattle.std.proofs.Common.{◌≡◌, ℕ, ◌≤◌, max, true, List, length, is_ok, Ok, Err, Result, sym, refl, ap, ◌∙◌, subst, mul-le-mul_left, arith}
use Rattle.std.proofs.lemmas.Nat.{mul-le}
use Rattle.std.proofs.lemmas.Bool.Decides.{nat_tests}
use Rattle.formula.specs.Layout.{cell_len}
use Rattle.recalc.specs.declared.size.Size.{Size}
use Rattle.recalc.specs.declared.refusal.Refusal.{Refusal}
use Rattle.recalc.specs.Layout.{sheet_len, size_in, checked, fitting}
use Rattle.recalc.proofs.Fitting.{Fits, fits, is_fitting}
use Rattle.recalc.proofs.Numbered.{checked_size}
use Rattle.shift.specs.declared.shift.Axis.{Axis}
use Rattle.shift.specs.declared.shift.Axis.TheVariants.{Row, Column}
use Rattle.shift.specs.declared.shift.Change.{Change}
use Rattle.shift.specs.declared.shift.Change.TheVariants.{Insert, Delete}
use Rattle.shift.specs.declared.shift.Shift.{Shift}
use Rattle.shift.specs.Lines.{count_to}
use Rattle.shift.specs.Shifts.{the_shift, rows_after, cols_after}
use Rattle.shift.specs.Sheets.{line_allowed, shift_allowed}
use Rattle.shift.specs.Entries.{size_after, cells_of, LineThere, Shiftable}
use Rattle.shift.specs.Memory.{shifted_memory, and_then, shift_checked, shifted_in}
use Rattle.shift.proofs.Memories.{some_left, memory_length}

-- the line is there, and there are no more than may be
line_fits : (h : Change) (p n m : ℕ) → line_allowed h p n m ≡ Ok tt → n ≤ m → LineThere h p n × (count_to h n ≤ m)
line_fits Insert p n m e l = (grind (arith, nat_tests), grind (arith, nat_tests))
line_fits Delete p n m e l = ((grind (arith, nat_tests), grind (arith, nat_tests)), omega arith)

-- what a shift that is not refused leaves
pub record Leaves (d : Shift) (most : Size) (xs : List ℕ) : Type 0 where
  pub shiftable : Shiftable d (size_in xs)
  pub rows : rows_after d (size_in xs).rows ≤ most.rows
  pub cols : cols_after d (size_in xs).cols ≤ most.cols

pub leaves : (d : Shift) (most : Size) (xs : List ℕ) → Fits most xs → shift_allowed d (size_in xs) most ≡ Ok tt → Leaves d most xs
leaves d most xs f e = go d.axis d.change d.line e
  where
    few : (n : ℕ) (m k : ℕ) → n ≤ m → m ≤ k → n ≤ k
    few n m k a b = omega arith

    go : (a : Axis) (h : Change) (p : ℕ) → shift_allowed (the_shift a h p) (size_in xs) most ≡ Ok tt → Leaves (the_shift a h p) most xs
    go Row h p e =
        let t = line_fits h p (size_in xs).rows most.rows e f.rows in
        record {
          shiftable = record {
            some_rows = f.some_rows;
            few_rows = few _ _ _ f.rows f.most_rows;
            some_cols = f.some_cols;
            few_cols = few _ _ _ f.cols f.most_cols;
            there = t.0;
            rows_left = few _ _ _ t.1 f.most_rows;
            cols_left = few _ _ _ f.cols f.most_cols;
          };
          rows = t.1;
          cols = f.cols;
        }
    go Column h p e =
        let t = line_fits h p (size_in xs).cols most.cols e f.cols in
        record {
          shiftable = record {
            some_rows = f.some_rows;
            few_rows = few _ _ _ f.rows f.most_rows;
            some_cols = f.some_cols;
            few_cols = few _ _ _ f.cols f.most_cols;
            there = t.0;
            rows_left = few _ _ _ f.rows f.most_rows;
            cols_left = few _ _ _ t.1 f.most_cols;
          };
          rows = f.rows;
          cols = t.1;
        }

-- there is room for the sheet before and after
pub room_left : (d : Shift) (most : Size) (xs : List ℕ) → Fits most xs → Leaves d most xs → sheet_len (max (cells_of (size_in xs)) (cells_of (size_after d (size_in xs)))) ≤ length xs
room_left d most xs f l =
    let a = mul-le (size_in xs).rows (size_in xs).cols most.rows most.cols f.rows f.cols in
    let b = mul-le (rows_after d (size_in xs).rows) (cols_after d (size_in xs).cols) most.rows most.cols l.rows l.cols in
    let c : max (cells_of (size_in xs)) (cells_of (size_after d (size_in xs))) ≤ cells_of most = omega arith in
    omega (arith, f.room, mul-le-mul_left cell_len c)

-- all that a shift of a memory asks for, and what it answers
pub record Ready (d : Shift) (most size : Size) (xs : List ℕ) : Type 0 where
  pub is : size ≡ size_in xs
  pub fits : Fits most xs
  pub leaves : Leaves d most xs
  pub ok : is_ok (checked xs) ≡ true
  pub answer : shifted_in d most xs ≡ Ok (shifted_memory d xs)

-- a sheet that fits, and a shift of it that is not refused
fitted : (d : Shift) (most size : Size) (xs : List ℕ) → fitting most xs ≡ Ok size → shift_allowed d size most ≡ Ok tt → (size ≡ size_in xs) × Fits most xs × (checked xs ≡ Ok size) × Leaves d most xs
fitted d most size xs h e =
    let f = fits most size xs h in
    let is = checked_size xs size f.1 in
    (is, f.0, f.1, leaves d most xs f.0 (subst (λ z. shift_allowed d z most ≡ Ok tt) is e))

pub shiftable : (d : Shift) (most size : Size) (xs : List ℕ) → fitting most xs ≡ Ok size → shift_allowed d size most ≡ Ok tt → Shiftable d size
shiftable d most size xs h e = let t = fitted d most size xs h e in subst (Shiftable d) (sym t.0) t.3.shiftable

-- so it is for the shift that was checked
pub ready : (d e : Shift) (most size : Size) (xs : List ℕ) → d ≡ e → shift_checked e most xs ≡ Ok size → Ready d most size xs
ready d e most size xs same is = go (fitting most xs) refl checked_so
  where
    checked_so : shift_checked d most xs ≡ Ok size
    checked_so = subst (λ f. shift_checked f most xs ≡ Ok size) (sym same) is

    allowed : (z : Size) (r : Result (Unit {0}) Refusal) → and_then r (λ u. Ok z) ≡ Ok size → (z ≡ size) × (r ≡ Ok tt)
    allowed z (Ok x) e = (cc, refl)
    allowed z (Err r) e = absurd (let y : ◌≡◌ {A = ℕ} 0 1 = cc in omega arith)

    go : (f : Result Size Refusal) → fitting most xs ≡ f → and_then f (λ z. and_then (shift_allowed d z most) (λ u. Ok z)) ≡ Ok size → Ready d most size xs
    go (Err r) h a = absurd (let y : ◌≡◌ {A = ℕ} 0 1 = cc in omega arith)
    go (Ok z) h a =
        let a = allowed z (shift_allowed d z most) a in
        let t = fitted d most z xs h a.1 in
        record { is = sym a.0 ∙ t.0; fits = t.1; leaves = t.3; ok = ap is_ok t.2; answer = ap (λ r. and_then r (λ y. Ok (shifted_memory d xs))) checked_so }

-- it fits afterwards as it did before
pub fits_after : (d : Shift) (most size : Size) (xs : List ℕ) → Ready d most size xs → checked (shifted_memory d xs) ≡ Ok (size_after d (size_in xs))
    → fitting most (shifted_memory d xs) ≡ Ok (size_after d (size_in xs))
fits_after d most size xs r ok =
    let f = r.fits in
    let l = r.leaves in
    let some = some_left d (size_in xs) l.shiftable in
    let long = memory_length d xs l.shiftable (room_left d most xs f l) in
    is_fitting most (size_after d (size_in xs)) (shifted_memory d xs)
    (record { some_rows = some.0; rows = l.rows; most_rows = f.most_rows; some_cols = some.1; cols = l.cols; most_cols = f.most_cols; room = let z = f.room in omega arith }) ok
