-- Cells by their numbers: what an attempt at one of them answers. Assumes nothing.
use Rattle.std.specs.Prelude.{◌≡◌, ℕ, zero, suc, ◌+◌, ◌*◌, ◌/◌, ◌%◌, ◌<◌, ◌≤◌, Bool, true, false, cond, List, length, is_ok, Some, None, Ok, Err, Option, Result, nat_le, refl}
use Rattle.std.proofs.Common.{sym, ap, ◌∙◌, mul-zero, arith}
use Rattle.std.specs.Option.{unwrap_or, option_map}
use Rattle.std.proofs.lemmas.Bool.{cond-true, leb-true, lt-ltb, le-leb}
use Rattle.std.proofs.lemmas.Nat.{mul-le, div-add-mod', div_below, mod_below}
use Rattle.formula.specs.declared.token.CellRef.{CellRef}
use Rattle.formula.specs.Formula.{Formula}
use Rattle.formula.specs.Cells.{content}
use Rattle.evaluate.specs.declared.stop.Stop.{Stop}
use Rattle.evaluate.specs.Limits.{max_rows, max_columns, max_cells}
use Rattle.evaluate.specs.Evaluation.{attempt}
use Rattle.evaluate.specs.declared.value.Value.{Value}
use Rattle.evaluate.specs.declared.value.Value.TheVariants.{Empty}
use Rattle.recalc.specs.declared.size.Size.{Size}
use Rattle.recalc.specs.declared.formulas.Progress.{Progress}
use Rattle.recalc.specs.declared.formulas.Progress.TheVariants.{Waiting, Open, Known}
use Rattle.recalc.specs.declared.refusal.Refusal.TheVariants.{Rows, Columns, Short}
use Rattle.recalc.specs.Layout.{rows_in, cols_in, sheet_len, cell_numbers, first_malformed, unless_malformed, within, size_in, checked, Sized}
use Rattle.recalc.specs.Table.{at, Right, Has, Answers, NeedsWithin}
use Rattle.recalc.specs.Sheets.{Sheet, inside, formula_in, sheet_in}
use Rattle.recalc.specs.Numbered.{count, number_of, nth_cell, laid, worked, LooksAt, known_of, laid_known, tried, tried_cell, as_attempt, readable}
use Rattle.recalc.specs.SheetLaws.{number_inside}
use Rattle.recalc.proofs.Fitting.{within_is, is_within}
use Rattle.recalc.proofs.Tries.{RightAt, made, wanted}

known_is : (p : Progress) (v : Value) → known_of p ≡ Some v → p ≡ Known v
known_is Waiting v e = absurd (let z : ◌≡◌ {A = ℕ} 0 1 = cc in omega arith)
known_is (Open i) v e = absurd (let z : ◌≡◌ {A = ℕ} 0 1 = cc in omega arith)
known_is (Known w) v e = let z : w ≡ v = cc in ap Known z

module _ (s : Sheet) (T : List Progress) where
  abbrev table : ℕ → ℕ → Option Value
  table r c = laid_known s.rows s.cols T r c

  right_laid : (f : ℕ → Value) → Right f T → RightAt table (laid s f)
  right_laid f right r c v e = go (inside s r c) e
    where
      go : (b : Bool) → cond b (known_of (at T (r * s.cols + c))) (Some Empty) ≡ Some v → cond b (f (r * s.cols + c)) Empty ≡ v
      go true e = sym (right (r * s.cols + c) v (known_is (at T (r * s.cols + c)) v e))
      go false e = cc

  -- what is not known is in the sheet
  unknown_inside : (q : CellRef) → table q.row q.col ≡ None → (inside s q.row q.col ≡ true) × (known_of (at T (number_of s q)) ≡ None)
  unknown_inside q e = go (inside s q.row q.col) refl e
    where
      go : (b : Bool) → inside s q.row q.col ≡ b → cond b (known_of (at T (number_of s q))) (Some Empty) ≡ None
          → (inside s q.row q.col ≡ true) × (known_of (at T (number_of s q)) ≡ None)
      go true within e = (within, e)
      go false within e = absurd (let z : ◌≡◌ {A = ℕ} 0 1 = cc in omega arith)

  known_there : (q : CellRef) (j : ℕ) → inside s q.row q.col ≡ true → number_of s q ≡ j → (w : Value) × (table q.row q.col ≡ Some w) → Has T j
  known_there q j within d (w, e) =
      (w, known_is (at T j) w (ap (λ i. known_of (at T i)) (sym d) ∙ sym (cond-true (inside s q.row q.col) (known_of (at T (number_of s q))) (Some Empty) within) ∙ e))

  pub answers : (k : ℕ) (r : Result Value CellRef) → tried_cell table (nth_cell s k) ≡ r → (f : ℕ → Value) → Right f T → Answers (worked s f k) (LooksAt s f k) T (as_attempt s r)
  answers k (Ok v) e f right =
      let h = made table (laid s f) (right_laid f right) (nth_cell s k) v e in
      (sym h.0, λ j (q, i, within, d). known_there q j within d (h.1 q i))
  answers k (Err q) e f right =
      let h = wanted table (laid s f) (right_laid f right) (nth_cell s k) q e in
      let u = unknown_inside q h.1 in
      ((q, h.0, u.0, refl), λ v d. let z : ◌≡◌ {A = ℕ} 0 1 = (let n = u.1 in let m : known_of (at T (number_of s q)) ≡ Some v = ap known_of d in cc) in absurd (omega arith))

  -- a row of which the table is right: what is not known is empty
  abbrev filled_up : ℕ → Value
  filled_up k = unwrap_or (known_of (at T k)) Empty

  pub wanted_inside : (k : ℕ) (q : CellRef) → tried_cell table (nth_cell s k) ≡ Err q → inside s q.row q.col ≡ true
  wanted_inside k q e = (unknown_inside q (wanted table (laid s filled_up) (right_laid filled_up (λ j v d. rw d)) (nth_cell s k) q e).1).0

  pub needs_within : (k : ℕ) (r : Result Value CellRef) → tried_cell table (nth_cell s k) ≡ r → NeedsWithin (count s) (as_attempt s r)
  needs_within k (Ok v) e = tt
  needs_within k (Err q) e = number_inside s q (wanted_inside k q e)

pub some_cols : (n m k : ℕ) → k < n * m → 0 < m
some_cols n zero k l = absurd (omega (arith, mul-zero n))
some_cols n (suc m) k l = omega arith

-- cell k of a sheet in memory
pub nth_is : (xs : List ℕ) (k : ℕ) → k < count (sheet_in xs) → nth_cell (sheet_in xs) k ≡ formula_in (content (cell_numbers k xs))
nth_is xs k l =
    let w = cols_in xs in
    let some = some_cols (rows_in xs) w k l in
    let r = lt-ltb (k / w) (rows_in xs) (div_below k w (rows_in xs) some l) in
    let c = lt-ltb (k % w) w (mod_below k w some) in
    rw (r, c, div-add-mod' k w)

pub formula_tried : (f : ℕ → ℕ → Option Value) (o : Option Formula) (r : Result ℕ Stop) → Some r ≡ option_map (attempt f) o → tried r ≡ tried_cell f o
formula_tried f None r e = absurd (let z : ◌≡◌ {A = ℕ} 0 1 = cc in omega arith)
formula_tried f (Some x) r e = let z : r ≡ attempt f x = cc in ap tried z

-- a memory that is not refused has a size within the bounds, and room for it
pub checked_sized : (xs : List ℕ) → is_ok (checked xs) ≡ true → Sized xs (size_in xs)
checked_sized xs ok =
    rows (within max_rows (rows_in xs)) refl (within max_columns (cols_in xs)) refl (nat_le (sheet_len (rows_in xs * cols_in xs)) (length xs)) refl ok
  where
    rows : (a : Bool) → within max_rows (rows_in xs) ≡ a → (b : Bool) → within max_columns (cols_in xs) ≡ b → (d : Bool) → nat_le (sheet_len (rows_in xs * cols_in xs)) (length xs) ≡ d
        → is_ok (cond a (cond b (cond d (unless_malformed (first_malformed 0 (rows_in xs * cols_in xs) xs) (size_in xs)) (Err (Short (length xs)))) (Err Columns)) (Err Rows)) ≡ true
        → Sized xs (size_in xs)
    rows true e true f true g ok =
        let r = within_is max_rows (rows_in xs) e in
        let c = within_is max_columns (cols_in xs) f in
        record { some_rows = r.0; few_rows = r.1; some_cols = c.0; few_cols = c.1; room = leb-true (sheet_len (rows_in xs * cols_in xs)) (length xs) g }
    rows true e true f false g ok = absurd (grind arith)
    rows true e false f d g ok = absurd (grind arith)
    rows false e b f d g ok = absurd (grind arith)

-- nor has it a malformed cell
pub checked_formed : (xs : List ℕ) → is_ok (checked xs) ≡ true → first_malformed 0 (rows_in xs * cols_in xs) xs ≡ None
checked_formed xs ok = go (within max_rows (rows_in xs)) (within max_columns (cols_in xs)) (nat_le (sheet_len (rows_in xs * cols_in xs)) (length xs)) (first_malformed 0 (rows_in xs * cols_in xs) xs) ok
  where
    go : (a b d : Bool) (o : Option ℕ) → is_ok (cond a (cond b (cond d (unless_malformed o (size_in xs)) (Err (Short (length xs)))) (Err Columns)) (Err Rows)) ≡ true → o ≡ None
    go true true true None ok = refl
    go true true true (Some k) ok = absurd (grind arith)
    go true true false o ok = absurd (grind arith)
    go true false d o ok = absurd (grind arith)
    go false b d o ok = absurd (grind arith)

-- a sheet that is not refused, from its parts
pub is_checked : (xs : List ℕ) → Sized xs (size_in xs) → first_malformed 0 (rows_in xs * cols_in xs) xs ≡ None → checked xs ≡ Ok (size_in xs)
is_checked xs s e =
    rw (
      is_within max_rows (rows_in xs) s.some_rows s.few_rows,
      is_within max_columns (cols_in xs) s.some_cols s.few_cols,
      le-leb (sheet_len (rows_in xs * cols_in xs)) (length xs) s.room,
      e,
    )

-- the size that is answered is the one that stands there
pub checked_size : (xs : List ℕ) (z : Size) → checked xs ≡ Ok z → z ≡ size_in xs
checked_size xs z e =
    go (within max_rows (rows_in xs)) (within max_columns (cols_in xs)) (nat_le (sheet_len (rows_in xs * cols_in xs)) (length xs)) (first_malformed 0 (rows_in xs * cols_in xs) xs) e
  where
    go : (a b d : Bool) (o : Option ℕ) → cond a (cond b (cond d (unless_malformed o (size_in xs)) (Err (Short (length xs)))) (Err Columns)) (Err Rows) ≡ Ok z → z ≡ size_in xs
    go true true true None e = cc
    go true true true (Some k) e = absurd (let y : ◌≡◌ {A = ℕ} 0 1 = cc in omega arith)
    go true true false o e = absurd (let y : ◌≡◌ {A = ℕ} 0 1 = cc in omega arith)
    go true false d o e = absurd (let y : ◌≡◌ {A = ℕ} 0 1 = cc in omega arith)
    go false b d o e = absurd (let y : ◌≡◌ {A = ℕ} 0 1 = cc in omega arith)

-- a place that is wanted is on the sheet
pub wanted_there : (xs : List ℕ) (z : Size) (T : List Progress) (k : ℕ) (q : CellRef) → z ≡ size_in xs
    → tried_cell (laid_known z.rows z.cols T) (nth_cell (sheet_in xs) k) ≡ Err q → inside (sheet_in xs) q.row q.col ≡ true
wanted_there xs z T k q same e =
    wanted_inside (sheet_in xs) T k q (ap (λ (y : Size). tried_cell (laid_known y.rows y.cols T) (nth_cell (sheet_in xs) k)) (sym same) ∙ e)

-- where there is a cell to show, the memory is a sheet
pub record LentCell (xs : List ℕ) : Type 0 where
  pub is : readable xs ≡ sheet_in xs
  pub sized : Sized xs (size_in xs)

pub lent_cell : (xs : List ℕ) (k : ℕ) → k < count (readable xs) → LentCell xs
lent_cell xs k l = go (is_ok (checked xs)) refl l
  where
    go : (b : Bool) → is_ok (checked xs) ≡ b → k < count (cond b (sheet_in xs) (record { rows = 0; cols = 0; cells = λ r c. None })) → LentCell xs
    go true e l = record { is = cond-true (is_ok (checked xs)) (sheet_in xs) _ e; sized = checked_sized xs e }
    go false e l = absurd (omega arith)

-- what an attempt at a cell of the sheet in memory answers is what the engine asks
pub lent_answers : (xs : List ℕ) (z : Size) (T : List Progress) (k : ℕ) → z ≡ size_in xs
    → (r : Result Value CellRef) → r ≡ tried_cell (laid_known z.rows z.cols T) (nth_cell (sheet_in xs) k)
    → NeedsWithin (count (sheet_in xs)) (as_attempt (sheet_in xs) r) × ((f : ℕ → Value) → Right f T → Answers (worked (sheet_in xs) f k) (LooksAt (sheet_in xs) f k) T (as_attempt (sheet_in xs) r))
lent_answers xs z T k same r e =
    let d : tried_cell (laid_known (rows_in xs) (cols_in xs) T) (nth_cell (sheet_in xs) k) ≡ r =
    sym (e ∙ ap (λ (y : Size). tried_cell (laid_known y.rows y.cols T) (nth_cell (sheet_in xs) k)) same) in
    (needs_within (sheet_in xs) T k r d, answers (sheet_in xs) T k r d)

-- no sheet has more cells than the largest
pub few_cells : (xs : List ℕ) (z : Size) → Sized xs z → z.rows * z.cols ≤ max_cells
few_cells xs z s = omega (arith, mul-le z.rows z.cols max_rows max_columns s.few_rows s.few_cols)
