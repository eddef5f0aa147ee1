-- A sheet that may come to have so many rows and columns, and a memory that has room for that. Assumes nothing.
use Rattle.std.specs.Prelude.{◌≡◌, ℕ, ◌*◌, ◌≤◌, Bool, true, false, cond, ◌&&◌, List, length, Ok, Err, nat_le, refl}
use Rattle.std.proofs.Common.{arith}
use Rattle.std.proofs.lemmas.Bool.{and_parts, and_from, leb-true, le-leb}
use Rattle.evaluate.specs.Limits.{max_rows, max_columns}
use Rattle.recalc.specs.declared.size.Size.{Size}
use Rattle.recalc.specs.declared.refusal.Refusal.TheVariants.{Rows, Columns, Short}
use Rattle.recalc.specs.Layout.{rows_in, cols_in, sheet_len, within, checked, fitting}

-- so many lines are some and not too many
pub within_is : (m n : ℕ) → within m n ≡ true → (1 ≤ n) × (n ≤ m)
within_is m n e = let t = and_parts (nat_le 1 n) (nat_le n m) e in (leb-true 1 n t.0, leb-true n m t.1)

pub is_within : (m n : ℕ) → 1 ≤ n → n ≤ m → within m n ≡ true
is_within m n a b = and_from (nat_le 1 n) (nat_le n m) (le-leb 1 n a) (le-leb n m b)

-- what is known of a sheet that fits, besides that it is not refused
pub record Fits (most : Size) (xs : List ℕ) : Type 0 where
  pub some_rows : 1 ≤ rows_in xs
  pub rows : rows_in xs ≤ most.rows
  pub most_rows : most.rows ≤ max_rows
  pub some_cols : 1 ≤ cols_in xs
  pub cols : cols_in xs ≤ most.cols
  pub most_cols : most.cols ≤ max_columns
  pub room : sheet_len (most.rows * most.cols) ≤ length xs

pub fits : (most z : Size) (xs : List ℕ) → fitting most xs ≡ Ok z → Fits most xs × (checked xs ≡ Ok z)
fits most z xs =
    go (within max_rows most.rows && within most.rows (rows_in xs)) refl (within max_columns most.cols && within most.cols (cols_in xs)) refl
    (nat_le (sheet_len (most.rows * most.cols)) (length xs)) refl
  where
    go : (a : Bool) → (within max_rows most.rows && within most.rows (rows_in xs)) ≡ a → (b : Bool) → (within max_columns most.cols && within most.cols (cols_in xs)) ≡ b
        → (d : Bool) → nat_le (sheet_len (most.rows * most.cols)) (length xs) ≡ d
        → cond a (cond b (cond d (checked xs) (Err (Short (length xs)))) (Err Columns)) (Err Rows) ≡ Ok z → Fits most xs × (checked xs ≡ Ok z)
    go true e true f true g ok =
        let r = and_parts (within max_rows most.rows) (within most.rows (rows_in xs)) e in
        let c = and_parts (within max_columns most.cols) (within most.cols (cols_in xs)) f in
        let rows = within_is most.rows (rows_in xs) r.1 in
        let cols = within_is most.cols (cols_in xs) c.1 in (
          record {
            some_rows = rows.0;
            rows = rows.1;
            most_rows = (within_is max_rows most.rows r.0).1;
            some_cols = cols.0;
            cols = cols.1;
            most_cols = (within_is max_columns most.cols c.0).1;
            room = leb-true (sheet_len (most.rows * most.cols)) (length xs) g;
          },
          ok,
        )
    go true e true f false g ok = absurd (let y : ◌≡◌ {A = ℕ} 0 1 = cc in omega arith)
    go true e false f d g ok = absurd (let y : ◌≡◌ {A = ℕ} 0 1 = cc in omega arith)
    go false e b f d g ok = absurd (let y : ◌≡◌ {A = ℕ} 0 1 = cc in omega arith)

pub is_fitting : (most z : Size) (xs : List ℕ) → Fits most xs → checked xs ≡ Ok z → fitting most xs ≡ Ok z
is_fitting most z xs f ok =
    let some_rows = f.some_rows in
    let some_cols = f.some_cols in
    let rows : 1 ≤ most.rows = let a = f.rows in omega arith in
    let cols : 1 ≤ most.cols = let a = f.cols in omega arith in
    rw (
      and_from _ _ (is_within max_rows most.rows rows f.most_rows) (is_within most.rows (rows_in xs) some_rows f.rows),
      and_from _ _ (is_within max_columns most.cols cols f.most_cols) (is_within most.cols (cols_in xs) some_cols f.cols),
      le-leb (sheet_len (most.rows * most.cols)) (length xs) f.room,
    ) ok
