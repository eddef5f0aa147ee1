-- A sheet in memory after a shift: its numbers, and the sheet that they stand for. Assumes nothing.
use Rattle.std.proofs.Common.{◌≡◌, ℕ, ◌+◌, ◌-◌, ◌*◌, ◌/◌, ◌%◌, ◌<◌, ◌≤◌, max, Bool, true, false, cond, ◌⊎◌, List, [], ◌∷◌, ◌++◌, length, take, drop, set, replicate, is_ok, None, Ok, Option, sym, refl, ap, ◌∙◌, inl, inr, mul-le-mul_left, arith, length-append, length-drop}
use mathlib.Core.Path.{fun_ext}
use borrow.Rule.Slice.PartMut.{put_mid}
use lib.ListN.{length-replicate}
use Rattle.std.proofs.lemmas.List.{append-nil, drop_all, drop_at, drop-drop, length-take-le}
use Rattle.std.proofs.lemmas.Nat.{mul-add-lt, div-mul-add, mod-mul-add}
use Rattle.formula.specs.Layout.{cell_len}
use Rattle.formula.specs.Formula.{Formula}
use Rattle.formula.specs.Cells.{content}
use Rattle.recalc.specs.declared.size.Size.{Size}
use Rattle.recalc.specs.Layout.{header_len, sheet_len, cell_numbers, cols_in, size_in, is_malformed, checked}
use Rattle.recalc.specs.Sheets.{inside, formula_in, sheet_in, Same}
use Rattle.recalc.specs.Entries.{entry, entries_from}
use Rattle.recalc.proofs.Entries.{part_front, same_entries, entries_length, entry_at}
use Rattle.recalc.proofs.Malformed.{none_malformed, each_formed}
use Rattle.recalc.specs.SheetLaws.{inside_is}
use Rattle.recalc.proofs.Numbered.{checked_formed, is_checked}
use Rattle.shift.specs.declared.shift.Axis.{Axis}
use Rattle.shift.specs.declared.shift.Axis.TheVariants.{Row, Column}
use Rattle.shift.specs.declared.shift.Change.{Change}
use Rattle.shift.specs.declared.shift.Change.TheVariants.{Insert, Delete}
use Rattle.shift.specs.declared.shift.Shift.{Shift}
use Rattle.shift.specs.Shifts.{the_shift, place_from, rows_after, cols_after}
use Rattle.shift.specs.Sheets.{shift_cell, shifted}
use Rattle.shift.specs.Entries.{size_after, cells_of, coming, shifted_entries, Shiftable, origin, entry_or_zeros}
use Rattle.shift.specs.Memory.{shifted_cell, shifted_cells, cells_after, shifted_memory}
use Rattle.shift.proofs.Origins.{Origin, origins, place_each, coming_is}
use Rattle.shift.proofs.OneCell.{cell_length, shifted_content, content_shifted, formula_of, malformed_of}
use Rattle.shift.proofs.Grids.{coming_long, put_behind}

-- the cells at the front of a row, shifted as a row of their own
pub front_shifted : (d : Shift) (n : ℕ) (xs : List ℕ) → cell_len * n ≤ length xs
    → let front = take (cell_len * n) xs in
    let m = length front / cell_len in
    shifted_cells d (λ k. entry cell_len k front) m (drop (cell_len * m) front) ++ drop (cell_len * n) xs ≡ shifted_cells d (λ k. entry cell_len k xs) n (drop (cell_len * n) xs)
front_shifted d n xs l =
    let front = take (cell_len * n) xs in
    let long : length front ≡ cell_len * n = length-take-le (cell_len * n) xs l in
    let all : length front / cell_len ≡ n = omega (arith, long) in
    let none : drop (cell_len * n) front ≡ [] = drop_all (cell_len * n) front (omega (arith, long)) in
    let cells : List ℕ = entries_from (λ k. shifted_cell d (entry cell_len k front)) 0 n in
    ap (λ m. shifted_cells d (λ k. entry cell_len k front) m (drop (cell_len * m) front) ++ drop (cell_len * n) xs) all
    ∙ ap (λ ys. (cells ++ ys) ++ drop (cell_len * n) xs) none
    ∙ ap (λ ys. ys ++ drop (cell_len * n) xs) (append-nil cells)
    ∙ ap (λ ys. ys ++ drop (cell_len * n) xs)
    (same_entries (λ k. shifted_cell d (entry cell_len k front)) (λ k. shifted_cell d (entry cell_len k xs)) 0 n
    (λ k a b. ap (λ ys. shifted_cell d (entry cell_len k ys)) (sym (append-nil front)) ∙ ap (shifted_cell d) (part_front (cell_len * k) cell_len (cell_len * n) xs [] (omega arith) l)))

module _ (d : Shift) (size : Size) (xs : List ℕ) (s : Shiftable d size) (room : cell_len * cells_of size ≤ length xs) where
  abbrev left : ℕ
  left = cells_of (size_after d size)

  -- the cells moved, and then their formulas shifted
  pub moved_then_shifted : (now next : List ℕ) (n : ℕ) → n ≡ left → now ≡ shifted_entries cell_len d size xs
      → next ≡ shifted_cells d (λ k. entry cell_len k now) n (drop (cell_len * n) now) → next ≡ cells_after d size xs
  moved_then_shifted now next n e m h =
      let all = entries_from (coming cell_len d size xs) 0 left in
      let rest = replicate (cell_len * (cells_of size - left)) 0 ++ drop (cell_len * max (cells_of size) left) xs in
      let long : (k : ℕ) → k < left → length (coming cell_len d size xs k) ≡ cell_len = λ k l. coming_long cell_len d size xs s k l room in
      let zero_left : (i : ℕ) → 0 + i ≡ i = λ i. omega arith in
      h
      ∙ ap (λ i. shifted_cells d (λ k. entry cell_len k now) i (drop (cell_len * i) now)) e
      ∙ ap (λ zs. shifted_cells d (λ k. entry cell_len k zs) left (drop (cell_len * left) zs)) m
      ∙ ap (λ zs. shifted_cells d (λ k. entry cell_len k (all ++ rest)) left zs) (drop_at all rest (cell_len * left) (entries_length (coming cell_len d size xs) cell_len left long 0 left (omega arith)))
      ∙ ap (λ zs. zs ++ rest)
      (same_entries (λ k. shifted_cell d (entry cell_len k (all ++ rest))) (λ k. shifted_cell d (coming cell_len d size xs k)) 0 left
      (λ k a b. ap (shifted_cell d) (entry_at (coming cell_len d size xs) cell_len left long 0 left k rest (omega arith) (omega arith) ∙ ap (coming cell_len d size xs) (zero_left k))))

  -- the cells after a shift have their length, and with what lies behind them they are as many numbers as before
  cell_long : (k : ℕ) → k < left → length (shifted_cell d (coming cell_len d size xs k)) ≡ cell_len
  cell_long k l = cell_length d (coming cell_len d size xs k) (coming_long cell_len d size xs s k l room)

  pub cells_length : cell_len * max (cells_of size) left ≤ length xs → length (cells_after d size xs) ≡ length xs
  cells_length h =
      let all = entries_length (λ k. shifted_cell d (coming cell_len d size xs k)) cell_len left cell_long 0 left (omega arith) in
      simp (length-append, length-replicate, length-drop) (omega arith)

  -- what a cell holds afterwards
  cell_content : (k : ℕ) → k < left → content (entry cell_len k (cells_after d size xs)) ≡ shifted_content d (content (coming cell_len d size xs k))
  cell_content k l =
      let zero_left : 0 + k ≡ k = omega arith in
      ap content (entry_at (λ i. shifted_cell d (coming cell_len d size xs i)) cell_len left cell_long 0 left k _ (omega arith) l ∙ ap (λ i. shifted_cell d (coming cell_len d size xs i)) zero_left)
      ∙ content_shifted d (coming cell_len d size xs k) (coming_long cell_len d size xs s k l room)

  pub cell_formula : (r c : ℕ) → r < rows_after d size.rows → c < cols_after d size.cols
      → formula_in (content (entry cell_len (r * cols_after d size.cols + c) (cells_after d size xs)))
      ≡ place_from None d (λ i j. shift_cell d (formula_in (content (entry cell_len (i * size.cols + j) xs)))) r c
  cell_formula r c u v =
      let w = cols_after d size.cols in
      let k = r * w + c in
      let l : k < left = omega (arith, mul-add-lt r w c (rows_after d size.rows) u v) in
      let row : k / w ≡ r = div-mul-add r w c v in
      let col : k % w ≡ c = mod-mul-add r w c v in
      ap formula_in (cell_content k l)
      ∙ formula_of d (content (coming cell_len d size xs k))
      ∙ ap (λ o. shift_cell d o) (place_each (λ ys. formula_in (content ys)) (replicate cell_len 0) d (λ i j. entry cell_len (i * size.cols + j) xs) (k / w) (k % w))
      ∙ place_each (λ o. shift_cell d o) None d (λ i j. formula_in (content (entry cell_len (i * size.cols + j) xs))) (k / w) (k % w)
      ∙ ap (λ i. place_from None d (λ i j. shift_cell d (formula_in (content (entry cell_len (i * size.cols + j) xs)))) i (k % w)) row
      ∙ ap (λ j. place_from None d (λ i j. shift_cell d (formula_in (content (entry cell_len (i * size.cols + j) xs)))) r j) col

  -- a cell is well formed if the one that came there was
  pub cell_formed : (k : ℕ) → k < left → ((j : ℕ) → j < cells_of size → is_malformed (content (entry cell_len j xs)) ≡ false) → is_malformed (content (entry cell_len k (cells_after d size xs))) ≡ false
  cell_formed k l formed =
      ap is_malformed (cell_content k l) ∙ malformed_of d (content (coming cell_len d size xs k)) ∙ ap (λ ys. is_malformed (content ys)) (coming_is cell_len d size xs k) ∙ go (origins d size k s l)
    where
      go : ((j : ℕ) × Origin d size k j) ⊎ ((origin d size k ≡ None) × (d.change ≡ Insert)) → is_malformed (content (entry_or_zeros cell_len (origin d size k) xs)) ≡ false
      go (inl (j, o)) = rw o.is (formed j o.inside)
      go (inr (e, h)) = rw e

-- a cell of a memory behind its two counts
cell_behind : (k : ℕ) (xs : List ℕ) → cell_numbers k xs ≡ entry cell_len k (drop header_len xs)
cell_behind k xs = ap (take cell_len) (sym (drop-drop (cell_len * k) header_len xs))

-- some lines are left
pub some_left : (d : Shift) (size : Size) → Shiftable d size → (1 ≤ rows_after d size.rows) × (1 ≤ cols_after d size.cols)
some_left d size s = go d.axis d.change d.line s
  where
    go : (a : Axis) (h : Change) (p : ℕ) → Shiftable (the_shift a h p) size → (1 ≤ rows_after (the_shift a h p) size.rows) × (1 ≤ cols_after (the_shift a h p) size.cols)
    go Row Insert p s = (omega arith, s.some_cols)
    go Row Delete p s = (let t = s.there.1 in omega arith, s.some_cols)
    go Column Insert p s = (s.some_rows, omega arith)
    go Column Delete p s = (s.some_rows, let t = s.there.1 in omega arith)

module _ (d : Shift) (xs : List ℕ) (s : Shiftable d (size_in xs)) (room : sheet_len (max (cells_of (size_in xs)) (cells_of (size_after d (size_in xs)))) ≤ length xs) where
  cells_room : cell_len * max (cells_of (size_in xs)) (cells_of (size_after d (size_in xs))) ≤ length (drop header_len xs)
  cells_room = simp length-drop (omega arith)

  before_room : cell_len * cells_of (size_in xs) ≤ length (drop header_len xs)
  before_room = let m : cells_of (size_in xs) ≤ max (cells_of (size_in xs)) (cells_of (size_after d (size_in xs))) = omega arith in omega (arith, cells_room, mul-le-mul_left cell_len m)

  -- the sheet in the memory is the shifted sheet
  pub same_sheet : Same (sheet_in (shifted_memory d xs)) (shifted d (sheet_in xs))
  unfolding shifted
  same_sheet = record { rows = refl; cols = refl; cells = λ r c. go r c (inside (sheet_in (shifted_memory d xs)) r c) refl }
    where
      behind : ◌≡◌ {A = ℕ → ℕ → Option Formula} (λ i j. shift_cell d (formula_in (content (entry cell_len (i * cols_in xs + j) (drop header_len xs)))))
          (λ i j. shift_cell d (formula_in (content (cell_numbers (i * cols_in xs + j) xs))))
      behind = fun_ext (λ i. fun_ext (λ j. ap (λ ys. shift_cell d (formula_in (content ys))) (sym (cell_behind (i * cols_in xs + j) xs))))

      go : (r c : ℕ) (b : Bool) → inside (sheet_in (shifted_memory d xs)) r c ≡ b
          → cond b (formula_in (content (cell_numbers (r * cols_after d (cols_in xs) + c) (shifted_memory d xs)))) None
          ≡ cond b (place_from None d (λ i j. shift_cell d (formula_in (content (cell_numbers (i * cols_in xs + j) xs)))) r c) None
      go r c true e =
          let l = inside_is (sheet_in (shifted_memory d xs)) r c e in
          ap (λ ys. formula_in (content ys)) (cell_behind (r * cols_after d (cols_in xs) + c) (shifted_memory d xs))
          ∙ cell_formula d (size_in xs) (drop header_len xs) s before_room r c l.0 l.1
          ∙ ap (λ f. place_from None d f r c) behind
      go r c false e = refl

  -- the memory is as long as it was
  pub memory_length : length (shifted_memory d xs) ≡ length xs
  memory_length = let e = cells_length d (size_in xs) (drop header_len xs) s before_room cells_room in let f = length-drop header_len xs in omega arith

  -- a sheet that was not refused is not refused afterwards
  pub stays_formed : is_ok (checked xs) ≡ true → checked (shifted_memory d xs) ≡ Ok (size_after d (size_in xs))
  stays_formed ok =
      let some = some_left d (size_in xs) s in
      let long = memory_length in
      let left = cells_of (size_after d (size_in xs)) in
      let more : left ≤ max (cells_of (size_in xs)) left = omega arith in
      is_checked (shifted_memory d xs)
      (record { some_rows = some.0; few_rows = s.rows_left; some_cols = some.1; few_cols = s.cols_left; room = omega (arith, long, mul-le-mul_left cell_len more) })
      (none_malformed (shifted_memory d xs) 0 left (λ k a b.
      ap (λ ys. is_malformed (content ys)) (cell_behind k (shifted_memory d xs))
      ∙ cell_formed d (size_in xs) (drop header_len xs) s before_room k (omega arith)
      (λ j l. ap (λ ys. is_malformed (content ys)) (sym (cell_behind j xs)) ∙ each_formed xs 0 (cells_of (size_in xs)) (checked_formed xs ok) j (omega arith) (omega arith))))

-- the two counts, written in front of the cells
pub counts_set : (xs cells : List ℕ) (h w : ℕ) → header_len ≤ length xs → set (set (put_mid header_len (length xs - header_len) xs cells) 0 h) 1 w ≡ h ∷ w ∷ cells
counts_set xs cells h w l = ap (λ ys. set (set ys 0 h) 1 w) (put_behind header_len xs cells l) ∙ go xs l
  where
    go : (ys : List ℕ) → header_len ≤ length ys → set (set (take header_len ys ++ cells) 0 h) 1 w ≡ h ∷ w ∷ cells
    go [] l = absurd (omega arith)
    go (x ∷ []) l = absurd (omega arith)
    go (x ∷ y ∷ ys) l = refl
