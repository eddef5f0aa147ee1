-- Where an entry of a shifted grid came from. Assumes nothing.
use Rattle.std.proofs.Common.{◌≡◌, ℕ, zero, suc, ◌+◌, ◌-◌, ◌*◌, ◌/◌, ◌%◌, ◌<◌, ◌≤◌, Bool, true, false, cond, eqb, ltb, ◌⊎◌, List, Some, None, sym, refl, ap, ◌∙◌, subst, inl, inr, mul-le-mul_left, arith}
use Rattle.std.proofs.lemmas.Bool.Decides.{nat_tests}
use Rattle.std.proofs.lemmas.Bool.{cases_lt, cases_order}
use Rattle.std.proofs.lemmas.Nat.{mul-le, mul-add-lt, div-add-mod', div_below, mod_below}
use Rattle.formula.specs.declared.token.CellRef.{CellRef}
use Rattle.formula.specs.Tokens.{the_ref}
use Rattle.evaluate.specs.Limits.{max_rows, max_columns, max_cells}
use Rattle.recalc.specs.declared.size.Size.{Size}
use Rattle.shift.specs.declared.shift.Axis.{Axis}
use Rattle.shift.specs.declared.shift.Axis.TheVariants.{Row, Column}
use Rattle.shift.specs.declared.shift.Change.{Change}
use Rattle.shift.specs.declared.shift.Change.TheVariants.{Insert, Delete}
use Rattle.shift.specs.declared.shift.Shift.{Shift}
use Rattle.shift.specs.Lines.{count_to, line_from}
use Rattle.shift.specs.Shifts.{the_shift, by_axis, place_from, rows_after, cols_after}
use Rattle.shift.specs.Entries.{size_after, cells_of, coming, LineThere, Shiftable, origin, first_entry, entry_or_zeros}

-- line n came to be line i
abbrev pub Came : Change → ℕ → ℕ → ℕ → Type 0
Came Insert p n i = ((i < p) × (n ≡ i)) ⊎ ((p < i) × (i ≡ suc n))
Came Delete p n i = ((i < p) × (n ≡ i)) ⊎ ((p ≤ i) × (n ≡ suc i))

-- what is in a line came from another, or the line is new
pub line_cases : {A : Type 0} (new : A) (h : Change) (p : ℕ) (f : ℕ → A) (i : ℕ)
    → ((n : ℕ) × (line_from new h p f i ≡ f n) × Came h p n i) ⊎ ((line_from new h p f i ≡ new) × (h ≡ Insert) × (i ≡ p))
line_cases new Insert p f i = go (cases_order i p)
  where
    go : (i ≡ p) ⊎ ((i < p) ⊎ (p < i)) → ((n : ℕ) × (line_from new Insert p f i ≡ f n) × Came Insert p n i) ⊎ ((line_from new Insert p f i ≡ new) × (Insert ≡ Insert) × (i ≡ p))
    go (inl e) = inr (grind (arith, nat_tests), refl, e)
    go (inr (inl l)) = inl (i, grind (arith, nat_tests), inl (l, refl))
    go (inr (inr l)) = inl (i - 1, grind (arith, nat_tests), inr (l, omega arith))
line_cases new Delete p f i = go (cases_lt i p)
  where
    go : (i < p) ⊎ (p ≤ i) → ((n : ℕ) × (line_from new Delete p f i ≡ f n) × Came Delete p n i) ⊎ ((line_from new Delete p f i ≡ new) × (Delete ≡ Insert) × (i ≡ p))
    go (inl l) = inl (i, grind (arith, nat_tests), inl (l, refl))
    go (inr l) = inl (i + 1, grind (arith, nat_tests), inr (l, omega arith))

-- it came from a line of the sheet: from no later one if a line was inserted, from no earlier one if one was deleted
abbrev pub Toward : Change → ℕ → ℕ → Type 0
Toward Insert n i = n ≤ i
Toward Delete n i = i ≤ n

came_within : (h : Change) (p m n i : ℕ) → LineThere h p m → i < count_to h m → Came h p n i → n < m
came_within Insert p m n i t l (inl c) = let e = c.1 in omega arith
came_within Insert p m n i t l (inr c) = let e = c.1 in omega arith
came_within Delete p m n i t l (inl c) = let e = c.1 in omega arith
came_within Delete p m n i t l (inr c) = let e = c.1 in omega arith

came_toward : (h : Change) (p n i : ℕ) → Came h p n i → Toward h n i
came_toward Insert p n i (inl c) = let e = c.1 in omega arith
came_toward Insert p n i (inr c) = let e = c.1 in omega arith
came_toward Delete p n i (inl c) = let e = c.1 in omega arith
came_toward Delete p n i (inr c) = let e = c.1 in omega arith

stays_toward : (h : Change) (n : ℕ) → Toward h n n
stays_toward Insert n = omega arith
stays_toward Delete n = omega arith

-- a place of the sheet from which what is at row r and column c came
pub record From (d : Shift) (size : Size) (r c i j : ℕ) : Type 0 where
  pub row_in : i < size.rows
  pub col_in : j < size.cols
  pub row_toward : Toward d.change i r
  pub col_toward : Toward d.change j c
  pub came : Came d.change d.line (by_axis d.axis i j) (by_axis d.axis r c)
  pub beside : by_axis d.axis j i ≡ by_axis d.axis c r

-- what is at a place came from a place of the sheet, or its line is new
pub place_cases : {A : Type 0} (new : A) (d : Shift) (size : Size) (f : ℕ → ℕ → A) (r c : ℕ) → Shiftable d size → r < rows_after d size.rows → c < cols_after d size.cols
    → ((i j : ℕ) × (place_from new d f r c ≡ f i j) × From d size r c i j) ⊎ ((place_from new d f r c ≡ new) × (d.change ≡ Insert) × (by_axis d.axis r c ≡ d.line))
place_cases {A} new d size f r c s u v = go d.axis d.change d.line s u v
  where
    go : (a : Axis) (h : Change) (p : ℕ) → Shiftable (the_shift a h p) size → r < rows_after (the_shift a h p) size.rows → c < cols_after (the_shift a h p) size.cols
        → ((i j : ℕ) × (place_from new (the_shift a h p) f r c ≡ f i j) × From (the_shift a h p) size r c i j)
        ⊎ ((place_from new (the_shift a h p) f r c ≡ new) × (h ≡ Insert) × (by_axis a r c ≡ p))
    go Row h p s u v =
        elim (line_cases new h p (λ n. f n c) r) [
          | inl (n, e, k) ↦ inl (
            n,
            c,
            e,
            record {
              row_in = came_within h p size.rows n r s.there u k;
              col_in = v;
              row_toward = came_toward h p n r k;
              col_toward = stays_toward h c;
              came = k;
              beside = refl;
            },
          )
          | inr w ↦ inr w
        ]
    go Column h p s u v =
        elim (line_cases new h p (λ n. f r n) c) [
          | inl (n, e, k) ↦ inl (
            r,
            n,
            e,
            record {
              row_in = u;
              col_in = came_within h p size.cols n c s.there v k;
              row_toward = stays_toward h r;
              col_toward = came_toward h p n c k;
              came = k;
              beside = refl;
            },
          )
          | inr w ↦ inr w
        ]

-- by rows and columns no number rises, or none falls, when neither does
toward_number : (h : Change) (i r j c w v : ℕ) → Toward h i r → Toward h j c → Toward h w v → Toward h (i * w + j) (r * v + c)
toward_number Insert i r j c w v a b e = omega (arith, mul-le i w r v a e)
toward_number Delete i r j c w v a b e = omega (arith, mul-le r v i w a e)

-- there is a column left, and columns come or go with the change
cols_toward : (d : Shift) (size : Size) → Shiftable d size → (0 < cols_after d size.cols) × Toward d.change size.cols (cols_after d size.cols)
cols_toward d size s = go d.axis d.change d.line s
  where
    go : (a : Axis) (h : Change) (p : ℕ) → Shiftable (the_shift a h p) size → (0 < cols_after (the_shift a h p) size.cols) × Toward h size.cols (cols_after (the_shift a h p) size.cols)
    go Row h p s = (let l = s.some_cols in omega arith, stays_toward h size.cols)
    go Column Insert p s = (omega arith, omega arith)
    go Column Delete p s = (let l = s.there.1 in omega arith, omega arith)

-- an entry of the sheet that comes to stand at number k; from the first of the line on none comes from before it
pub record Origin (d : Shift) (size : Size) (k j : ℕ) : Type 0 where
  pub is : origin d size k ≡ Some j
  pub inside : j < cells_of size
  pub toward : Toward d.change j k
  pub behind : first_entry d size ≤ k → first_entry d size ≤ j

-- a row before which p rows of w lie, and a column before which p lie
row_behind : (h : Change) (p w r c i : ℕ) → c < w → Came h p i r → p * w ≤ r * w + c → p * w ≤ i * w + c
row_behind h p w r c i l k b = go (cases_lt r p)
  where
    later : (h : Change) → p ≤ r → Came h p i r → p ≤ i
    later Insert u (inl k) = omega arith
    later Insert u (inr k) = let e = k.1 in omega arith
    later Delete u (inl k) = omega arith
    later Delete u (inr k) = let e = k.1 in omega arith

    go : (r < p) ⊎ (p ≤ r) → p * w ≤ i * w + c
    go (inl u) = absurd (omega (arith, mul-add-lt r w c p u l))
    go (inr u) = omega (arith, mul-le p w i w (later h u k) (omega arith))

column_behind : (h : Change) (p w v r c j : ℕ) → p ≤ w → Came h p j c → p ≤ r * v + c → p ≤ r * w + j
column_behind h p w v zero c j l k b = go h k
  where
    go : (h : Change) → Came h p j c → p ≤ 0 * w + j
    go Insert (inl k) = omega arith
    go Insert (inr k) = let e = k.1 in omega arith
    go Delete (inl k) = omega arith
    go Delete (inr k) = let e = k.1 in omega arith
column_behind h p w v (suc r) c j l k b = omega (arith, mul-le 1 w (suc r) w (omega arith) (omega arith))

line_within : (h : Change) (p n : ℕ) → LineThere h p n → p ≤ n
line_within Insert p n t = t
line_within Delete p n t = let l = t.0 in omega arith

-- no entry from the line on came from before it
from_behind : (d : Shift) (size : Size) (r c i j : ℕ) → Shiftable d size → From d size r c i j → c < cols_after d size.cols
    → first_entry d size ≤ r * cols_after d size.cols + c → first_entry d size ≤ i * size.cols + j
from_behind d size r c i j s m l b = go d.axis d.change d.line s m l b
  where
    go : (a : Axis) (h : Change) (p : ℕ) → Shiftable (the_shift a h p) size → From (the_shift a h p) size r c i j → c < cols_after (the_shift a h p) size.cols
        → first_entry (the_shift a h p) size ≤ r * cols_after (the_shift a h p) size.cols + c → first_entry (the_shift a h p) size ≤ i * size.cols + j
    go Row h p s m l b = let e = m.beside in let q = row_behind h p size.cols r c i l m.came b in omega arith
    go Column h p s m l b =
        let e : i ≡ r = m.beside in
        let q = column_behind h p size.cols (cols_after (the_shift Column h p) size.cols) r c j (line_within h p size.cols s.there) m.came b in
        rw e q

pub origins : (d : Shift) (size : Size) (k : ℕ) → Shiftable d size → k < cells_of (size_after d size)
    → ((j : ℕ) × Origin d size k j) ⊎ ((origin d size k ≡ None) × (d.change ≡ Insert))
origins d size k s l = go (place_cases None d size (λ i j. Some (i * size.cols + j)) (k / w) (k % w) s (div_below k w (rows_after d size.rows) t.0 l) (mod_below k w t.0))
  where
    w : ℕ
    w = cols_after d size.cols

    t : (0 < w) × Toward d.change size.cols w
    t = cols_toward d size s

    go : ((i j : ℕ) × (origin d size k ≡ Some (i * size.cols + j)) × From d size (k / w) (k % w) i j) ⊎ ((origin d size k ≡ None) × (d.change ≡ Insert) × (by_axis d.axis (k / w) (k % w) ≡ d.line))
        → ((j : ℕ) × Origin d size k j) ⊎ ((origin d size k ≡ None) × (d.change ≡ Insert))
    go (inl (i, j, e, m)) = inl (
      i * size.cols + j,
      record {
        is = e;
        inside = omega (arith, mul-add-lt i size.cols j size.rows m.row_in m.col_in);
        toward = rw (sym (div-add-mod' k w)) (toward_number d.change i (k / w) j (k % w) size.cols w m.row_toward m.col_toward t.1);
        behind = λ b. from_behind d size (k / w) (k % w) i j s m (mod_below k w t.0) (rw (div-add-mod' k w) b);
      },
    )
    go (inr (e, i, z)) = inr (e, i)

-- what stands before the line of a shift stays where it is
before_line : {A : Type 0} (new : A) (h : Change) (p : ℕ) (f : ℕ → A) (i : ℕ) → i < p → line_from new h p f i ≡ f i
before_line new Insert p f i l = grind (arith, nat_tests)
before_line new Delete p f i l = grind (arith, nat_tests)

-- a number below v, by rows of v, is in the first row
in_first_row : (v k r c : ℕ) → r * v + c ≡ k → k < v → r ≡ 0
in_first_row v k zero c e l = refl
in_first_row v k (suc r) c e l = absurd (omega (arith, mul-le 1 v (suc r) v (omega arith) (omega arith)))

line_left : (h : Change) (p n : ℕ) → LineThere h p n → p ≤ count_to h n
line_left Insert p n t = omega arith
line_left Delete p n t = let l = t.0 in omega arith

pub kept_before : (d : Shift) (size : Size) (k : ℕ) → Shiftable d size → k < first_entry d size → origin d size k ≡ Some k
kept_before d size k s l = go d.axis d.change d.line s l
  where
    go : (a : Axis) (h : Change) (p : ℕ) → Shiftable (the_shift a h p) size → k < first_entry (the_shift a h p) size → origin (the_shift a h p) size k ≡ Some k
    go Row h p s l =
        let some : 0 < size.cols = let z = s.some_cols in omega arith in
        before_line None h p (λ n. Some (n * size.cols + k % size.cols)) (k / size.cols) (div_below k size.cols p some l)
        ∙ ap Some (div-add-mod' k size.cols)
    go Column h p s l =
        let w = count_to h size.cols in
        let left = line_left h p size.cols s.there in
        let r : k / w ≡ 0 = in_first_row w k (k / w) (k % w) (div-add-mod' k w) (omega arith) in
        let c : k % w ≡ k = let e = div-add-mod' k w in let z : k / w * w ≡ 0 = rw r (zero_times w) in omega arith in
        before_line None h p (λ n. Some (k / w * size.cols + n)) (k % w) (let q = c in omega arith)
        ∙ ap Some (let z : k / w * size.cols ≡ 0 = rw r (zero_times size.cols) in omega arith)
      where
        zero_times : (n : ℕ) → 0 * n ≡ 0
        zero_times n = omega arith

-- what came with a function done to it
line_each : {A B : Type 0} (g : A → B) (new : A) (h : Change) (p : ℕ) (f : ℕ → A) (i : ℕ) → g (line_from new h p f i) ≡ line_from (g new) h p (λ n. g (f n)) i
line_each g new Insert p f i = two (ltb i p) (eqb i p)
  where
    two : (b e : Bool) → g (cond b (f i) (cond e new (f (i - 1)))) ≡ cond b (g (f i)) (cond e (g new) (g (f (i - 1))))
    two true e = refl
    two false true = refl
    two false false = refl
line_each g new Delete p f i = one (ltb i p)
  where
    one : (b : Bool) → g (cond b (f i) (f (i + 1))) ≡ cond b (g (f i)) (g (f (i + 1)))
    one true = refl
    one false = refl

pub place_each : {A B : Type 0} (g : A → B) (new : A) (d : Shift) (f : ℕ → ℕ → A) (r c : ℕ) → g (place_from new d f r c) ≡ place_from (g new) d (λ i j. g (f i j)) r c
place_each g new d f r c = go d.axis
  where
    go : (a : Axis) → g (place_from new (the_shift a d.change d.line) f r c) ≡ place_from (g new) (the_shift a d.change d.line) (λ i j. g (f i j)) r c
    go Row = line_each g new d.change d.line (λ n. f n c) r
    go Column = line_each g new d.change d.line (λ n. f r n) c

-- what comes to stand at a number is the entry that came there
pub coming_is : (len : ℕ) (d : Shift) (size : Size) (xs : List ℕ) (k : ℕ) → coming len d size xs k ≡ entry_or_zeros len (origin d size k) xs
coming_is len d size xs k =
    sym (place_each (λ o. entry_or_zeros len o xs) None d (λ i j. Some (i * size.cols + j)) (k / cols_after d size.cols) (k % cols_after d size.cols))

-- a number is that of a place
pub place_within : (d : Shift) (size : Size) (k : ℕ) → Shiftable d size → k < cells_of (size_after d size)
    → (k / cols_after d size.cols < rows_after d size.rows) × (k % cols_after d size.cols < cols_after d size.cols)
place_within d size k s l =
    let some = (cols_toward d size s).0 in (div_below k (cols_after d size.cols) (rows_after d size.rows) some l, mod_below k (cols_after d size.cols) some)

-- the place from which a cell came is one of the sheet
before_within : (d : Shift) (size : Size) (r c : ℕ) (q : CellRef) → Shiftable d size → r < rows_after d size.rows → c < cols_after d size.cols
    → Some q ≡ place_from None d (λ i j. Some (the_ref i j)) r c → (q.row < size.rows) × (q.col < size.cols)
before_within d size r c q s u v e = go (place_cases None d size (λ i j. Some (the_ref i j)) r c s u v)
  where
    go : ((i j : ℕ) × (place_from None d (λ i j. Some (the_ref i j)) r c ≡ Some (the_ref i j)) × From d size r c i j)
        ⊎ ((place_from None d (λ i j. Some (the_ref i j)) r c ≡ None) × (d.change ≡ Insert) × (by_axis d.axis r c ≡ d.line)) → (q.row < size.rows) × (q.col < size.cols)
    go (inl (i, j, h, m)) = let z : q ≡ the_ref i j = cc in (rw z m.row_in, rw z m.col_in)
    go (inr (h, i, w)) = absurd (let z : ◌≡◌ {A = ℕ} 0 1 = cc in omega arith)

-- so its number is small
pub before_number : (d : Shift) (size : Size) (k w : ℕ) (q : CellRef) → Shiftable d size → k < cells_of (size_after d size) → w ≡ cols_after d size.cols
    → Some q ≡ place_from None d (λ i j. Some (the_ref i j)) (k / w) (k % w) → q.row * size.cols + q.col < max_cells
before_number d size k w q s l e h =
    let t = place_within d size k s l in
    let b = before_within d size (k / cols_after d size.cols) (k % cols_after d size.cols) q s t.0 t.1 (h ∙ ap (λ v. place_from None d (λ i j. Some (the_ref i j)) (k / v) (k % v)) e) in
    omega (arith, mul-add-lt q.row size.cols q.col size.rows b.0 b.1, mul-le size.rows size.cols max_rows max_columns s.few_rows s.few_cols)

-- the line begins within the entries that are left
pub first_left : (d : Shift) (size : Size) → Shiftable d size → first_entry d size ≤ cells_of (size_after d size)
first_left d size s = go d.axis d.change d.line s
  where
    go : (a : Axis) (h : Change) (p : ℕ) → Shiftable (the_shift a h p) size → first_entry (the_shift a h p) size ≤ cells_of (size_after (the_shift a h p) size)
    go Row h p s = mul-le p size.cols (count_to h size.rows) size.cols (line_left h p size.rows s.there) (omega arith)
    go Column h p s =
        let l = line_left h p size.cols s.there in
        let m = mul-le 1 (count_to h size.cols) size.rows (count_to h size.cols) s.some_rows (omega arith) in
        omega arith

pub few_cells : (d : Shift) (size : Size) → Shiftable d size → (cells_of size ≤ max_cells) × (cells_of (size_after d size) ≤ max_cells)
few_cells d size s =
    (mul-le size.rows size.cols max_rows max_columns s.few_rows s.few_cols, mul-le (rows_after d size.rows) (cols_after d size.cols) max_rows max_columns s.rows_left s.cols_left)

-- where there are fewer cells than before, or no more
pub cells_toward : (d : Shift) (size : Size) → Shiftable d size → Toward d.change (cells_of size) (cells_of (size_after d size))
cells_toward d size s = go d.axis d.change
  where
    go : (a : Axis) (h : Change) → Toward h (cells_of size) (cells_of (size_after (the_shift a h d.line) size))
    go Row Insert = mul-le size.rows size.cols (size.rows + 1) size.cols (omega arith) (omega arith)
    go Row Delete = mul-le (size.rows - 1) size.cols size.rows size.cols (omega arith) (omega arith)
    go Column Insert = mul-le size.rows size.cols size.rows (size.cols + 1) (omega arith) (omega arith)
    go Column Delete = mul-le size.rows (size.cols - 1) size.rows size.cols (omega arith) (omega arith)

-- where a line was inserted there is room for all that was there
pub room_inserted : (d : Shift) (size : Size) (len n : ℕ) → Shiftable d size → d.change ≡ Insert → len * (cells_of (size_after d size) - first_entry d size) ≤ n
    → len * (cells_of size - first_entry d size) ≤ n
room_inserted d size len n s e room =
    let t : cells_of size ≤ cells_of (size_after d size) = subst (λ h. Toward h (cells_of size) (cells_of (size_after d size))) e (cells_toward d size s) in
    let l : cells_of size - first_entry d size ≤ cells_of (size_after d size) - first_entry d size = omega arith in
    omega (arith, mul-le-mul_left len l)

-- where a line was deleted there is no more left than was there
pub left_deleted : (d : Shift) (size : Size) → Shiftable d size → d.change ≡ Delete → cells_of (size_after d size) ≤ cells_of size
left_deleted d size s e = subst (λ h. Toward h (cells_of size) (cells_of (size_after d size))) e (cells_toward d size s)
