-- A memory of which one cell is overwritten: its other cells, and the sheet that lies in it. Assumes nothing.
use Rattle.std.proofs.Common.{◌≡◌, ℕ, ◌+◌, ◌*◌, ◌/◌, ◌%◌, ◌<◌, ◌≤◌, Bool, true, false, cond, ◌&&◌, eqb, ◌⊎◌, List, [], ◌++◌, length, get_or, take, drop, is_ok, Some, None, Ok, Option, sym, refl, ap, ◌∙◌, subst, inl, inr, arith, length-append, length-drop}
use lib.ListN.{length-replicate}
use Rattle.std.specs.Option.{option_map}
use Rattle.std.proofs.lemmas.Nat.{div-mul-add, mod-mul-add}
use Rattle.std.proofs.lemmas.List.{append-nil, length-take-le, get_or_append_left, get_or-take}
use Rattle.std.proofs.lemmas.Bool.{and_parts, and_from, eqb-true, eq-eqb, cases_eq, true≢false}
use Rattle.formula.specs.Layout.{cell_len}
use Rattle.formula.specs.Formula.{Formula}
use Rattle.formula.specs.Reading.{spelled}
use Rattle.formula.specs.Cells.{content, stored}
use Rattle.formula.proofs.Writing.{written_length, written_read}
use Rattle.formula.proofs.Contents.{tidy, stored_read}
use Rattle.recalc.specs.Layout.{header_len, rows_in, cols_in, sheet_len, cell_numbers, is_malformed, first_malformed, size_in, checked, Sized}
use Rattle.recalc.specs.Sheets.{inside, held, formula_in, sheet_in}
use Rattle.recalc.specs.Numbered.{count}
use Rattle.recalc.proofs.Entries.{part_there, part_other, entries_apart}
use Rattle.recalc.proofs.Malformed.{none_malformed, each_formed}
use Rattle.recalc.specs.SheetLaws.{inside_is, number_inside}
use Rattle.recalc.proofs.Numbered.{checked_sized, checked_formed, is_checked}
use denote.Ref.{Bor}
use Rattle.edit.specs.Writes.{Write, target, written, asked}
use Rattle.edit.specs.Memory.{cell_stored, with_cell, written_memory}
use Rattle.edit.proofs.Recalculated.{sheet_now}
use Rattle.formula.specs.Tokens.{the_ref}

-- a test and nothing more
and_true : (b : Bool) → (b && true) ≡ b
and_true true = refl
and_true false = refl

-- a cell that is read back as it is stored
pub record Storable (x : Option Formula) : Type 0 where
  pub long : length (cell_stored x) ≡ cell_len
  pub reads : formula_in (content (cell_stored x)) ≡ x
  pub formed : is_malformed (content (cell_stored x)) ≡ false

-- a formula of few enough tokens is
formula_storable : (ts : List ℕ) (f : Formula) → spelled ts ≡ Some f → Storable (Some f)
formula_storable ts f e =
    let few = (tidy ts f e).few in
    let read = ap content (sym (append-nil (stored f))) ∙ stored_read f few [] in
    record {
      long = simp (length-append, length-replicate) (let n = written_length f in omega arith);
      reads = ap formula_in read ∙ written_read f few;
      formed = ap is_malformed read;
    }

-- so is whatever may be asked for
pub asked_storable : (c : Option (Bor (List ℕ))) (x : Option Formula) → asked c ≡ Some x → Storable x
asked_storable None x e = let z : None ≡ x = cc in subst Storable z (record { long = refl; reads = refl; formed = refl })
asked_storable (Some ts) x e = go (spelled ts.now) refl e
  where
    go : (o : Option Formula) → spelled ts.now ≡ o → option_map Some o ≡ Some x → Storable x
    go None s e = absurd (let z : ◌≡◌ {A = ℕ} 0 1 = cc in omega arith)
    go (Some f) s e = let z : Some f ≡ x = cc in subst Storable z (formula_storable ts.now f s)

-- cell k of n is overwritten
module _ (xs cell : List ℕ) (k n : ℕ) (long : length cell ≡ cell_len) (room : sheet_len n ≤ length xs) (l : k < n) where
  -- what lies before the cell
  front_long : length (take (sheet_len k) xs) ≡ sheet_len k
  front_long = length-take-le (sheet_len k) xs (omega arith)

  -- the memory keeps its length
  pub length_kept : length (with_cell k cell xs) ≡ length xs
  length_kept = let f = front_long in simp (length-append, length-drop) (omega arith)

  -- the two counts stay
  pub count_kept : (i : ℕ) → i < header_len → get_or (with_cell k cell xs) i 0 ≡ get_or xs i 0
  count_kept i h =
      let f = front_long in
      get_or_append_left (take (sheet_len k) xs) (cell ++ drop (sheet_len k + cell_len) xs) 0 i (omega arith) ∙ get_or-take (sheet_len k) xs i 0 (omega arith)

  -- the cell is the new one
  pub cell_there : cell_numbers k (with_cell k cell xs) ≡ cell
  cell_there = part_there (sheet_len k) cell_len cell xs long (omega arith)

  -- the other cells stay
  pub cell_kept : (i : ℕ) → (i ≡ k → ⊥) → cell_numbers i (with_cell k cell xs) ≡ cell_numbers i xs
  cell_kept i ne = part_other (sheet_len k) cell_len cell xs long (omega arith) (sheet_len i) (entries_apart header_len cell_len i k ne)

module _ (w : Write) (xs : List ℕ) (ok : is_ok (checked xs) ≡ true) (within : inside (sheet_in xs) w.row w.col ≡ true) (x : Storable w.what) where
  -- the number of the cell, and the memory afterwards
  abbrev k : ℕ
  k = w.row * cols_in xs + w.col

  abbrev ys : List ℕ
  ys = written_memory w xs

  -- the cell is one of the sheet
  k_inside : k < count (sheet_in xs)
  k_inside = number_inside (sheet_in xs) (the_ref w.row w.col) within

  -- which lies in the memory as a whole
  room : sheet_len (count (sheet_in xs)) ≤ length xs
  room = (checked_sized xs ok).room

  -- the cells of the sheet afterwards
  abbrev pub cells_now : ℕ → ℕ → Option Formula
  cells_now r c = formula_in (content (cell_numbers (r * cols_in xs + c) ys))

  -- the counts stay
  rows_kept : rows_in ys ≡ rows_in xs
  rows_kept = count_kept xs (cell_stored w.what) k (count (sheet_in xs)) x.long room k_inside 0 (omega arith)

  cols_kept : cols_in ys ≡ cols_in xs
  cols_kept = count_kept xs (cell_stored w.what) k (count (sheet_in xs)) x.long room k_inside 1 (omega arith)

  -- the sheet afterwards has the size that it had
  pub sheet_is : sheet_in ys ≡ sheet_now w (sheet_in xs) cells_now
  sheet_is = λ i. record { rows = rows_kept i; cols = cols_kept i; cells = λ r c. formula_in (content (cell_numbers (r * cols_kept i + c) ys)) }

  -- and holds what the written sheet holds
  pub holds_written : (r c : ℕ) → held (sheet_now w (sheet_in xs) cells_now) r c ≡ held (written w (sheet_in xs)) r c
  holds_written r c = go (inside (sheet_in xs) r c) refl
    where
      there : (b : Bool) → target w r c ≡ b → r < rows_in xs → c < cols_in xs → cells_now r c ≡ cond b w.what ((sheet_in xs).cells r c)
      there true e u v =
          let t = and_parts (eqb r w.row) (eqb c w.col) e in
          ap (λ i. cells_now i c) (eqb-true r w.row t.0) ∙ ap (cells_now w.row) (eqb-true c w.col t.1)
          ∙ ap (λ zs. formula_in (content zs)) (cell_there xs (cell_stored w.what) k (count (sheet_in xs)) x.long room k_inside) ∙ x.reads
      there false e u v =
          let l = inside_is (sheet_in xs) w.row w.col within in
          ap (λ zs. formula_in (content zs)) (cell_kept xs (cell_stored w.what) k (count (sheet_in xs)) x.long room k_inside (r * cols_in xs + c) (λ z.
          let row = sym (div-mul-add r (cols_in xs) c v) ∙ ap (λ i. i / cols_in xs) z ∙ div-mul-add w.row (cols_in xs) w.col l.1 in
          let col = sym (mod-mul-add r (cols_in xs) c v) ∙ ap (λ i. i % cols_in xs) z ∙ mod-mul-add w.row (cols_in xs) w.col l.1 in
          true≢false (sym (and_from (eqb r w.row) (eqb c w.col) (eq-eqb r w.row row) (eq-eqb c w.col col)) ∙ e)))

      go : (b : Bool) → inside (sheet_in xs) r c ≡ b → cond b (cells_now r c) None ≡ cond b (cond (target w r c && b) w.what ((sheet_in xs).cells r c)) None
      go true e =
          let l = inside_is (sheet_in xs) r c e in
          there (target w r c) refl l.0 l.1 ∙ ap (λ b. cond b w.what ((sheet_in xs).cells r c)) (sym (and_true (target w r c)))
      go false e = refl

  -- it is not refused
  pub stays_formed : checked ys ≡ Ok (size_in xs)
  stays_formed =
      let s = checked_sized xs ok in
      let size : size_in ys ≡ size_in xs = λ i. record { rows = rows_kept i; cols = cols_kept i } in
      let cells : rows_in ys * cols_in ys ≡ count (sheet_in xs) = λ i. rows_kept i * cols_kept i in
      let long = length_kept xs (cell_stored w.what) k (count (sheet_in xs)) x.long room k_inside in
      let more = subst (λ m. sheet_len (count (sheet_in xs)) ≤ m) (sym long) room in
      let sized : Sized ys (size_in xs) = record { some_rows = s.some_rows; few_rows = s.few_rows; some_cols = s.some_cols; few_cols = s.few_cols; room = more } in
      is_checked ys (subst (Sized ys) (sym size) sized)
      (ap (λ m. first_malformed 0 m ys) cells ∙ none_malformed ys 0 (count (sheet_in xs)) (λ i a b. formed i (omega arith)))
      ∙ ap Ok size
    where
      formed : (i : ℕ) → i < count (sheet_in xs) → is_malformed (content (cell_numbers i ys)) ≡ false
      formed i h = go (cases_eq i k)
        where
          go : (i ≡ k) ⊎ (i ≡ k → ⊥) → is_malformed (content (cell_numbers i ys)) ≡ false
          go (inl e) =
              ap (λ j. is_malformed (content (cell_numbers j ys))) e
              ∙ ap (λ zs. is_malformed (content zs)) (cell_there xs (cell_stored w.what) k (count (sheet_in xs)) x.long room k_inside) ∙ x.formed
          go (inr ne) =
              ap (λ zs. is_malformed (content zs)) (cell_kept xs (cell_stored w.what) k (count (sheet_in xs)) x.long room k_inside i ne)
              ∙ each_formed xs 0 (count (sheet_in xs)) (checked_formed xs ok) i (omega arith) (omega arith)
