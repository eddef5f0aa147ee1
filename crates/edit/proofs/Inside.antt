-- A write that is not refused: its numbers, and what is known after each step of it. Assumes nothing.
use Rattle.std.proofs.Common.{◌≡◌, ℕ, ◌+◌, ◌*◌, ◌<◌, ◌≤◌, Bool, true, false, cond, ◌&&◌, eqb, List, ◌++◌, length, drop, is_some, is_ok, Some, None, Ok, Err, Option, Result, sym, refl, ap, ◌∙◌, subst, arith, length-append}
use Rattle.std.proofs.lemmas.Bool.{eqb-true, eq-eqb}
use Rattle.formula.specs.Layout.{cell_len}
use Rattle.formula.specs.Formula.{Formula}
use Rattle.formula.specs.Tokens.{the_ref}
use Rattle.formula.specs.declared.token.CellRef.{CellRef}
use Rattle.evaluate.specs.Limits.{max_cells}
use Rattle.recalc.specs.declared.refusal.Refusal.TheVariants.{Outside}
use Rattle.recalc.specs.declared.formulas.Progress.{Progress}
use Rattle.recalc.specs.Layout.{cols_in, sheet_len, size_in, checked}
use Rattle.recalc.specs.Sheets.{Sheet, inside, held, Same, sheet_in}
use Rattle.recalc.specs.Numbered.{count, nth_cell, sheet_language}
use Rattle.recalc.specs.declared.mark.Mark.{Mark}
use Rattle.recalc.specs.Marks.{flag}
use Rattle.recalc.specs.Before.{row_shows}
use Rattle.recalc.specs.Change.{change, Updated}
use Rattle.recalc.specs.Showing.{nth_shown, values_from, sheet_values, ShownIn, table_shows}
use Rattle.recalc.proofs.Rows.{values_length, same_values}
use Rattle.recalc.specs.SheetLaws.{number_inside}
use Rattle.recalc.proofs.Numbered.{checked_sized, few_cells, nth_is}
use Rattle.edit.specs.declared.write.Write as code
use Rattle.edit.specs.Writes.{Write, written, asked, put_inside, allowed}
use Rattle.edit.specs.Places.{places_from}
use Rattle.edit.specs.Values.{table_differs, formula_marked}
use Rattle.edit.specs.Memory.{cell_stored, with_cell, written_memory, Wrote}
use Rattle.edit.proofs.Rows.{value_there, row_shown}
use Rattle.edit.proofs.Recalculated.{Noted, sheet_now, same, changed_told, marked_worked, values_shown}
use Rattle.edit.proofs.Cells.{Storable, asked_storable, cells_now, sheet_is, holds_written, stays_formed}

-- the write that the code asks for, where it is not refused
pub record Allowed (w : code.Write) (s : Sheet) (v : Write) : Type 0 where
  pub row : v.row ≡ w.place.row
  pub col : v.col ≡ w.place.col
  pub within : inside s v.row v.col ≡ true
  pub what : asked w.formula ≡ Some v.what

-- its place is inside, and its tokens are a formula
pub allowed_is : (w : code.Write) (s : Sheet) (v : Write) → allowed w s ≡ Ok v → Allowed w s v
allowed_is w s v e = go (asked w.formula) refl e
  where
    there : (x : Option Formula) (b : Bool) → asked w.formula ≡ Some x → inside s w.place.row w.place.col ≡ b
        → cond b (Ok (record { row = w.place.row; col = w.place.col; what = x })) (Err Outside) ≡ Ok v → Allowed w s v
    there x true d i e =
        let z : record { row = w.place.row; col = w.place.col; what = x } ≡ v = cc in
        subst (Allowed w s) z (record { row = refl; col = refl; within = i; what = d })
    there x false d i e = absurd (let z : ◌≡◌ {A = ℕ} 0 1 = cc in omega arith)

    go : (o : Option (Option Formula)) → asked w.formula ≡ o → put_inside s w.place.row w.place.col o ≡ Ok v → Allowed w s v
    go None d e = absurd (let z : ◌≡◌ {A = ℕ} 0 1 = cc in omega arith)
    go (Some x) d e = there x (inside s w.place.row w.place.col) d refl e

-- a result that is no error
pub ok_is : {A E : Type 0} (r : Result A E) → is_ok r ≡ true → (v : A) × (r ≡ Ok v)
ok_is (Ok v) e = (v, refl)
ok_is (Err x) e = absurd (grind arith)

-- what is allowed is on the sheet
pub place_inside : (w : code.Write) (s : Sheet) → is_ok (allowed w s) ≡ true → inside s w.place.row w.place.col ≡ true
place_inside w s al =
    let v = ok_is (allowed w s) al in
    let a = allowed_is w s v.0 v.1 in
    subst (λ r. inside s r w.place.col ≡ true) a.row (subst (λ c. inside s v.0.row c ≡ true) a.col a.within)

-- cell number k is to be written
module _ (w : code.Write) (xs vs : List ℕ) (k : ℕ) (ok : is_ok (checked xs) ≡ true) (e : k ≡ w.place.row * cols_in xs + w.place.col) where
  -- how many cells there are
  abbrev cell_count : ℕ
  cell_count = count (sheet_in xs)

  -- k is the number of the written place
  number_is : (v : Write) → Allowed w (sheet_in xs) v → k ≡ v.row * cols_in xs + v.col
  number_is v a = e ∙ ap (λ r. r * cols_in xs + w.place.col) (sym a.row) ∙ ap (λ c. v.row * cols_in xs + c) (sym a.col)

  -- there are few cells
  pub few : cell_count ≤ max_cells
  few = few_cells xs (size_in xs) (checked_sized xs ok)

  -- the row has room for their values
  pub values_room : ShownIn (sheet_in xs) vs → 2 * cell_count ≤ length vs
  values_room shown =
      let l = values_length (nth_shown (sheet_in xs)) 0 (count (sheet_in xs)) in
      let m = ap length shown ∙ length-append (sheet_values (sheet_in xs)) (drop (2 * count (sheet_in xs)) vs) in
      omega arith

  -- the cell is one of them
  pub number_small : is_ok (allowed w (sheet_in xs)) ≡ true → k < cell_count
  number_small al =
      let v = ok_is (allowed w (sheet_in xs)) al in
      let a = allowed_is w (sheet_in xs) v.0 v.1 in
      let l = number_inside (sheet_in xs) (the_ref v.0.row v.0.col) a.within in
      let n = number_is v.0 a in
      omega arith

  -- and lies in the memory as a whole
  pub cell_room : is_ok (allowed w (sheet_in xs)) ≡ true → sheet_len k + cell_len ≤ length xs
  cell_room al = let l = number_small al in let r = (checked_sized xs ok).room in omega arith

  -- after the cell is overwritten
  module _ (v : Write) (a : Allowed w (sheet_in xs) v) (ys : List ℕ)
      (put : (x : Option Formula) → asked w.formula ≡ Some x → ys ≡ with_cell k (cell_stored x) xs) where
    -- the memory is the written one
    memory_is : ys ≡ written_memory v xs
    memory_is = put v.what a.what ∙ ap (λ i. with_cell i (cell_stored v.what) xs) (number_is v a)

    -- what was asked for is read back
    storable : Storable v.what
    storable = asked_storable w.formula v.what a.what

    -- the sheet is not refused
    formed_now : checked ys ≡ Ok (size_in xs)
    formed_now = ap checked memory_is ∙ stays_formed v xs ok a.within storable

    -- the sheet afterwards, in the size that it had
    abbrev cells : ℕ → ℕ → Option Formula
    cells = cells_now v xs ok a.within storable

    abbrev now : Sheet
    now = sheet_now v (sheet_in xs) cells

    -- it holds what the written sheet holds
    holds : (r c : ℕ) → held now r c ≡ held (written v (sheet_in xs)) r c
    holds = holds_written v xs ok a.within storable

    -- and is the one in the memory
    sheet_now_is : sheet_in ys ≡ now
    sheet_now_is = ap sheet_in memory_is ∙ sheet_is v xs ok a.within storable

    -- it is not refused
    pub still_ok : is_ok (checked ys) ≡ true
    still_ok = ap is_ok formed_now

    -- and has as many cells and columns as before
    pub count_now : cell_count ≡ count (sheet_in ys)
    count_now = sym (ap count sheet_now_is)

    pub cols_now : cols_in ys ≡ cols_in xs
    cols_now = ap (λ (x : Sheet). x.cols) sheet_now_is

    -- where the row has what the cells showed
    module _ (shown : ShownIn (sheet_in xs) vs) where
      -- so it is read
      was : (i : ℕ) → i < cell_count → row_shows vs i ≡ nth_shown (sheet_in xs) i
      was = value_there (nth_shown (sheet_in xs)) cell_count vs _ shown

      pub values_read : vs ≡ values_from (row_shows vs) 0 cell_count ++ drop (2 * cell_count) vs
      values_read =
          shown
          ∙ ap (λ zs. zs ++ drop (2 * cell_count) vs)
          (same_values (nth_shown (sheet_in xs)) (row_shows vs) 0 cell_count (λ i l u. sym (was i (omega arith))))

      -- the engine is told that, and that cell k was written
      abbrev hit : ℕ → Bool
      hit i = eqb i k

      noted : Noted v (sheet_in xs) (row_shows vs) hit
      noted =
          record {
            was = was;
            at_most = λ i h. eqb-true i k h ∙ number_is v a;
            at_least = eq-eqb (v.row * cols_in xs + v.col) k (sym (number_is v a));
            within = a.within;
          }

      -- after the update
      module _ (t : List Progress) (d : List Mark) (up : Updated (change (sheet_language (sheet_in ys)) (row_shows vs) hit) t d) where
        updated : Updated (change (sheet_language now) (row_shows vs) hit) t d
        updated = subst (λ x. Updated (change (sheet_language x) (row_shows vs) hit) t d) sheet_now_is up

        marked : (i : ℕ) → i < cell_count → formula_marked ys d i ≡ (flag d i && is_some (nth_cell now i))
        marked i l = ap (λ o. flag d i && is_some o) (sym (nth_is ys i (subst (λ x. i < count x) (sym sheet_now_is) l)) ∙ ap (λ x. nth_cell x i) sheet_now_is)

        pub wrote : (us : List ℕ) (cs rs cs₀ rs₀ : List CellRef) → us ≡ values_from (table_shows t) 0 cell_count ++ drop (2 * cell_count) vs
            → cs ≡ places_from (cols_in ys) (table_differs t (row_shows vs)) 0 cell_count → rs ≡ places_from (cols_in ys) (formula_marked ys d) 0 cell_count
            → Wrote v (record { nums = xs; values = vs; changed = cs₀; recalculated = rs₀ }) (record { nums = ys; values = us; changed = cs; recalculated = rs })
        wrote us cs rs cs₀ rs₀ values changed recalculated =
            let s = sheet_in xs in
            let told = changed_told v s cells holds (row_shows vs) hit noted t d updated in
            let worked = marked_worked v s cells holds (row_shows vs) hit noted t d updated (formula_marked ys d) marked in
            let now_shown : values_from (table_shows t) 0 (count s) ≡ sheet_values (sheet_in ys) =
            values_shown v s cells holds (row_shows vs) hit noted t d updated ∙ ap sheet_values (sym sheet_now_is) in
            let row : us ≡ sheet_values (sheet_in ys) ++ drop (2 * count s) vs =
            values ∙ ap (λ zs. zs ++ drop (2 * count s) vs) now_shown in
            record {
              memory = memory_is;
              sheet = subst (λ x. Same x (written v s)) (sym sheet_now_is) (same v s cells holds);
              formed = formed_now;
              values = row;
              shown = row_shown (sheet_in ys) vs us (row ∙ ap (λ x. sheet_values (sheet_in ys) ++ drop (2 * count x) vs) (sym sheet_now_is));
              changed = changed ∙ ap (λ w. places_from w (table_differs t (row_shows vs)) 0 cell_count) cols_now ∙ told;
              recalculated = recalculated ∙ ap (λ w. places_from w (formula_marked ys d) 0 cell_count) cols_now ∙ worked;
            }
