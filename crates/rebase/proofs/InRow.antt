-- A row of carried writes, write by write. Assumes nothing.
use Rattle.std.proofs.Common.{◌≡◌, ℕ, suc, ◌+◌, ◌<◌, ◌≤◌, Bool, true, false, cond, ◌&&◌, ltb, List, [], ◌∷◌, ◌++◌, length, get_or, drop, Some, None, Ok, Err, Option, Result, refl, sym, ap, ◌∙◌, subst, drop-cons, append_assoc, arith}
use Rattle.std.proofs.lemmas.List.{drop_all}
use Rattle.std.proofs.lemmas.Bool.Decides.{nat_tests}
use Rattle.std.specs.Option.{option_map}
use Rattle.formula.specs.Results.{and_then}
use Rattle.formula.specs.Formula.{Formula}
use Rattle.formula.specs.Tokens.{the_ref}
use Rattle.recalc.specs.declared.refusal.Refusal.{Refusal}
use Rattle.recalc.specs.declared.refusal.Refusal.TheVariants.{Outside}
use Rattle.recalc.specs.Sheets.{Sheet, sheet_in, inside, Same}
use Rattle.shift.specs.declared.shift.Axis.{Axis}
use Rattle.shift.specs.declared.shift.Axis.TheVariants.{Row, Column}
use Rattle.shift.specs.declared.shift.Change.{Change}
use Rattle.shift.specs.declared.shift.Change.TheVariants.{Insert, Delete}
use Rattle.shift.specs.declared.shift.Shift.{Shift}
use Rattle.shift.specs.Lines.{line_lost, line_to, count_to}
use Rattle.shift.specs.Shifts.{the_shift, by_axis, unless, place_lost, row_to, col_to, rows_after, cols_after}
use Rattle.shift.specs.Sheets.{shift_cell}
use Rattle.shift.proofs.Held.{Takes, lines}
use Rattle.edit.specs.declared.write.Write as code
use Rattle.edit.specs.Writes.{Write, written, asked, put_inside}
use Rattle.edit.specs.Memory.{State}
use Rattle.rebase.specs.declared.rebased.Rebased.{Rebased}
use Rattle.rebase.specs.Carried.{all_written, write_to, with_any, carried, accept, accepted}
use Rattle.rebase.specs.Rebased.{moved_write, rebased, sheet_then, Rebases, state_rebased, answers_rebased}
use Rattle.rebase.proofs.Carrying.{written_same}

-- sheets of one size refuse and take the same writes
rebased_alike : (d : Shift) (w : code.Write) (s t : Sheet) → s.rows ≡ t.rows → s.cols ≡ t.cols → rebased d w s ≡ rebased d w t
rebased_alike d w s t p q = ap (λ o. cond (place_lost d w.place.row w.place.col) (Ok None) (and_then o (λ v. Ok (Some v)))) (go (option_map (shift_cell d) (asked w.formula)))
  where
    r : ℕ
    r = row_to d w.place.row

    c : ℕ
    c = col_to d w.place.col

    go : (o : Option (Option Formula)) → put_inside s r c o ≡ put_inside t r c o
    go None = refl
    go (Some x) = λ i. cond (ltb r (p i) && ltb c (q i)) (Ok (record { row = r; col = c; what = x })) (Err Outside)

-- the same write into sheets that hold the same
then_same : (o : Result (Option Write) Refusal) (s t : Sheet) → Same s t → Same (sheet_then o s) (sheet_then o t)
then_same (Ok None) s t e = e
then_same (Ok (Some v)) s t e = written_same v s t e
then_same (Err x) s t e = e

-- a row of carried writes, sheet by sheet
unfoldable pub sheet_rebased : Shift → List code.Write → Sheet → Sheet
sheet_rebased d [] t = t
sheet_rebased d (w ∷ ws) t = sheet_rebased d ws (sheet_then (rebased d w t) t)

-- on sheets that hold the same it comes to the same
pub row_same : (d : Shift) (ws : List code.Write) (s t : Sheet) → Same s t → Same (sheet_rebased d ws s) (sheet_rebased d ws t)
unfolding sheet_rebased
row_same d [] s t e = e
row_same d (w ∷ ws) s t e =
    row_same d ws (sheet_then (rebased d w s) s) (sheet_then (rebased d w t) t)
    (subst (λ o. Same (sheet_then (rebased d w s) s) (sheet_then o t)) (rebased_alike d w s t e.rows e.cols) (then_same (rebased d w s) s t e))

-- one write more: what is left comes to what it came to
module _ (d : Shift) (ws : List code.Write) (i : ℕ) (z : code.Write) (l : i < length ws) (a b : State) (r : Result Rebased Refusal) (h : Rebases d (get_or ws i z) a r b) where
  left : drop i ws ≡ get_or ws i z ∷ drop (i + 1) ws
  left = let e : suc i ≡ i + 1 = omega arith in drop-cons ws i z l ∙ ap (λ n. get_or ws i z ∷ drop n ws) e

  pub state_more : state_rebased d (drop (i + 1) ws) b ≡ state_rebased d (drop i ws) a
  unfolding state_rebased
  state_more = ap (state_rebased d (drop (i + 1) ws)) h.state ∙ sym (ap (λ xs. state_rebased d xs a) left)

  pub answers_more : (before : List (Result Rebased Refusal)) → (before ++ r ∷ []) ++ answers_rebased d (drop (i + 1) ws) b ≡ before ++ answers_rebased d (drop i ws) a
  unfolding answers_rebased
  answers_more before =
      append_assoc before (r ∷ []) (answers_rebased d (drop (i + 1) ws) b)
      ∙ (λ j. before ++ h.answer j ∷ answers_rebased d (drop (i + 1) ws) (h.state j))
      ∙ sym (ap (λ xs. before ++ answers_rebased d xs a) left)

  pub sheet_more : Same (sheet_rebased d (drop (i + 1) ws) (sheet_in b.nums)) (sheet_rebased d (drop i ws) (sheet_in a.nums))
  unfolding sheet_rebased
  sheet_more =
      subst (λ xs. Same (sheet_rebased d (drop (i + 1) ws) (sheet_in b.nums)) (sheet_rebased d xs (sheet_in a.nums))) (sym left)
      (row_same d (drop (i + 1) ws) (sheet_in b.nums) (sheet_then (rebased d (get_or ws i z) (sheet_in a.nums)) (sheet_in a.nums)) h.sheet)

-- where nothing is left
module _ (d : Shift) (ws : List code.Write) (i : ℕ) (l : length ws ≤ i) where
  pub state_done : (b : State) → state_rebased d (drop i ws) b ≡ b
  unfolding state_rebased
  state_done b = ap (λ xs. state_rebased d xs b) (drop_all i ws l)

  pub answers_done : (before : List (Result Rebased Refusal)) (b : State) → before ++ answers_rebased d (drop i ws) b ≡ before ++ []
  unfolding answers_rebased
  answers_done before b = ap (λ xs. before ++ answers_rebased d xs b) (drop_all i ws l)

  pub sheet_done : (s : Sheet) → sheet_rebased d (drop i ws) s ≡ s
  unfolding sheet_rebased
  sheet_done s = ap (λ xs. sheet_rebased d xs s) (drop_all i ws l)

-- a line that is not lost is one of the lines exactly if it was
line_inside : (h : Change) (p v n : ℕ) → Takes h p n → line_lost h p v ≡ false → ltb (line_to h p v) (count_to h n) ≡ ltb v n
line_inside Insert p v n t e = grind (arith, nat_tests)
line_inside Delete p v n t e = grind (arith, nat_tests)

-- so is a place
pub moved_inside : (d : Shift) (s t : Sheet) → Takes d.change d.line (lines d.axis s) → t.rows ≡ rows_after d s.rows → t.cols ≡ cols_after d s.cols
    → (r c : ℕ) → place_lost d r c ≡ false → inside t (row_to d r) (col_to d c) ≡ inside s r c
moved_inside d s t k p q r c e =
    (λ i. ltb (row_to d r) (p i) && ltb (col_to d c) (q i)) ∙ go d.axis k e
  where
    go : (a : Axis) → Takes d.change d.line (lines a s) → line_lost d.change d.line (by_axis a r c) ≡ false
        → (ltb (row_to (the_shift a d.change d.line) r) (rows_after (the_shift a d.change d.line) s.rows) && ltb (col_to (the_shift a d.change d.line) c) (cols_after (the_shift a d.change d.line) s.cols))
        ≡ (ltb r s.rows && ltb c s.cols)
    go Row k e = ap (λ b. b && ltb c s.cols) (line_inside d.change d.line r s.rows k e)
    go Column k e = ap (λ b. ltb r s.rows && b) (line_inside d.change d.line c s.cols k e)

-- the row comes to the carried writes that were not refused before the shift
module _ (d : Shift) (s : Sheet) (k : Takes d.change d.line (lines d.axis s)) where
  pub row_is : (ws : List code.Write) (t : Sheet) → t.rows ≡ rows_after d s.rows → t.cols ≡ cols_after d s.cols → sheet_rebased d ws t ≡ all_written (carried d (accepted ws s)) t
  unfolding sheet_rebased all_written carried accepted
  row_is [] t p q = refl
  row_is (w ∷ ws) t p q = go (λ v. row_is ws (written v t) p q) (row_is ws t p q) (place_lost d r c) (asked w.formula) refl
    where
      r : ℕ
      r = w.place.row

      c : ℕ
      c = w.place.col

      rest : List Write
      rest = accepted ws s

      asks : Option Formula → Write
      asks x = record { row = r; col = c; what = x }

      -- in a line that was deleted nothing is carried
      lost : (x : Option Formula) (b : Bool) → place_lost d r c ≡ true → all_written (carried d rest) t ≡ all_written (carried d (accept (cond b (Ok (asks x)) (Err Outside)) rest)) t
      lost x true e = sym (ap (λ l. all_written (with_any (unless l (write_to d (asks x))) (carried d rest)) t) e)
      lost x false e = refl

      -- elsewhere what was allowed is
      moved : ((v : Write) → sheet_rebased d ws (written v t) ≡ all_written (carried d rest) (written v t)) → sheet_rebased d ws t ≡ all_written (carried d rest) t → (x : Option Formula) (b : Bool) → place_lost d r c ≡ false
          → sheet_rebased d ws (sheet_then (and_then (cond b (Ok (write_to d (asks x))) (Err Outside)) (λ v. Ok (Some v))) t)
          ≡ all_written (carried d (accept (cond b (Ok (asks x)) (Err Outside)) rest)) t
      moved f g x true e = f (write_to d (asks x)) ∙ sym (ap (λ l. all_written (with_any (unless l (write_to d (asks x))) (carried d rest)) t) e)
      moved f g x false e = g

      go : ((v : Write) → sheet_rebased d ws (written v t) ≡ all_written (carried d rest) (written v t)) → sheet_rebased d ws t ≡ all_written (carried d rest) t → (l : Bool) (o : Option (Option Formula)) → place_lost d r c ≡ l
          → sheet_rebased d ws (sheet_then (cond l (Ok None) (and_then (moved_write d t (the_ref (row_to d r) (col_to d c)) o) (λ v. Ok (Some v)))) t)
          ≡ all_written (carried d (accept (put_inside s r c o) rest)) t
      go f g true None e = g
      go f g true (Some x) e = g ∙ lost x (inside s r c) e
      go f g false None e = g
      go f g false (Some x) e =
          ap (λ b. sheet_rebased d ws (sheet_then (and_then (cond b (Ok (write_to d (asks x))) (Err Outside)) (λ v. Ok (Some v))) t)) (moved_inside d s t k p q r c e)
          ∙ moved f g x (inside s r c) e
