-- Writes and a shift that were made apart, in either order. Assumes nothing.
use Rattle.std.proofs.Common.{◌≡◌, ℕ, ◌^◌, ◌<◌, Bool, true, false, cond, List, [], ◌∷◌, refl, subst, ap, ◌∙◌, Some, None, Ok, Err, Option}
use Rattle.formula.specs.declared.token.CellRef.{CellRef}
use Rattle.formula.specs.Tokens.{the_ref}
use Rattle.formula.specs.Formula.{Formula}
use Rattle.formula.specs.Results.{answered}
use Rattle.recalc.specs.declared.refusal.Refusal.TheVariants.{Outside}
use Rattle.recalc.specs.declared.size.Size.{Size}
use Rattle.recalc.specs.Sheets.{Sheet, sheet_in, inside, Same}
use Rattle.recalc.proofs.Shown.{same_shown, same_trans}
use Rattle.shift.specs.declared.shift.Shift.{Shift}
use Rattle.shift.specs.Shifts.{row_to, col_to, rows_after, cols_after}
use Rattle.shift.specs.Sheets.{shifted, shift_cell, Allowed}
use Rattle.shift.proofs.Kept.{allowed_takes, insertion_keeps, deletion_blanks}
use Rattle.edit.specs.declared.write.Write as code
use Rattle.edit.specs.Writes.{Write, written, asked, put_inside}
use Rattle.rebase.specs.Carried.{all_written, carried, accepted}
use Rattle.rebase.specs.Rebased.{undropped, moved_write}
use Rattle.rebase.specs.Promise.{Together, RefusedAlike, BroughtTogether}
use Rattle.rebase.proofs.Carrying.{all_carried}
use Rattle.rebase.proofs.InRow.{sheet_rebased, row_same, row_is, moved_inside}

-- a shift that is not refused is not after writes
still_allowed : (most : Size) (d : Shift) (ws : List Write) (s : Sheet) → Allowed d s most → Allowed d (all_written ws s) most
unfolding all_written
still_allowed most d [] s ok = ok
still_allowed most d (w ∷ ws) s ok = still_allowed most d ws (written w s) ok

-- a sheet that holds the same as the shifted one is what comes of both
pub together : (most : Size) → most.rows < 2 ^ 64 → most.cols < 2 ^ 64 → (s : Sheet) (d : Shift) (ws : List Write) → Allowed d s most
    → (t : Sheet) → Same t (all_written (carried d ws) (shifted d s)) → Together d ws s t
together most u v s d ws ok t e =
    let same = same_trans e (all_carried d.axis d.change d.line ws s (allowed_takes most u v s d ok)) in
    let one = same_shown t (shifted d (all_written ws s)) same in
    let then = still_allowed most d ws s ok in
    record {
      same = same;
      shows = one;
      inserted = λ b r c. one (row_to d r) (col_to d c) ∙ (insertion_keeps most u v (all_written ws s) d b then).0 r c;
      new = λ b r c w. one r c ∙ (insertion_keeps most u v (all_written ws s) d b then).1 r c w;
      deleted = λ b r c w. one (row_to d r) (col_to d c) ∙ deletion_blanks most (all_written ws s) d b then r c w;
    }

-- how large the shifted sheet is
shifted_rows : (d : Shift) (s : Sheet) → (shifted d s).rows ≡ rows_after d s.rows
unfolding shifted
shifted_rows d s = refl

shifted_cols : (d : Shift) (s : Sheet) → (shifted d s).cols ≡ cols_after d s.cols
unfolding shifted
shifted_cols d s = refl

-- what a row of carried writes leaves, where it was another sheet that was shifted
pub brought_together : (d : Shift) (ws : List code.Write) (xs ys : List ℕ) → Same (sheet_in ys) (sheet_rebased d ws (sheet_in xs)) → BroughtTogether d ws xs ys
brought_together d ws xs ys h most u v s ok e =
    let row = row_is d s (allowed_takes most u v s d ok) ws (shifted d s) (shifted_rows d s) (shifted_cols d s) in
    together most u v s d (accepted ws s) ok (sheet_in ys) (subst (Same (sheet_in ys)) row (same_trans h (row_same d ws (sheet_in xs) (shifted d s) e)))

-- what is not dropped is refused alike
pub refused_alike : RefusedAlike
refused_alike most u v s d w ok e = ap (λ l. answered (cond l (Ok None) (undropped (moved_write d t p (asked w.formula))))) e ∙ go (asked w.formula)
  where
    t : Sheet
    t = shifted d s

    p : CellRef
    p = the_ref (row_to d w.place.row) (col_to d w.place.col)

    put : Option Formula → Write
    put x = record { row = p.row; col = p.col; what = shift_cell d x }

    both : (x : Option Formula) (b : Bool)
        → answered (undropped (cond b (Ok (put x)) (Err Outside))) ≡ answered {A = Write} (cond b (Ok (record { row = w.place.row; col = w.place.col; what = x })) (Err Outside))
    both x true = refl
    both x false = refl

    go : (o : Option (Option Formula)) → answered (undropped (moved_write d t p o)) ≡ answered (put_inside s w.place.row w.place.col o)
    go None = refl
    go (Some x) =
        let is = moved_inside d s t (allowed_takes most u v s d ok) (shifted_rows d s) (shifted_cols d s) w.place.row w.place.col e in
        ap (λ b. answered (undropped (cond b (Ok (put x)) (Err Outside)))) is ∙ both x (inside s w.place.row w.place.col)
