-- What a sheet shows by numbers is what it shows by places. Assumes nothing.
use Rattle.std.specs.Prelude.{◌≡◌, ℕ, zero, suc, ◌+◌, ◌*◌, ◌/◌, ◌%◌, ◌<◌, Bool, true, false, cond, None}
use Rattle.std.proofs.Math.Path.{refl, ap, fun_ext}
use Rattle.std.proofs.Common.{sym, ◌∙◌}
use Rattle.std.proofs.lemmas.Bool.{cond-true, lt-ltb}
use Rattle.std.proofs.lemmas.Nat.{div-mul-add, mod-mul-add, div-add-mod', div_below, mod_below}
use Rattle.evaluate.specs.declared.value.Value.{Value}
use Rattle.evaluate.specs.declared.value.Value.TheVariants.{Empty}
use Rattle.recalc.specs.Sheets.{Sheet, inside, held, cell_shows, cell_looks}
use Rattle.recalc.specs.Sheets as sheets
use Rattle.recalc.specs.Language.{deep, shown}
use Rattle.recalc.specs.Showing.{nth_shown}
use Rattle.recalc.specs.Numbered.{count, nth_cell, laid, worked, sheet_language}
use Rattle.recalc.specs.SheetLaws.{inside_is}
use Rattle.recalc.proofs.Numbered.{some_cols}

module _ (s : Sheet) where
  -- the cell at a place of the sheet, by its number
  pub nth_at : (r c : ℕ) → inside s r c ≡ true → nth_cell s (r * s.cols + c) ≡ held s r c
  nth_at r c e =
      let l = (inside_is s r c e).1 in
      let row = div-mul-add r s.cols c l in
      let col = mod-mul-add r s.cols c l in
      rw (row, col)

  -- at each depth the places show what the numbered cells show
  pub deep_laid : (n r c : ℕ) → sheets.deep n s r c ≡ laid s (deep (sheet_language s) n) r c
  unfolding sheets.deep deep
  deep_laid zero r c = refl
  deep_laid (suc n) r c = go (inside s r c) refl (fun_ext (λ i. fun_ext (λ j. deep_laid n i j)))
    where
      go : (b : Bool) → inside s r c ≡ b → (λ i j. sheets.deep n s i j) ≡ laid s (deep (sheet_language s) n)
          → cell_shows (λ i j. sheets.deep n s i j) (cond b (s.cells r c) None) ≡ cond b (worked s (deep (sheet_language s) n) (r * s.cols + c)) Empty
      go true e ih = ap (λ (f : ℕ → ℕ → Value). cell_shows f (s.cells r c)) ih ∙ ap (cell_shows (laid s (deep (sheet_language s) n))) (sym (nth_at r c e ∙ cond-true (inside s r c) (s.cells r c) None e))
      go false e ih = refl

  pub shown_laid : (r c : ℕ) → sheets.shown s r c ≡ laid s (shown (sheet_language s)) r c
  unfolding sheets.shown shown
  shown_laid r c = deep_laid (suc (s.rows * s.cols)) r c

  -- what cell k shows
  pub nth_shown_is : (k : ℕ) → k < count s → shown (sheet_language s) k ≡ nth_shown s k
  nth_shown_is k l =
      let some = some_cols s.rows s.cols k l in
      let r = lt-ltb (k / s.cols) s.rows (div_below k s.cols s.rows some l) in
      let c = lt-ltb (k % s.cols) s.cols (mod_below k s.cols some) in
      sym (shown_laid (k / s.cols) (k % s.cols) ∙ rw (r, c, div-add-mod' k s.cols))
