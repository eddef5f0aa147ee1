-- What the cells of a sheet show by their places, from what its numbered cells show. Assumes nothing.
use Rattle.std.proofs.Common.{◌≡◌, ℕ, zero, suc, ◌+◌, ◌*◌, ◌/◌, ◌%◌, ◌<◌, Bool, true, false, cond, ◌&&◌, ltb, None, sym, refl, ap, ◌∙◌, arith}
use mathlib.Core.Path.{fun_ext}
use Rattle.std.proofs.lemmas.Bool.{cond-false}
use Rattle.std.proofs.lemmas.Nat.{div-mul-add, mod-mul-add}
use Rattle.formula.specs.Tokens.{the_ref}
use Rattle.evaluate.specs.declared.value.CellError.TheVariants.{Cycle}
use Rattle.evaluate.specs.declared.value.Value.{Value}
use Rattle.evaluate.specs.declared.value.Value.TheVariants.{Empty, Error}
use Rattle.recalc.specs.Sheets.{Sheet, inside, held, Same, cell_shows}
use Rattle.recalc.specs.Sheets as sheets
use Rattle.recalc.specs.Language.{shown}
use Rattle.recalc.specs.Numbered.{count, nth_cell, laid, worked, sheet_language}
use Rattle.recalc.specs.Shown.{Consistent, ShownIsConsistent, DeeperIsTheSame, OnlyAnswer}
use Rattle.recalc.specs.SheetLaws.{inside_is, number_inside, lawful, laid_inside}
use Rattle.recalc.proofs.Settling.{deeper, only_answer}
use Rattle.recalc.proofs.Laid.{deep_laid, shown_laid}

-- so it is by numbers
pub deeper_is_the_same : DeeperIsTheSame
deeper_is_the_same s n r c h =
    deep_laid s n r c ∙ ap (λ v. cond (inside s r c) v Empty) (deeper (lawful s) n (r * s.cols + c) h) ∙ sym (shown_laid s r c)

-- what is made of what is shown is what is shown one look deeper
pub shown_is_consistent : ShownIsConsistent
unfolding sheets.shown sheets.deep
shown_is_consistent s r c = sym (deeper_is_the_same s (suc (suc (s.rows * s.cols))) r c (omega arith))

-- to hold the same
pub same_refl : (s : Sheet) → Same s s
same_refl s = record { rows = refl; cols = refl; cells = λ r c. refl }

pub same_trans : {s t u : Sheet} → Same s t → Same t u → Same s u
same_trans a b = record { rows = a.rows ∙ b.rows; cols = a.cols ∙ b.cols; cells = λ r c. a.cells r c ∙ b.cells r c }

-- sheets that hold the same show the same, at each depth and in the end
same_deep : (s t : Sheet) → Same s t → (n r c : ℕ) → sheets.deep n s r c ≡ sheets.deep n t r c
unfolding sheets.deep
same_deep s t e zero r c = λ i. cond (ltb r (e.rows i) && ltb c (e.cols i)) (Error Cycle) Empty
same_deep s t e (suc n) r c =
    ap (λ (f : ℕ → ℕ → Value). cell_shows f (held s r c)) (fun_ext (λ i. fun_ext (λ j. same_deep s t e n i j)))
    ∙ ap (cell_shows (λ i j. sheets.deep n t i j)) (e.cells r c)

pub same_shown : (s t : Sheet) → Same s t → (r c : ℕ) → sheets.shown s r c ≡ sheets.shown t r c
unfolding sheets.shown
same_shown s t e r c =
    same_deep s t e (suc (s.rows * s.cols)) r c ∙ (λ i. sheets.deep (suc (e.rows i * e.cols i)) t r c)

-- what the cells may show, by numbers
abbrev by_number : Sheet → (ℕ → ℕ → Value) → ℕ → Value
by_number s f k = f (k / s.cols) (k % s.cols)

-- laid out it is the same: outside the sheet the cells are empty
pub laid_by_number : (s : Sheet) (f : ℕ → ℕ → Value) → Consistent s f → laid s (by_number s f) ≡ f
laid_by_number s f same = fun_ext (λ r. fun_ext (λ c. go r c (inside s r c) refl))
  where
    go : (r c : ℕ) (b : Bool) → inside s r c ≡ b → cond b (by_number s f (r * s.cols + c)) Empty ≡ f r c
    go r c true e =
        let l = (inside_is s r c e).1 in
        let row = div-mul-add r s.cols c l in
        let col = mod-mul-add r s.cols c l in
        rw (row, col)
    go r c false e = sym (same r c ∙ ap (cell_shows f) (cond-false (inside s r c) (s.cells r c) None e))

-- what the cells may show they may show by numbers, and there it is what is shown
pub only_one : OnlyAnswer
only_one s f same r c h =
    let there = λ (g : ℕ → ℕ → Value). g r c in
    sym (ap there (laid_by_number s f same)) ∙ go (inside s r c) refl ∙ sym (shown_laid s r c)
  where
    agrees : (k : ℕ) → k < count s → worked s (by_number s f) k ≡ by_number s f k
    agrees k q = ap (λ (g : ℕ → ℕ → Value). cell_shows g (nth_cell s k)) (laid_by_number s f same) ∙ sym (same (k / s.cols) (k % s.cols))

    go : (b : Bool) → inside s r c ≡ b → cond b (by_number s f (r * s.cols + c)) Empty ≡ cond b (shown (sheet_language s) (r * s.cols + c)) Empty
    go true e =
        only_answer (lawful s) (by_number s f) agrees (r * s.cols + c) (number_inside s (the_ref r c) e)
        (λ d. h (shown_laid s r c ∙ laid_inside s (shown (sheet_language s)) (the_ref r c) e ∙ d))
    go false e = refl
