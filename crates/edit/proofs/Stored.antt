-- A cell in memory, overwritten. Assumes nothing.
use Rattle.std.proofs.Common.{◌≡◌, ℕ, ◌+◌, ◌-◌, false, ltb, List, [], ◌++◌, length, take, drop, Some, None, Option, refl, ap, ◌∙◌, arith}
use borrow.Rule.Slice.PartMut.{put_mid}
use Rattle.std.specs.Option.{option_map}
use Rattle.std.proofs.lemmas.List.{append-nil, drop_all, drop-drop}
use Rattle.std.proofs.lemmas.Bool.{le-ltb}
use Rattle.formula.specs.Layout.{cell_len}
use Rattle.formula.specs.Formula.{Formula}
use Rattle.formula.specs.Reading.{spelled}
use Rattle.formula.specs.Cells.{stored, written, kept}
use Rattle.recalc.specs.Layout.{sheet_len}
use Rattle.edit.specs.Memory.{cell_stored, with_cell}

-- the formula that tokens spell, written into a cell
pub formula_stored : (xs ts ys : List ℕ) (x : Option Formula) → length xs ≡ cell_len → option_map Some (spelled ts) ≡ Some x → ys ≡ kept xs (written xs ts) → ys ≡ cell_stored x
formula_stored xs ts ys x l e w = w ∙ go (spelled ts) refl e
  where
    go : (o : Option Formula) → spelled ts ≡ o → option_map Some o ≡ Some x → kept xs (written xs ts) ≡ cell_stored x
    go None s e = absurd (let z : ◌≡◌ {A = ℕ} 0 1 = cc in omega arith)
    go (Some f) s e =
        let z : Some f ≡ x = cc in
        let long : ltb (length xs) cell_len ≡ false = le-ltb (length xs) cell_len (omega arith) in
        let none : drop cell_len xs ≡ [] = drop_all cell_len xs (omega arith) in
        rw (long, s) (ap (λ zs. stored f ++ zs) none ∙ append-nil (stored f) ∙ ap cell_stored z)

-- a cell put back where it was lent
pub cell_put : (k : ℕ) (xs cell new : List ℕ) → cell ≡ new → put_mid (sheet_len k) (sheet_len k + cell_len - sheet_len k) xs cell ≡ with_cell k new xs
cell_put k xs cell new e =
    let at = sheet_len k in
    let n : at + cell_len - at ≡ cell_len = omega arith in
    ap (put_mid at (at + cell_len - at) xs) e ∙ ap (λ m. put_mid at m xs new) n ∙ ap (λ zs. take at xs ++ (new ++ zs)) (drop-drop cell_len at xs)
