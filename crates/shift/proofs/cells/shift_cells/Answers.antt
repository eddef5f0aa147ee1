use Rattle.std.proofs.Common.{◌≡◌, ℕ, suc, ◌+◌, ◌-◌, ◌*◌, ◌/◌, ◌<◌, List, ◌++◌, length, take, drop, ap, ◌∙◌, subst, arith, length-drop}
use borrow.Rule.Slice.PartMut.{put_mid}
use Rattle.std.proofs.lemmas.List.{drop-drop, length-take-le}
use Rattle.formula.specs.Layout.{cell_len}
use Rattle.recalc.specs.Entries.{entry}
use Rattle.recalc.proofs.Entries.{entry_behind, FilledTo, filled_none, filled_more, entries_length}
use Rattle.shift.specs.Memory.{shifted_cell}
use Rattle.shift.proofs.OneCell.{cell_length}
use Rattle.shift.proofs.cells.shift_cells.Goals as goal

pub loop-k-init : goal.loop-k-init
loop-k-init c = filled_none (λ k. shifted_cell c.args.shift (entry cell_len k c.args.cells.now)) cell_len c.args.cells.now

pub shift_cell-requires : goal.shift_cell-requires
shift_cell-requires c =
    let at = cell_len * c.loop-k.k in
    let n : at + cell_len - at ≡ cell_len = omega arith in
    rw n (length-take-le cell_len (drop at c.loop-k.cells) (simp length-drop (omega arith)))

pub loop-k-preserved : goal.loop-k-preserved
loop-k-preserved c =
    let d = c.args.shift in
    let xs = c.args.cells.now in
    let count = length xs / cell_len in
    let k = c.loop-k.k in
    let ys = c.loop-k.cells in
    let at = cell_len * k in
    let f : ℕ → List ℕ = λ i. shifted_cell d (entry cell_len i xs) in
    let n : at + cell_len - at ≡ cell_len = omega arith in
    let e : suc k ≡ k + 1 = omega arith in
    let long : (i : ℕ) → i < count → length (f i) ≡ cell_len = λ i h. cell_length d (entry cell_len i xs) (length-take-le cell_len (drop (cell_len * i) xs) (simp length-drop (omega arith))) in
    let here : entry cell_len k ys ≡ entry cell_len k xs = ap (entry cell_len k) c.loop-k.invariant ∙ entry_behind cell_len k at _ xs (entries_length f cell_len count long 0 k (omega arith)) (omega arith) in
    let next = put_mid at (at + cell_len - at) ys c.shift_cell.new.cell in
    subst (λ i. FilledTo f cell_len xs i next) e
    (filled_more f cell_len count long xs k ys next c.loop-k-test.true c.loop-k.invariant
    (ap (put_mid at (at + cell_len - at) ys) c.shift_cell.ensures
    ∙ ap (λ m. put_mid at m ys (shifted_cell d (take m (drop at ys)))) n
    ∙ ap (λ zs. take at ys ++ (shifted_cell d zs ++ drop cell_len (drop at ys))) here
    ∙ ap (λ zs. take at ys ++ (f k ++ zs)) (drop-drop cell_len at ys)))

pub returns : goal.returns
returns c =
    let e : c.loop-k.k ≡ length c.args.cells.now / cell_len = omega arith in
    subst (λ i. FilledTo (λ k. shifted_cell c.args.shift (entry cell_len k c.args.cells.now)) cell_len c.args.cells.now i c.loop-k.cells) e c.loop-k.invariant
