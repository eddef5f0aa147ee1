use Rattle.std.proofs.Common.{◌≡◌, ◌-◌, ◌≤◌, max, ◌∷◌, length, drop, set, Ok, sym, ap, ◌∙◌, subst, arith}
use borrow.Rule.Slice.PartMut.{put_mid}
use Rattle.std.proofs.lemmas.List.{take_rest}
use Rattle.recalc.specs.declared.size.Size.{Size}
use Rattle.recalc.specs.Layout.{header_len, sheet_len, size_in, checked}
use Rattle.recalc.specs.Sheets.{sheet_in, Same}
use Rattle.shift.specs.Entries.{size_after, cells_of, Shiftable}
use Rattle.shift.specs.Sheets.{shifted}
use Rattle.shift.specs.Memory.{cells_after, shifted_memory}
use Rattle.shift.proofs.Memories.{counts_set, same_sheet, stays_formed}
use Rattle.shift.proofs.memory.shift_memory.Goals as goal

pub returns : goal.returns
returns c =
    let xs = c.args.nums.now in
    let d = c.args.reshape.shift in
    let size = c.args.reshape.size in
    let now = set (set (put_mid header_len (length xs - header_len) xs c.shift_grid.new.cells) 0 c.size_after-after.result.rows) 1 c.size_after-after.result.cols in
    let s : Shiftable d (size_in xs) = subst (Shiftable d) c.requires.size c.args.reshape.shiftable in
    let is : now ≡ shifted_memory d xs =
    counts_set xs c.shift_grid.new.cells c.size_after-after.result.rows c.size_after-after.result.cols (omega (arith, c.requires.room))
    ∙ ap (λ (z : Size). z.rows ∷ z.cols ∷ c.shift_grid.new.cells) c.size_after-after.ensures
    ∙ ap (λ ys. (size_after d size).rows ∷ (size_after d size).cols ∷ ys) (c.shift_grid.ensures ∙ ap (cells_after d size) (take_rest xs header_len))
    ∙ ap (λ z. (size_after d z).rows ∷ (size_after d z).cols ∷ cells_after d z (drop header_len xs)) c.requires.size in
    let room = subst (λ z. sheet_len (max (cells_of z) (cells_of (size_after d z))) ≤ length xs) c.requires.size c.requires.room in
    record {
      numbers = is;
      sheet = subst (λ ys. Same (sheet_in ys) (shifted d (sheet_in xs))) (sym is) (same_sheet d xs s room);
      formed = λ ok. ap checked is ∙ stays_formed d xs s room ok ∙ ap (λ z. Ok (size_after d z)) (sym c.requires.size);
    }
