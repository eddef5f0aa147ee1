use Rattle.std.proofs.Common.{◌≡◌, ◌+◌, ◌-◌, take, drop, ap, sym, ◌∙◌, arith}
use Rattle.formula.specs.Layout.{cell_len}
use Rattle.formula.specs.Cells.{content, is_malformed, formula_in}
use Rattle.recalc.specs.Layout.{sheet_len}
use Rattle.recalc.proofs.Numbered.{nth_is, checked_formed}
use Rattle.recalc.proofs.Malformed.{each_formed}
use Rattle.recalc.proofs.lent.LentSheet.formula.Goals as goal

pub in_cell-requires : goal.in_cell-requires
in_cell-requires c =
    let xs = c.args.self.now.nums.now in
    let from = sheet_len c.args.k in
    let part : from + cell_len - from ≡ cell_len = omega arith in
    ap (λ n. is_malformed (content (take n (drop from xs)))) part
    ∙ each_formed xs 0 _ (checked_formed xs c.args.self.now.accepted) c.args.k (omega arith) (omega (arith, c.requires))

pub returns : goal.returns
returns c =
    let xs = c.args.self.now.nums.now in
    let from = sheet_len c.args.k in
    let part : from + cell_len - from ≡ cell_len = omega arith in
    c.in_cell.ensures ∙ ap (λ n. formula_in (content (take n (drop from xs)))) part ∙ sym (nth_is xs c.args.k c.requires)
