use Rattle.std.proofs.Common.{ap, ◌∙◌}
use Rattle.recalc.specs.Numbered.{laid_known, tried_cell}
use Rattle.recalc.proofs.Numbered.{formula_tried}
use Rattle.recalc.proofs.lent.LentSheet.try_cell.Goals as goal

pub returns : goal.returns
returns c =
    let s = c.args.self.now in
    let t = laid_known s.size.rows s.size.cols c.args.table.now in
    c.shown_as.ensures ∙ formula_tried t _ c.evaluate_expression.result c.evaluate_expression.ensures ∙ ap (tried_cell t) c.in-Some.ensures
