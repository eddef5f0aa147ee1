use Rattle.recalc.specs.Layout.{cell_numbers}
use Rattle.edit.proofs.Holding.{tokens_spell}
use Rattle.edit.proofs.formulas.is_recalculated.Goals as goal

pub returns-in-Formula : goal.returns-in-Formula
returns-in-Formula c = let d = c.if-is_marked.true in let e = tokens_spell (cell_numbers c.args.k c.args.sheet.now.nums.now) _ c.in-Formula.ensures in cc
