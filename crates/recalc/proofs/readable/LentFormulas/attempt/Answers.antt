-- A memory that has a cell is not refused.
use Rattle.std.proofs.Common.{◌≡◌, ℕ, sym, ap, ◌∙◌, subst}
use Rattle.evaluate.specs.declared.value.Value.{Value}
use Rattle.recalc.specs.Table.{Right, Answers}
use Rattle.recalc.specs.Sheets.{Sheet, sheet_in}
use Rattle.recalc.specs.Numbered.{worked, LooksAt, readable}
use Rattle.recalc.proofs.Numbered.{lent_cell}
use Rattle.recalc.proofs.readable.LentFormulas.attempt.Goals as goal

pub returns-clause-answers : goal.returns-clause-answers
returns-clause-answers c =
    let xs = c.args.self.now.nums.now in
    let t = c.args.table.now in
    let same : sheet_in c.of.result.nums.now ≡ readable xs = ap sheet_in c.of.ensures ∙ sym (lent_cell xs c.args.k c.requires.within).is in
    subst (λ (s : Sheet). (f : ℕ → Value) → Right f t → Answers (worked s f c.args.k) (LooksAt s f c.args.k) t c.attempt.result) same c.attempt.ensures.answers
