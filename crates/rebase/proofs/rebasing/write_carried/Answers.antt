use Rattle.std.proofs.Common.{Some, ap, subst, ◌∙◌}
use Rattle.std.specs.Option.{option_map}
use Rattle.formula.specs.Formula.{Formula}
use Rattle.formula.specs.Reading.{spelled}
use Rattle.recalc.specs.Sheets.{sheet_in}
use Rattle.edit.specs.Writes.{put_inside}
use Rattle.edit.specs.States.{state}
use Rattle.rebase.specs.Rebased.{Does}
use Rattle.rebase.proofs.Doing.{does, carried_spelled}
use Rattle.rebase.proofs.rebasing.write_carried.Goals as goal

pub returns-clause-does : goal.returns-clause-does
returns-clause-does c =
    let p = c.args.place in
    let s = sheet_in c.args.sheet.now.nums.now in
    let a = state c.args.sheet.now.nums.now c.args.sheet.now.values.now c.args.changes.now in
    let b = state c.write.new.self.nums.now c.write.new.self.values.now c.write.new.changes in
    let h = does _ a b c.write.result c.write.ensures.written in
    subst (λ o. Does (put_inside s p.row p.col o) a c.write.result b) (ap (λ ts. option_map {T = Formula} Some (spelled ts)) c.carry_tokens.ensures ∙ carried_spelled c.args.shift c.args.tokens.now) h
