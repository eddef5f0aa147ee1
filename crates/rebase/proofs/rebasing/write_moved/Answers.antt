use Rattle.std.proofs.Common.{sym, ap, subst, ◌∙◌}
use Rattle.std.specs.Option.{option_map}
use Rattle.recalc.specs.Sheets.{sheet_in}
use Rattle.shift.specs.Sheets.{shift_cell}
use Rattle.edit.specs.Writes.{asked, put_inside}
use Rattle.edit.specs.States.{state}
use Rattle.rebase.specs.Rebased.{Does}
use Rattle.rebase.proofs.Doing.{does}
use Rattle.rebase.proofs.rebasing.write_moved.Goals as goal

-- a blank stays one
pub returns-in-None-clause-does : goal.returns-in-None-clause-does
returns-in-None-clause-does c =
    let p = c.args.write.place in
    let s = sheet_in c.args.sheet.now.nums.now in
    let a = state c.args.sheet.now.nums.now c.args.sheet.now.values.now c.args.changes.now in
    let b = state c.write.new.self.nums.now c.write.new.self.values.now c.write.new.changes in
    let h = does c.args.write a b c.write.result c.write.ensures.written in
    subst (λ o. Does o a c.write.result b)
    (ap (λ o. put_inside s p.row p.col (asked o)) c.in-None.is ∙ sym (ap (λ o. put_inside s p.row p.col (option_map (shift_cell c.args.shift) (asked o))) c.in-None.is)) h
