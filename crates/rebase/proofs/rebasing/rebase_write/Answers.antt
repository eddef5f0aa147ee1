use Rattle.std.proofs.Common.{Ok, Err, sym, ap, subst, ◌∙◌}
use Rattle.std.proofs.lemmas.Result.{err_from_is_err_and}
use Rattle.edit.specs.States.{state}
use Rattle.rebase.specs.Rebased.{Rebases}
use Rattle.rebase.proofs.Doing.{rebases}
use Rattle.rebase.proofs.rebasing.rebase_write.Goals as goal

pub returns-in_err-write_moved-clause-rebases : goal.returns-in_err-write_moved-clause-rebases
returns-in_err-write_moved-clause-rebases c =
    let a = state c.args.sheet.now.nums.now c.args.sheet.now.values.now c.args.changes.now in
    let b = state c.write_moved.new.sheet.nums.now c.write_moved.new.sheet.values.now c.write_moved.new.changes in
    let w = c.args.write in
    let p = err_from_is_err_and c.from_residual.result c.from_residual.ensures.1 in
    subst (λ r. Rebases c.args.shift w a r b) (sym (p.1 ∙ ap Err p.2))
    (rebases c.args.shift w a b (Err c.in_err-write_moved.field-0.0) c.in-Some.place c.in-Some.ensures c.in_err-write_moved.ensures.does)

pub returns-clause-rebases : goal.returns-clause-rebases
returns-clause-rebases c =
    let a = state c.args.sheet.now.nums.now c.args.sheet.now.values.now c.args.changes.now in
    let b = state c.write_moved.new.sheet.nums.now c.write_moved.new.sheet.values.now c.write_moved.new.changes in
    rebases c.args.shift c.args.write a b (Ok tt) c.in-Some.place c.in-Some.ensures c.in_ok-write_moved.ensures.does
