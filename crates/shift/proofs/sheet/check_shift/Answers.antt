use Rattle.std.proofs.Common.{sym, ◌∙◌}
use Rattle.shift.proofs.Allowed.{shiftable}
use Rattle.shift.proofs.sheet.check_shift.Goals as goal

pub invariant_of-result : goal.invariant_of-result
invariant_of-result c =
    record { shiftable = shiftable c.args.shift c.args.most c.in_ok-size.size c.args.nums.now (sym c.check_fitting.ensures ∙ c.in_ok-size.was) (sym c.check.ensures ∙ c.in_ok-check.was) }
