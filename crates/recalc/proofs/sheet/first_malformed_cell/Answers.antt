use Rattle.std.proofs.Common.{sym, ◌∙◌}
use Rattle.recalc.proofs.Malformed.{found_here, goes_on, none_left}
use Rattle.recalc.proofs.sheet.first_malformed_cell.Goals as goal

pub returns-then-is_malformed_at : goal.returns-then-is_malformed_at
returns-then-is_malformed_at c =
    sym (found_here c.args.nums.now c.loop-index.index c.args.count c.loop-index-test.true (sym c.if-is_malformed_at.ensures)) ∙ c.loop-index.invariant

pub loop-index-preserved : goal.loop-index-preserved
loop-index-preserved c =
    sym (goes_on c.args.nums.now c.loop-index.index c.args.count c.loop-index-test.true (sym c.if-is_malformed_at.ensures)) ∙ c.loop-index.invariant

pub returns : goal.returns
returns c = sym (none_left c.args.nums.now c.loop-index.index c.args.count c.loop-index-test.false) ∙ c.loop-index.invariant
