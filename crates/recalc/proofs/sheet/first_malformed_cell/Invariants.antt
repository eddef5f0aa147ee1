use Rattle.std.proofs.Common.{◌≡◌, ◌-◌}
use Rattle.recalc.specs.Layout.{first_malformed}
use Rattle.recalc.proofs.sheet.first_malformed_cell.Given as goal

abbrev pub invariant-loop-index : goal.invariant-loop-index
invariant-loop-index l = first_malformed l.index (l.count - l.index) l.nums ≡ first_malformed 0 l.count l.nums
