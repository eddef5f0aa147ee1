use Rattle.shift.proofs.Placed.{SpreadTo}
use Rattle.shift.proofs.entries.spread.Given as goal

-- the entries from i on are in their places
abbrev pub invariant-loop-i : goal.invariant-loop-i
invariant-loop-i g l = SpreadTo g.row.LEN l.reshape l.initial.part l.i l.part
