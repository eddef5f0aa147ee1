use Rattle.shift.proofs.Placed.{GatheredTo}
use Rattle.shift.proofs.entries.gather.Given as goal

-- the entries before i are in their places
abbrev pub invariant-loop-i : goal.invariant-loop-i
invariant-loop-i g l = GatheredTo g.row.LEN l.reshape l.initial.part l.i l.part
