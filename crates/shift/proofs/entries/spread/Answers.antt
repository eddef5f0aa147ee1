use Rattle.std.proofs.Common.{◌-◌, arith}
use Rattle.shift.proofs.Placed.{spread_none, spread_more}
use Rattle.shift.proofs.entries.spread.Goals as goal

pub loop-i-init : goal.loop-i-init
loop-i-init g c = spread_none g.row.LEN c.args.reshape c.args.part.now c.entries_behind-i.result c.entries_behind-i.ensures

pub loop-i-preserved : goal.loop-i-preserved
loop-i-preserved g c =
    spread_more g.row.LEN c.args.reshape c.args.part.now c.requires.room (c.loop-i.i - 1) c.loop-i.i c.loop-i.part c.put_entry.new.part
    c.requires.change (omega arith) (omega (arith, c.entries_behind-i.ensures)) c.loop-i.invariant c.put_entry.ensures
