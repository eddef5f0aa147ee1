use Rattle.std.proofs.Common.{◌+◌, arith}
use Rattle.recalc.proofs.Entries.{filled_none}
use Rattle.shift.proofs.Placed.{put, gathered_more}
use Rattle.shift.proofs.entries.gather.Goals as goal

pub loop-i-init : goal.loop-i-init
loop-i-init g c = filled_none (put g.row.LEN c.args.reshape c.args.part.now) g.row.LEN c.args.part.now

pub loop-i-preserved : goal.loop-i-preserved
loop-i-preserved g c =
    gathered_more g.row.LEN c.args.reshape c.args.part.now c.requires.room c.loop-i.i (c.loop-i.i + 1) c.loop-i.part c.put_entry.new.part
    c.requires.change (omega arith) (omega (arith, c.entries_behind-i-end.ensures)) c.loop-i.invariant c.put_entry.ensures
