use Rattle.std.proofs.Common.{arith}
use Rattle.shift.proofs.Origins.{first_left}
use Rattle.shift.proofs.reshape.Reshape.entries_behind.Goals as goal

pub overflow_sub-result : goal.overflow_sub-result
overflow_sub-result c = omega (arith, c.first_entry.ensures, c.entries_after.ensures.0, first_left c.args.self.shift c.args.self.size c.args.self.shiftable)
