-- Which lines a range has after an insertion and after a deletion. Assumes nothing.
use Rattle.shift.proofs.Spans.{range_inserted, range_deleted}
use Rattle.shift.proofs.laws.ranges_keep_their_lines.Goals as goal

pub returns : goal.returns
returns c = record { inserted = range_inserted; deleted = range_deleted }
