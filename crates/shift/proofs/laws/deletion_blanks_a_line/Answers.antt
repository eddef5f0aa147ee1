-- A deletion shows what was shown with the line blank. Assumes nothing.
use Rattle.shift.proofs.Kept.{deletion_blanks}
use Rattle.shift.proofs.laws.deletion_blanks_a_line.Goals as goal

pub returns : goal.returns
returns c = deletion_blanks
