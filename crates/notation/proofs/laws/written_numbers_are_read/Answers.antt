-- Numbers that are written with spaces between them are read back.
use Rattle.std.proofs.Common.{[]}
use Rattle.notation.proofs.Spaced.{spaced_read}
use Rattle.notation.proofs.laws.written_numbers_are_read.Goals as goal

pub returns : goal.returns
returns c ns h = spaced_read [] ns h
