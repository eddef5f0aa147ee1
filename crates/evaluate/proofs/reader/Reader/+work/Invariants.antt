use Rattle.std.proofs.Common.{length}
use Rattle.evaluate.proofs.reader.Reader.+work.Given as goal

abbrev pub decreases-work : goal.decreases-work
decreases-work g l = length l.expression.tokens.now
