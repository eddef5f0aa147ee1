use Rattle.std.proofs.Common.{length}
use Rattle.formula.proofs.reading.+skip.Given as goal

abbrev pub decreases-skip : goal.decreases-skip
decreases-skip l = length l.tokens.now
