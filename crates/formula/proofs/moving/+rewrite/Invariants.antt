use Rattle.std.proofs.Common.{length}
use Rattle.formula.proofs.moving.+rewrite.Given as goal

abbrev pub decreases-rewrite : goal.decreases-rewrite
decreases-rewrite g l = length l.tokens.now
