-- The rows get shorter.
use Rattle.std.proofs.Common.{length}
use Rattle.notation.proofs.operand.OperandDisplay.+fmt.Given as goal

abbrev pub decreases-fmt : goal.decreases-fmt
decreases-fmt g l = length l.self.now.expression.tokens.now
