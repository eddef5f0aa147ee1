use Rattle.formula.specs.Reading.{reads}
use Rattle.formula.proofs.Operands.{first_there}
use Rattle.formula.proofs.expression.Expression.read.Goals as goal

pub invariant_of-result : goal.invariant_of-result
invariant_of-result c = record { there = first_there (reads c.args.tokens.now) _ c.in_ok-skip.ensures }
