use Rattle.std.proofs.Common.{refl}
use Rattle.formula.specs.Formula as formula
use Rattle.evaluate.specs.Evaluation.{trace}
use Rattle.evaluate.proofs.Reading.{lost_before}
use Rattle.evaluate.proofs.reader.Reader.fold.Goals as goal

pub returns-in_err-range : goal.returns-in_err-range
returns-in_err-range g c = lost_before (λ b f. trace f (formula.fold c.args.aggregate b)) (λ f. refl) c.args.range _ _ c.in_err-range.ensures.value c.from_residual.ensures.1
