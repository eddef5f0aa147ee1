use Rattle.std.proofs.Common.{refl}
use Rattle.formula.specs.Formula as formula
use Rattle.evaluate.specs.Evaluation.{trace}
use Rattle.evaluate.proofs.Reading.{lost_before}
use Rattle.evaluate.proofs.reader.Reader.cell.Goals as goal

pub returns-in_err-place : goal.returns-in_err-place
returns-in_err-place g c = lost_before (λ p f. trace f (formula.cell p)) (λ f. refl) c.args.place _ _ c.in_err-place.ensures.value c.from_residual.ensures.1
