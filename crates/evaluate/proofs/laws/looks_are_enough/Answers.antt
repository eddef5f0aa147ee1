use Rattle.std.proofs.Common.{ℕ, ap}
use Rattle.evaluate.specs.Traces.{Trace}
use Rattle.evaluate.specs.Evaluation.{value_of}
use Rattle.evaluate.proofs.Looked.{same_trace}
use Rattle.evaluate.proofs.laws.looks_are_enough.Goals as goal

pub returns : goal.returns
returns c f g x agree = let e = same_trace f g x agree in (ap (λ (t : Trace ℕ). t.looks) e, ap (λ (t : Trace ℕ). value_of t.end) e)
