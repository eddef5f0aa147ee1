use Rattle.std.proofs.Common.{ap}
use Rattle.evaluate.specs.Evaluation.{value_of}
use Rattle.evaluate.proofs.Looked.{ends_in_error, cycle_looked_at, never_empty}
use Rattle.evaluate.proofs.laws.errors_spread.Goals as goal

pub returns : goal.returns
returns c = record { errors = λ f x q e i wrong. ap value_of (ends_in_error f q e wrong x i); cycles = cycle_looked_at; never = never_empty }
