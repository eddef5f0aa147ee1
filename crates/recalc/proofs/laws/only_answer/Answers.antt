-- What is shown is the only answer without cycles. Assumes nothing.
use Rattle.recalc.proofs.Shown.{only_one}
use Rattle.recalc.proofs.laws.only_answer.Goals as goal

pub returns : goal.returns
returns c = only_one
