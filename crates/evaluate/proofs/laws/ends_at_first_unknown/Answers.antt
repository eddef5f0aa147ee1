use Rattle.evaluate.proofs.Knowledge.{ends_at_first}
use Rattle.evaluate.proofs.laws.ends_at_first_unknown.Goals as goal

pub returns : goal.returns
returns c = ends_at_first
