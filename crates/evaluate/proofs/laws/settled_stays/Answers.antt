use Rattle.evaluate.proofs.Knowledge.{stays, wanting}
use Rattle.evaluate.proofs.laws.settled_stays.Goals as goal

pub returns : goal.returns
returns c f g x more = (stays f g more x, wanting f x)
