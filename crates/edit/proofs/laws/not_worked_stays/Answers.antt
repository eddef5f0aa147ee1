use Rattle.edit.proofs.Exactly.{not_worked_stays}
use Rattle.edit.proofs.laws.not_worked_stays.Goals as goal

pub returns : goal.returns
returns c = not_worked_stays
