use Rattle.edit.proofs.Exactly.{worked_exactly, one_list_worked}
use Rattle.edit.proofs.laws.worked_exactly.Goals as goal

pub returns : goal.returns
returns c = record { exactly = worked_exactly; one = one_list_worked }
