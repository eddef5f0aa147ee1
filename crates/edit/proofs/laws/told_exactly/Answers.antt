use Rattle.edit.proofs.Exactly.{told_exactly, one_list_told}
use Rattle.edit.proofs.laws.told_exactly.Goals as goal

pub returns : goal.returns
returns c = record { exactly = told_exactly; one = one_list_told }
