-- Either order comes to the same. Assumes nothing.
use Rattle.recalc.proofs.Shown.{same_refl}
use Rattle.rebase.proofs.Both.{together, refused_alike}
use Rattle.rebase.proofs.laws.either_first.Goals as goal

pub returns-clause-same : goal.returns-clause-same
returns-clause-same c most u v s d ws ok = together most u v s d ws ok _ (same_refl _)

pub returns-clause-refused : goal.returns-clause-refused
returns-clause-refused c = refused_alike
