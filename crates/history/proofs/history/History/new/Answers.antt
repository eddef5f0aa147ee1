use Rattle.std.proofs.Common.{refl}
use Rattle.history.specs.Ring.{listed}
use Rattle.history.proofs.history.History.new.Goals as goal

pub returns-clause-kept : goal.returns-clause-kept
unfolding listed
returns-clause-kept c m = refl
