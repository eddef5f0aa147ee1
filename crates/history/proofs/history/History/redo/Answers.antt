use Rattle.std.proofs.Common.{refl, arith}
use Rattle.history.specs.Kept.{kept}
use Rattle.history.proofs.Moves.{kept_redone, redone_none}
use Rattle.history.proofs.Rings.{listed_none, listed_some}
use Rattle.history.proofs.history.History.redo.Goals as goal

pub returns-clause-redone : goal.returns-clause-redone
returns-clause-redone c m = kept_redone c.args.self.now m _ _ _ c.next_slot-self.ensures.is refl refl (omega arith)

pub returns-clause-refused : goal.returns-clause-refused
returns-clause-refused c m = ((λ e. absurd (cc)), (λ e. absurd (listed_some _ 1 _ (omega arith) e)))

pub returns-then-self-eq0-clause-refused : goal.returns-then-self-eq0-clause-refused
returns-then-self-eq0-clause-refused c m = ((λ e. listed_none _ 1 _ (omega arith)), (λ e. refl))

pub returns-then-self-eq0-clause-redone : goal.returns-then-self-eq0-clause-redone
returns-then-self-eq0-clause-redone c m = redone_none (kept c.args.self.now m) (listed_none _ 1 _ (omega arith))
