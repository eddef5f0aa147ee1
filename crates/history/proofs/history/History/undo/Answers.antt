use Rattle.std.proofs.Common.{refl, arith}
use Rattle.history.specs.Kept.{kept}
use Rattle.history.proofs.Moves.{kept_undone, undone_none}
use Rattle.history.proofs.Rings.{listed_none, listed_some}
use Rattle.history.proofs.history.History.undo.Goals as goal

pub returns-clause-undone : goal.returns-clause-undone
returns-clause-undone c m = kept_undone c.args.self.now m _ _ _ c.previous_slot-self.ensures refl refl (omega arith)

pub returns-clause-refused : goal.returns-clause-refused
returns-clause-refused c m = ((λ e. absurd (cc)), (λ e. absurd (listed_some _ 1 _ (omega arith) e)))

pub returns-then-self-eq0-clause-refused : goal.returns-then-self-eq0-clause-refused
returns-then-self-eq0-clause-refused c m = ((λ e. listed_none _ 1 _ (omega arith)), (λ e. refl))

pub returns-then-self-eq0-clause-undone : goal.returns-then-self-eq0-clause-undone
returns-then-self-eq0-clause-undone c m = undone_none (kept c.args.self.now m) (listed_none _ 1 _ (omega arith))
