use Rattle.history.proofs.Moves.{advances}
use Rattle.history.proofs.history.History.advance.Goals as goal

pub returns-clause-advances : goal.returns-clause-advances
returns-clause-advances c = advances c.args.self.now _ _ c.next_slot-self.ensures.is c.past_after-self.ensures
