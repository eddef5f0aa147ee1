-- Undo and redo, there and back. Assumes nothing.
use Rattle.history.proofs.Times.{first_comes_back, last_comes_back, undone_again}
use Rattle.history.proofs.laws.there_and_back.Goals as goal

pub returns : goal.returns
returns c = record { first = first_comes_back; last = last_comes_back; again = undone_again }
