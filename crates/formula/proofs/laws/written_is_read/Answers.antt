use Rattle.formula.proofs.Writing.{written_read}
use Rattle.formula.proofs.Contents.{stored_read}
use Rattle.formula.proofs.laws.written_is_read.Goals as goal

pub returns : goal.returns
returns c f h = (written_read f h, stored_read f h)
