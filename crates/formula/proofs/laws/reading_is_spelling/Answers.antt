use Rattle.formula.proofs.Spelling.{spelled_whole, whole_spelled}
use Rattle.formula.proofs.laws.reading_is_spelling.Goals as goal

pub returns : goal.returns
returns c ws f = (whole_spelled ws f, spelled_whole ws f)
