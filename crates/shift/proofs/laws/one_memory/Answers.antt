use Rattle.std.proofs.Common.{sym, ◌∙◌}
use Rattle.shift.proofs.laws.one_memory.Goals as goal

pub returns : goal.returns
returns c d most xs r r₁ ys ys₁ a b = (a.answer ∙ sym b.answer, a.memory ∙ sym b.memory)
