use Rattle.std.proofs.Common.{sym, ◌∙◌}
use Rattle.recalc.proofs.theory.one_result.Goals as goal

pub returns : goal.returns
returns c xs out r r₁ row row₁ a b = (a.0 ∙ sym b.0, a.1 ∙ sym b.1)
