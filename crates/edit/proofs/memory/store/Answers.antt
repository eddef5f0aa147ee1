use Rattle.std.proofs.Common.{sym, ap, ◌∙◌}
use Rattle.edit.specs.Writes.{asked}
use Rattle.edit.proofs.Stored.{formula_stored}
use Rattle.edit.proofs.memory.store.Goals as goal

pub returns-in-Some : goal.returns-in-Some
returns-in-Some c x e =
    formula_stored c.args.cell.now c.in-Some.tokens.now c.write.new.numbers x c.requires (ap asked (sym c.in-Some.is) ∙ e) c.write.ensures.numbers
