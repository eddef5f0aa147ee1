use Rattle.std.proofs.Common.{ap, length, arith}
use Rattle.recalc.specs.Turns.{change_of}
use Rattle.recalc.proofs.Starts.{updated}
use Rattle.recalc.proofs.recalculation.Recalculation.visit_all.Goals as goal

pub returns-clause-updated : goal.returns-clause-updated
returns-clause-updated g c =
    let inv = c.loop-k.invariant in
    updated {x = change_of c.args.self.now} inv.0.good (ap length inv.1) (λ i l. inv.2 i (omega (arith, l, c.args.self.now.table_even)))
