use Rattle.recalc.proofs.Settling.{settles, deeper, only_answer, unchanged_stays}
use Rattle.recalc.proofs.Cycles.{cycle_exactly}
use Rattle.recalc.proofs.theory.every_language_is_settled.Goals as goal

pub returns : goal.returns
returns g c =
    let ok = g.met.F.Formulas.lawful c.args.f.now in
    record { settles = settles ok; deeper = deeper ok; only = only_answer ok; cycles = cycle_exactly ok; stays = unchanged_stays ok }
