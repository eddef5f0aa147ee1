use Rattle.std.proofs.Common.{ap, length, arith}
use Rattle.recalc.proofs.Starts.{equal_good, opens}
use Rattle.recalc.proofs.Goings.{anchored}
use Rattle.recalc.proofs.recalculation.Recalculation.visit.Goals as goal

pub settle-requires : goal.settle-requires
settle-requires g c =
    let e = c.open.ensures in
    let good = c.requires.going.good in
    let opened = opens good (ap length c.requires.none) c.args.k (omega (arith, c.requires.within, good.t_size)) c.in-Waiting.is in
    record { going = anchored (record { same = e.same; good = equal_good e.table e.kept e.marks e.stack opened }) }
