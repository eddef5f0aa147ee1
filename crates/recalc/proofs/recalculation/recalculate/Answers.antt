use Rattle.std.proofs.Common.{length, replicate, [], refl, sym, ap, ◌∙◌, arith}
use Rattle.recalc.specs.declared.formulas.Progress.TheVariants.{Waiting}
use Rattle.recalc.specs.Change.{change}
use Rattle.recalc.proofs.Starts.{start}
use Rattle.recalc.proofs.Goings.{same_memory}
use Rattle.recalc.proofs.recalculation.recalculate.Goals as goal

pub visit_all-requires-clause-going : goal.visit_all-requires-clause-going
visit_all-requires-clause-going g c =
    let r = c.requires in
    let x = change (g.F.Formulas.language c.args.formulas.now) (g.B.Before.shows c.args.before.now) (g.B.Before.written c.args.before.now) in
    let good = start x (length c.args.table.now) c.forget.new.table c.forget-2.new.table c.mark_written.new.marks [] r.table
    c.forget.ensures (c.forget-2.ensures ∙ ap (λ n. replicate n Waiting) (r.kept ∙ sym r.table)) (c.mark_written.auto.marks ∙ r.marks ∙ sym r.table)
    (λ k l. c.mark_written.ensures k (omega (arith, l, r.table, r.marks))) refl in
    record { same = same_memory _; good = good }
