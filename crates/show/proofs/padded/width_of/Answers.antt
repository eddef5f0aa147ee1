-- The counter starts at 0, and counts what is written.
use Rattle.std.proofs.Common.{refl, ap, arith}
use Rattle.show.specs.declared.padded.Counter.{Counter}
use Rattle.show.specs.Entries.{entry_text}
use Rattle.show.proofs.Widths.{counts}
use Rattle.show.proofs.padded.width_of.Goals as goal

pub returns : goal.returns
returns c =
    let put = c.in_ok-write.ensures.writes c.new-f.ensures.plain refl in
    let all = counts _ (entry_text c.args.entry) _ put.wrote in
    let start = ap (λ (w : Counter). w.count) c.new-f.ensures.writer in
    let end = ap (λ (w : Counter). w.count) c.into_inner.ensures in
    omega arith
