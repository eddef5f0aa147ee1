use Rattle.std.proofs.Common.{◌≡◌, ◌+◌, ◌-◌, min, ap, arith}
use Rattle.evaluate.specs.Tallies.{Tally}
use Rattle.evaluate.specs.Traces.{each}
use Rattle.evaluate.specs.Evaluation.{none_yet, gathered_row, gathered}
use Rattle.evaluate.proofs.Clipped.{clipped}
use Rattle.evaluate.proofs.Reading.{passed_on, reads_same, reads_alike, reads_went, reads_stopped, reads_ended}
use Rattle.evaluate.proofs.reader.Reader.gather.Goals as goal

pub loop-row-init : goal.loop-row-init
loop-row-init g c =
    let b = c.args.range in
    let s = g.C.Cells.sheet c.args.self.now.cells.now in
    let high = c.rows.ensures.is in
    let wide = c.cols.ensures.is in
    let rows : c.clip-bottom.result - b.row ≡ min (b.row + b.rows) s.height - b.row = omega arith in
    let cols : c.clip-right.result - b.col ≡ min (b.col + b.cols) s.width - b.col = omega arith in
    let all = clipped s.height s.width s.shown (λ i j l. c.rows.ensures.below i j (omega arith)) (λ i j l. c.cols.ensures.beside i j (omega arith)) b in (
      λ r o x.
          reads_alike (λ f. gathered f b)
          (λ f. each (gathered_row f b.col (min (b.col + b.cols) s.width - b.col)) b.row (min (b.row + b.rows) s.height - b.row) none_yet) r all (rw (rows, cols, c.new-tally.ensures) at x),
      omega (arith, ap (λ (t : Tally). t.count) c.new-tally.ensures),
    )

pub returns-in_err-tally : goal.returns-in_err-tally
returns-in_err-tally g c =
    let b = c.args.range in
    let x = c.in_err-tally.field-0.0 in
    reads_same _ (passed_on _ x c.from_residual.ensures.1)
    (c.loop-row.invariant.0 _ _
    (reads_stopped (λ f. gathered_row f b.col (c.clip-right.result - b.col)) c.loop-row.row c.clip-bottom.result c.loop-row.tally x c.loop-row-test.true c.in_err-tally.ensures.reads))

pub loop-row-preserved : goal.loop-row-preserved
loop-row-preserved g c =
    let b = c.args.range in
    let t = c.in_ok-tally.tally in
    let few = c.in_ok-tally.ensures.few in (
      λ r o rest.
          c.loop-row.invariant.0 r o
          (reads_went (λ f. gathered_row f b.col (c.clip-right.result - b.col)) c.loop-row.row c.clip-bottom.result c.loop-row.tally t r _ c.loop-row-test.true c.in_ok-tally.ensures.reads
          rest),
      omega arith,
    )

pub returns : goal.returns
returns g c =
    let b = c.args.range in
    c.loop-row.invariant.0 _ _
    (reads_ended (λ f. gathered_row f b.col (c.clip-right.result - b.col)) c.loop-row.row c.clip-bottom.result c.loop-row.tally _ c.loop-row-test.false)
