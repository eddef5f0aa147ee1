use Rattle.std.proofs.Common.{◌+◌, ◌-◌, ◌*◌, ◌≤◌, Result}
use Rattle.evaluate.specs.declared.stop.Stop.{Stop}
use Rattle.evaluate.specs.declared.reader.Reader.{Reader}
use Rattle.evaluate.specs.Limits.{max_columns, max_cells}
use Rattle.evaluate.specs.Tallies.{Tally}
use Rattle.evaluate.specs.Traces.{each}
use Rattle.evaluate.specs.Evaluation.{gathered_row, gathered}
use Rattle.evaluate.specs.Reads.{Reads}
use Rattle.evaluate.proofs.reader.Reader.gather.Given as goal

-- whatever reads the rows that are left reads the range
abbrev pub invariant-loop-row : goal.invariant-loop-row
invariant-loop-row g l =
    let left = l.range.col in
    ((r : Result Tally Stop) (o : Reader _ _)
    → Reads g.C.Cells.sheet g.T.Trail.log (λ f. each (gathered_row f left (l.right - left)) l.row (l.bottom - l.row) l.tally) r l.self o
    → Reads g.C.Cells.sheet g.T.Trail.log (λ f. gathered f l.range) r l.initial.self o)
    × (l.tally.count + max_columns * (l.bottom - l.row) ≤ max_cells)
