use Rattle.formula.specs.Layout.{cell_len}
use Rattle.recalc.specs.Entries.{entry}
use Rattle.recalc.proofs.Entries.{FilledTo}
use Rattle.shift.specs.Memory.{shifted_cell}
use Rattle.shift.proofs.cells.shift_cells.Given as goal

-- the cells before k are shifted
abbrev pub invariant-loop-k : goal.invariant-loop-k
invariant-loop-k l = FilledTo (λ k. shifted_cell l.shift (entry cell_len k l.initial.cells)) cell_len l.initial.cells l.k l.cells
