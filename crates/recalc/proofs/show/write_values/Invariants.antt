use Rattle.evaluate.specs.Values.{value_numbers}
use Rattle.recalc.specs.Showing.{table_shows}
use Rattle.recalc.proofs.Entries.{FilledTo}
use Rattle.recalc.proofs.show.write_values.Given as goal

-- the values of the cells before k are written
abbrev pub invariant-loop-k : goal.invariant-loop-k
invariant-loop-k l = FilledTo (λ k. value_numbers (table_shows l.table k)) 2 l.initial.out l.k l.out
