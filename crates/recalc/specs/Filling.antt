-- A table that is being filled. Assumes nothing: this is a definition.
use Rattle.std.specs.Prelude.{ℕ, Option}
use Rattle.evaluate.specs.declared.value.Value.{Value}
use Rattle.recalc.specs.declared.filled.Filled.{Filled}
use Rattle.recalc.specs.Numbered.{laid_known}

abbrev pub in_table : Filled → ℕ → ℕ → Option Value
in_table s r c = laid_known s.size.rows s.size.cols s.table.now r c
