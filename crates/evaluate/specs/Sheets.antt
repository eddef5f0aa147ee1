-- How large a sheet is, and what its cells show so far. Assumes nothing: this is a definition.
use Rattle.std.specs.Prelude.{ℕ, Option}
use Rattle.evaluate.specs.declared.value.Value.{Value}

pub record Sheet : Type 0 where
  pub height : ℕ
  pub width : ℕ
  pub shown : ℕ → ℕ → Option Value
