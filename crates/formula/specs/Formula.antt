-- Formulas. Assumes nothing: this is a definition.
use Rattle.std.specs.Prelude.{ℕ, Option}
use Rattle.formula.specs.declared.token.CellRef.{CellRef}
use Rattle.formula.specs.declared.token.Range.{Range}
use Rattle.formula.specs.declared.token.Aggregate.{Aggregate}
use Rattle.formula.specs.declared.token.Operator.{Operator}

-- a reference or a range whose cells were deleted is None
pub data Formula : Type 0 where
  number : ℕ → Formula
  cell : Option CellRef → Formula
  fold : Aggregate → Option Range → Formula
  binary : Operator → Formula → Formula → Formula
  if_less : Formula → Formula → Formula → Formula → Formula  -- if the first is less than the second, the third, else the fourth
