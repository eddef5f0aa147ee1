-- Rows and columns change in either order. Assumes nothing.
use Rattle.shift.proofs.Orders.{either_order}
use Rattle.shift.proofs.laws.either_order.Goals as goal

pub returns : goal.returns
returns c = either_order
