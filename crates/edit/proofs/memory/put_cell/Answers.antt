use Rattle.edit.proofs.Stored.{cell_put}
use Rattle.edit.specs.Memory.{cell_stored}
use Rattle.edit.proofs.memory.put_cell.Goals as goal

pub returns : goal.returns
returns c x e = cell_put c.args.k c.args.nums.now c.store.new.cell (cell_stored x) (c.store.ensures x e)
