-- What is lent to a write, as one state. Assumes nothing: this is a definition.
use Rattle.std.specs.Prelude.{ℕ, List, vec_items}
use Rattle.edit.specs.declared.changes.Changes.{Changes}
use Rattle.edit.specs.Memory.{State}

abbrev pub state : List ℕ → List ℕ → Changes → State
state xs vs x = record { nums = xs; values = vs; changed = vec_items x.changed.places; recalculated = vec_items x.recalculated.places }
