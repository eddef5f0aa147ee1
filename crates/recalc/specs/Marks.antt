-- The marks of cells. Assumes nothing: these are definitions.
use Rattle.std.specs.Prelude.{ℕ, Bool, true, false, List, slice_index_or}
use Rattle.recalc.specs.declared.mark.Mark.{Mark}
use Rattle.recalc.specs.declared.mark.Mark.TheVariants.{Clean, Dirty, Recalculated}

abbrev pub mark_at : List Mark → ℕ → Mark
mark_at w k = slice_index_or w k Clean

abbrev pub mark_if : Bool → Mark
mark_if true = Dirty
mark_if false = Clean

abbrev pub is_marked : Mark → Bool
is_marked Clean = false
is_marked Dirty = true
is_marked Recalculated = true

abbrev pub flag : List Mark → ℕ → Bool
flag w k = is_marked (mark_at w k)

-- once the cell is worked out
abbrev pub worked_out : Mark → Mark
worked_out Clean = Clean
worked_out Dirty = Recalculated
worked_out Recalculated = Recalculated
