-- The numbers and the text of a refusal. Assumes nothing: these are definitions.
use Rattle.std.specs.Prelude.{ℕ, List, ◌++◌, codes, decimal}
use Rattle.recalc.specs.declared.refusal.Refusal.{Refusal}
use Rattle.recalc.specs.declared.refusal.Refusal.TheVariants.{Rows, Columns, Short, Malformed, NoRoom, Outside, NoLine, Full, OnlyLine}

-- its number in the list of refusals
abbrev pub refusal_number : Refusal → ℕ
refusal_number Rows = 1
refusal_number Columns = 1
refusal_number (Short n) = 3
refusal_number (Malformed k) = 4
refusal_number (NoRoom n) = 5
refusal_number Outside = 6
refusal_number NoLine = 7
refusal_number Full = 8
refusal_number OnlyLine = 9

-- and the place that is told with it
abbrev pub refusal_place : Refusal → ℕ
refusal_place Rows = 0
refusal_place Columns = 1
refusal_place (Short n) = n
refusal_place (Malformed k) = k
refusal_place (NoRoom n) = n
refusal_place Outside = 0
refusal_place NoLine = 0
refusal_place Full = 0
refusal_place OnlyLine = 0

abbrev pub refusal_text : Refusal → List ℕ
refusal_text r = codes "refused " ++ (decimal (refusal_number r) ++ (codes " at " ++ decimal (refusal_place r)))
