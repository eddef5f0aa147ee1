use Rattle.std.proofs.Common.{◌≡◌, vec_items}
use Rattle.recalc.specs.Layout.{cols_in}
use Rattle.edit.specs.Places.{places_from}
use Rattle.edit.specs.Values.{formula_marked}
use Rattle.edit.proofs.formulas.list_recalculated.Given as goal

-- the marked formulas before k are listed
abbrev pub invariant-loop-k : goal.invariant-loop-k
invariant-loop-k l =
    vec_items l.list.places ≡ places_from (cols_in l.sheet.nums.now) (formula_marked l.sheet.nums.now l.marks) 0 l.k
