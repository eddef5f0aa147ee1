-- A sheet of 2 ^ 64 - 1 rows in which an insertion changes what is shown. Assumes nothing.
use Rattle.std.proofs.Common.{◌≡◌, ℕ, ◌-◌, ◌^◌, cond, eqb, Some, None, refl, arith}
use Rattle.formula.specs.Formula.{number}
use Rattle.evaluate.specs.declared.value.Value.TheVariants.{Number}
use Rattle.recalc.specs.Sheets.{Sheet, deep, shown}
use Rattle.recalc.specs.Stair.{ref}
use Rattle.shift.specs.declared.shift.Axis.TheVariants.{Row}
use Rattle.shift.specs.declared.shift.Change.TheVariants.{Insert}
use Rattle.shift.specs.Shifts.{the_shift}
use Rattle.shift.specs.Sheets.{shifted}
use Rattle.shift.specs.Laws.{BoundIsNeeded}

-- the first row names the place below the last, where there is nothing yet; the last holds a number
abbrev tall : Sheet
tall = record { rows = 2 ^ 64 - 1; cols = 1; cells = λ r c. cond (eqb r 0) (Some (ref (2 ^ 64 - 1) 0)) (cond (eqb r (2 ^ 64 - 2)) (Some (number 5)) None) }

-- with a row inserted the last row stands at the place that is named
pub bound_is_needed : BoundIsNeeded
unfolding shifted shown deep
bound_is_needed = (tall, the_shift Row Insert 0, refl, refl, refl, differs)
  where
    differs : Number 5 ≡ Number 0 → ⊥
    differs e = let z : ◌≡◌ {A = ℕ} 0 5 = cc in omega arith
