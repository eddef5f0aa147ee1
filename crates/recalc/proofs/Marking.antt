-- What becomes of a mark. Assumes nothing.
use Rattle.std.proofs.Common.{◌≡◌, ℕ, zero, suc, ◌+◌, ◌<◌, ◌≢◌, Bool, true, false, List, [], ◌∷◌, length, set, refl, arith}
use Rattle.recalc.specs.declared.mark.Mark.{Mark}
use Rattle.recalc.specs.declared.mark.Mark.TheVariants.{Clean, Dirty, Recalculated}
use Rattle.recalc.specs.Marks.{mark_at, mark_if, is_marked, flag, worked_out}
use Rattle.recalc.specs.Change.{unmarked_one, unmarked}
use Rattle.recalc.proofs.Table.{by_entry}

pub dirty_not : Dirty ≢ Recalculated
dirty_not e = cc

-- it stays marked or unmarked when the cell is worked out
pub worked_marked : (m : Mark) → is_marked (worked_out m) ≡ is_marked m
worked_marked Clean = refl
worked_marked Dirty = refl
worked_marked Recalculated = refl

pub worked_unmarked : (m : Mark) → unmarked_one (worked_out m) ≡ unmarked_one m
worked_unmarked Clean = refl
worked_unmarked Dirty = refl
worked_unmarked Recalculated = refl

-- and nothing is left to do
pub worked_not_dirty : (m : Mark) → worked_out m ≢ Dirty
worked_not_dirty Clean e = cc
worked_not_dirty Dirty e = cc
worked_not_dirty Recalculated e = cc

pub marked_done : (m : Mark) → is_marked m ≡ true → m ≢ Dirty → m ≡ Recalculated
marked_done Clean e n = absurd (cc)
marked_done Dirty e n = absurd (n refl)
marked_done Recalculated e n = refl

pub unmarked_counts : (m : Mark) → is_marked m ≡ false → unmarked_one m ≡ 1
unmarked_counts Clean e = refl
unmarked_counts Dirty e = absurd (cc)
unmarked_counts Recalculated e = absurd (cc)

-- a cell is marked at first if it is written
pub first_marked : (b : Bool) → is_marked (mark_if b) ≡ b
first_marked true = refl
first_marked false = refl

pub first_undone : (b : Bool) → mark_if b ≢ Recalculated
first_undone true e = cc
first_undone false e = cc

-- one mark set
pub unmarked_set : (w : List Mark) (k : ℕ) (m : Mark) → k < length w → unmarked (set w k m) + unmarked_one (mark_at w k) ≡ unmarked w + unmarked_one m
unfolding unmarked
unmarked_set [] k m l = omega arith
unmarked_set (b ∷ w) zero m l = omega arith
unmarked_set (b ∷ w) (suc k) m l = omega (arith, unmarked_set w k m (omega arith))

pub flag_worked : (w : List Mark) (k : ℕ) → k < length w → (j : ℕ) → flag (set w k (worked_out (mark_at w k))) j ≡ flag w j
flag_worked w k l = by_entry Clean w k (worked_out (mark_at w k)) (λ j y. is_marked y ≡ flag w j) l (worked_marked (mark_at w k)) (λ j ne. refl)
