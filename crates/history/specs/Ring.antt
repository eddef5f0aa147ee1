-- Slots in a ring. Assumes nothing: these are definitions.
use Rattle.std.specs.Prelude.{ℕ, zero, suc, ◌+◌, ◌-◌, ◌*◌, cond, List, [], ◌∷◌, nat_le, nat_lt}
use Rattle.recalc.specs.Entries.{with_part}

-- of n slots, the one i slots before slot k, and the one i slots after it
abbrev pub slot_before : ℕ → ℕ → ℕ → ℕ
slot_before n k i = cond (nat_le i k) (k - i) (k + n - i)

abbrev pub slot_after : ℕ → ℕ → ℕ → ℕ
slot_after n k i = cond (nat_lt (k + i) n) (k + i) (k + i - n)

-- g of c numbers, from i on
unfoldable pub listed : (ℕ → List ℕ) → ℕ → ℕ → List (List ℕ)
listed g i zero = []
listed g i (suc c) = g i ∷ listed g (suc i) c

-- what c slots hold, the nearest first: those before slot k, and those after it
abbrev pub before : (ℕ → List ℕ) → ℕ → ℕ → ℕ → List (List ℕ)
before f n k c = listed (λ i. f (slot_before n k i)) 1 c

abbrev pub after : (ℕ → List ℕ) → ℕ → ℕ → ℕ → List (List ℕ)
after f n k c = listed (λ i. f (slot_after n k i)) 1 c

-- a row with other numbers in slot k
abbrev pub with_slot : ℕ → ℕ → List ℕ → List ℕ → List ℕ
with_slot w k ys m = with_part (w * k) w ys m
