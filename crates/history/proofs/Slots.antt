-- A row in which one slot has other numbers. Assumes nothing.
use Rattle.std.proofs.Common.{◌≡◌, ℕ, suc, ◌+◌, ◌*◌, ◌≤◌, ◌⊎◌, List, length, inl, inr, mul-suc, arith}
use Rattle.recalc.specs.Entries.{entry}
use Rattle.recalc.proofs.Entries.{part_there, part_other, entries_apart}
use Rattle.history.specs.Ring.{with_slot}

module _ (w j : ℕ) (xs m : List ℕ) (long : length xs ≡ w) (room : w * suc j ≤ length m) where
  pub slot_there : entry w j (with_slot w j xs m) ≡ xs
  slot_there = part_there (w * j) w xs m long (omega (arith, mul-suc w j))

  pub slot_other : (i : ℕ) → (i ≡ j → ⊥) → entry w i (with_slot w j xs m) ≡ entry w i m
  slot_other i ne = part_other (w * j) w xs m long (omega (arith, mul-suc w j)) (w * i) (go (entries_apart 0 w i j ne))
    where
      go : (0 + w * i + w ≤ 0 + w * j) ⊎ (0 + w * j + w ≤ 0 + w * i) → (w * i + w ≤ w * j) ⊎ (w * j + w ≤ w * i)
      go (inl h) = inl (omega (arith, h))
      go (inr h) = inr (omega (arith, h))
