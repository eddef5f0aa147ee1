-- Looking deeper, a cell changes at most once, from the cycle error to what it shows: so at some depth nothing changes any more. Assumes nothing.
use Rattle.std.proofs.Common.{◌≡◌, ℕ, zero, suc, ◌+◌, ◌-◌, ◌<◌, ◌≤◌, ◌⊎◌, sym, refl, ap, ◌∙◌, inl, inr, arith}
use Rattle.evaluate.specs.declared.value.CellError.TheVariants.{DivideByZero, OutOfRange, Lost, Cycle}
use Rattle.evaluate.specs.declared.value.Value.{Value}
use Rattle.evaluate.specs.declared.value.Value.TheVariants.{Empty, Number, Error}
use Rattle.recalc.specs.Language.{Language, Lawful, deep, shown}
use Rattle.recalc.specs.Theory.{Settles, Deeper, OnlyAnswer, UnchangedStays}
use Rattle.recalc.proofs.Counting.{stops_growing}

-- a value is the cycle error or is not
pub cycle_or_not : (v : Value) → (v ≡ Error Cycle) ⊎ (v ≡ Error Cycle → ⊥)
cycle_or_not Empty = inr (λ e. let z : ◌≡◌ {A = ℕ} 0 1 = cc in omega arith)
cycle_or_not (Number n) = inr (λ e. let z : ◌≡◌ {A = ℕ} 0 1 = cc in omega arith)
cycle_or_not (Error DivideByZero) = inr (λ e. let z : ◌≡◌ {A = ℕ} 0 1 = cc in omega arith)
cycle_or_not (Error OutOfRange) = inr (λ e. let z : ◌≡◌ {A = ℕ} 0 1 = cc in omega arith)
cycle_or_not (Error Lost) = inr (λ e. let z : ◌≡◌ {A = ℕ} 0 1 = cc in omega arith)
cycle_or_not (Error Cycle) = inl refl

-- at depth m cell k no longer shows the cycle error
Done : Language → ℕ → ℕ → Type 0
Done l m k = deep l m k ≡ Error Cycle → ⊥

module _ {l : Language} (ok : Lawful l) where
  -- it can be told which cells these are
  done_or_not : (m k : ℕ) → Done l m k ⊎ (Done l m k → ⊥)
  unfolding Done
  done_or_not m k = elim (cycle_or_not (deep l m k)) [ inl e ↦ inr (λ d. d e) | inr d ↦ inl d ]

  -- such a cell shows the same one look deeper
  done_same : (m k : ℕ) → Done l m k → deep l (suc m) k ≡ deep l m k
  unfolding Done deep
  done_same zero k d = absurd (d refl)
  done_same (suc m) k d = sym (ok.local (deep l m) (deep l (suc m)) k (λ j q. sym (done_same m j (λ e. d (ok.strict (deep l m) k j q e)))))

  -- so these cells are a set that only grows
  done_later : (m k : ℕ) → Done l m k → Done l (suc m) k
  unfolding Done
  done_later m k d e = d (sym (done_same m k d) ∙ e)

  -- where nothing changes from one depth to the next, nothing changes any more
  same_on : (m : ℕ) → ((j : ℕ) → j < l.count → deep l (suc m) j ≡ deep l m j) → (d k : ℕ) → k < l.count → deep l (d + m) k ≡ deep l m k
  unfolding deep
  same_on m h zero k q = ap (λ i. deep l i k) (omega arith)
  same_on m h (suc d) k q =
      let z : suc d + m ≡ suc (d + m) = omega arith in
      ap (λ i. deep l i k) z ∙ ok.local (deep l (d + m)) (deep l m) k (λ j r. same_on m h d j (ok.inside (deep l (d + m)) k j r)) ∙ h k q

  -- as deep as there are cells is deep enough for each of them
  enough : (p k : ℕ) → l.count ≤ p → k < l.count → deep l p k ≡ deep l l.count k
  unfolding Done
  enough p k h q = from p h ∙ sym (from l.count (omega arith))
    where
      stop : (m : ℕ) × (m ≤ l.count) × ((j : ℕ) → j < l.count → Done l (suc m) j → Done l m j)
      stop = stops_growing (Done l) done_or_not done_later l.count

      m : ℕ
      m = stop.0

      still : (j : ℕ) → j < l.count → deep l (suc m) j ≡ deep l m j
      still j r =
          elim (cycle_or_not (deep l m j)) [
            | inr d ↦ done_same m j d
            | inl e ↦ elim (cycle_or_not (deep l (suc m) j)) [ inl e₁ ↦ e₁ ∙ sym e | inr d ↦ absurd (stop.2 j r d e) ]
          ]

      from : (i : ℕ) → l.count ≤ i → deep l i k ≡ deep l m k
      from i le = let z : i ≡ (i - m) + m = omega (arith, stop.1) in ap (λ y. deep l y k) z ∙ same_on m still (i - m) k q

  -- and one look more is deep enough for whatever looks at them
  pub deeper : Deeper l
  unfolding deep shown
  deeper zero k h = absurd (omega arith)
  deeper (suc m) k h = ok.local (deep l m) (deep l l.count) k (λ j q. enough m j (omega arith) (ok.inside (deep l m) k j q))

  -- what is made of what is shown is what is shown one look deeper
  pub settles : Settles l
  unfolding deep shown
  settles k = deeper (suc (suc l.count)) k (omega arith)

  -- a cell comes to the same from any values that agree where it looks
  pub unchanged_stays : UnchangedStays l
  unchanged_stays f k same = sym (ok.local (shown l) f k same) ∙ settles k

  -- what agrees with itself is what is shown at any depth without a cycle
  pub agrees_deep : (f : ℕ → Value) → ((k : ℕ) → k < l.count → l.work f k ≡ f k)
      → (m k : ℕ) → k < l.count → (deep l m k ≡ Error Cycle → ⊥) → f k ≡ deep l m k
  unfolding deep
  agrees_deep f agrees zero k q h = absurd (h refl)
  agrees_deep f agrees (suc m) k q h =
      sym (agrees k q)
      ∙ sym (ok.local (deep l m) f k (λ j r. sym (agrees_deep f agrees m j (ok.inside (deep l m) k j r) (λ e. h (ok.strict (deep l m) k j r e)))))

  -- and so it is what is shown
  pub only_answer : OnlyAnswer l
  unfolding shown
  only_answer f agrees k q h = agrees_deep f agrees (suc l.count) k q h
