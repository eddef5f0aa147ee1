-- A cell shows the cycle error exactly if it comes to a cell that comes to itself again: from a cell that shows it, one look after another
-- leads to cells that show it, and there are only so many. Assumes nothing.
use Rattle.std.proofs.Common.{◌≡◌, ℕ, zero, suc, ◌<◌, ◌⊎◌, sym, refl, ap, ◌∙◌, subst, inl, inr, arith}
use Rattle.std.proofs.lemmas.Bool.{cases_lt}
use Rattle.evaluate.specs.declared.value.CellError.TheVariants.{Cycle}
use Rattle.evaluate.specs.declared.value.Value.TheVariants.{Error}
use Rattle.recalc.specs.Language.{Language, Lawful, Leads, one, more, deep, shown}
use Rattle.recalc.specs.Theory.{CycleExactly}
use Rattle.recalc.proofs.Counting.{meets_again}
use Rattle.recalc.proofs.Settling.{cycle_or_not, agrees_deep, settles}

-- one look more
pub leads_on : {looks : ℕ → ℕ → Type 0} {a b c : ℕ} → Leads looks a b → looks b c → Leads looks a c
leads_on (one q) r = more q (one r)
leads_on (more q p) r = more q (leads_on p r)

-- a walk of which each step is a look leads from each step to each later one
walk_leads : {looks : ℕ → ℕ → Type 0} (walk : ℕ → ℕ) → ((i : ℕ) → looks (walk i) (walk (suc i))) → (i j : ℕ) → i < j → Leads looks (walk i) (walk j)
walk_leads walk on i zero h = absurd (omega arith)
walk_leads {looks} walk on i (suc j) h =
    elim (cases_lt i j) [
      | inl k ↦ leads_on (walk_leads walk on i j k) (on j)
      | inr k ↦ let e : j ≡ i = omega arith in subst (λ y. Leads looks (walk y) (walk (suc j))) e (one (on j))
    ]

module _ {l : Language} (ok : Lawful l) where
  -- a cell from which looks lead to one that shows the cycle error shows it
  pub leads_to_cycle : {a b : ℕ} → Leads (l.looks (shown l)) a b → shown l b ≡ Error Cycle → shown l a ≡ Error Cycle
  leads_to_cycle {a} {b} (one q) e = sym (settles ok a) ∙ ok.strict (shown l) a b q e
  leads_to_cycle {a} (more {b = c} q p) e = sym (settles ok a) ∙ ok.strict (shown l) a c q (leads_to_cycle p e)

  -- cells each of which looks at one of them show the cycle error, however deep one looks
  deep_round : (P : ℕ → Type 0) → ((k : ℕ) → P k → (j : ℕ) × P j × l.looks (shown l) k j) → (m k : ℕ) → P k → deep l m k ≡ Error Cycle
  unfolding deep
  deep_round P on zero k y = refl
  deep_round P on (suc m) k y =
      let t = on k y in
      elim (cycle_or_not (l.work (deep l m) k)) [
        | inl e ↦ e
        | inr h ↦
            let same : (j : ℕ) → l.looks (deep l m) k j → deep l m j ≡ shown l j =
            λ j r. sym (agrees_deep ok (shown l) (λ i q. settles ok i) m j (ok.inside (deep l m) k j r) (λ e. h (ok.strict (deep l m) k j r e))) in
            ok.strict (deep l m) k t.0 (ok.looks_local (deep l m) (shown l) k same t.0 t.2) (deep_round P on m t.0 t.1)
      ]

  -- a cell from which looks lead back to itself shows the cycle error
  pub leads_back : (k : ℕ) → Leads (l.looks (shown l)) k k → shown l k ≡ Error Cycle
  unfolding shown
  leads_back k p = deep_round (λ a. Leads (l.looks (shown l)) a k) (λ a q. step q) (suc l.count) k p
    where
      step : {a : ℕ} → Leads (l.looks (shown l)) a k → (j : ℕ) × Leads (l.looks (shown l)) j k × l.looks (shown l) a j
      step (one q) = (k, p, q)
      step (more {b = b} q r) = (b, r, q)

  -- a cell that shows the cycle error looks at one that shows it
  next : (k : ℕ) → shown l k ≡ Error Cycle → (j : ℕ) × l.looks (shown l) k j × (shown l j ≡ Error Cycle)
  next k e = ok.source (shown l) k (settles ok k ∙ e)

  -- and so on: the cell after so many looks
  way : (k : ℕ) → shown l k ≡ Error Cycle → ℕ → (j : ℕ) × (shown l j ≡ Error Cycle)
  way k e zero = (k, e)
  way k e (suc i) = let w = way k e i in let t = next w.0 w.1 in (t.0, t.2)

  -- there are only so many, so the looks lead to a cell again
  pub cycle_leads : (k : ℕ) → shown l k ≡ Error Cycle → (q : ℕ) × Leads (l.looks (shown l)) k q × Leads (l.looks (shown l)) q q
  unfolding way
  cycle_leads k e =
      let again = meets_again (λ i. cell (suc i)) l.count (λ i. ok.inside (shown l) (cell i) (cell (suc i)) (on i)) in
      let i = again.0 in
      let j = again.1 in
      let ahead : Leads (l.looks (shown l)) (cell (suc i)) (cell (suc j)) = walk_leads cell on (suc i) (suc j) (omega (arith, again.2)) in
      (cell (suc i), walk_leads cell on 0 (suc i) (omega arith), subst (Leads (l.looks (shown l)) (cell (suc i))) (sym again.3) ahead)
    where
      cell : ℕ → ℕ
      cell i = (way k e i).0

      on : (i : ℕ) → l.looks (shown l) (cell i) (cell (suc i))
      on i = let w = way k e i in (next w.0 w.1).1

  -- both ways together
  pub cycle_exactly : CycleExactly l
  cycle_exactly k = (forth, back)
    where
      forth : shown l k ≡ Error Cycle → (q : ℕ) × ((k ≡ q) ⊎ Leads (l.looks (shown l)) k q) × Leads (l.looks (shown l)) q q
      forth e = let t = cycle_leads k e in (t.0, inr t.1, t.2)

      back : (q : ℕ) → (k ≡ q) ⊎ Leads (l.looks (shown l)) k q → Leads (l.looks (shown l)) q q → shown l k ≡ Error Cycle
      back q (inl e) r = ap (shown l) e ∙ leads_back q r
      back q (inr p) r = leads_to_cycle p (leads_back q r)
