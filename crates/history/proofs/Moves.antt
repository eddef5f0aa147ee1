-- What each step of the cursor makes of what is kept. Assumes nothing.
use Rattle.std.proofs.Common.{◌≡◌, ℕ, zero, suc, ◌+◌, ◌-◌, ◌*◌, ◌≤◌, min, List, [], ◌∷◌, length, take, sym, ap, ◌∙◌, mul-le-mul_left, arith}
use Rattle.std.proofs.lemmas.Bool.Decides.{nat_tests}
use Rattle.recalc.specs.Entries.{entry}
use Rattle.history.specs.Ring.{slot_before, slot_after, listed, before, after, with_slot}
use Rattle.history.specs.declared.history.History.{History}
use Rattle.history.specs.Kept.{Kept, advanced, undone_to, undone, redone_to, redone, kept, Roomy}
use Rattle.history.proofs.Rings.{before_previous, after_previous, after_next, before_next, apart, none_before, none_after, one_on, listed_same, listed_take}
use Rattle.history.proofs.Slots.{slot_there, slot_other}

-- what is kept, by the numbers of a cursor
abbrev pub ring : (ℕ → List ℕ) → ℕ → ℕ → ℕ → ℕ → Kept
ring f steps k p a = record { current = f k; past = before f (1 + steps) k p; to_come = after f (1 + steps) k a; steps = steps }

module _ (f : ℕ → List ℕ) (steps k : ℕ) (l : k ≤ steps) where
  abbrev n : ℕ
  n = 1 + steps

  pub undone_ring : (p a : ℕ) → suc p + a ≤ steps → ring f steps (slot_before n k 1) p (suc a) ≡ undone (ring f steps k (suc p) a)
  unfolding listed
  undone_ring p a h = λ i. record {
    current = f (slot_before n k 1);
    past = one_on (λ j. f (slot_before n (slot_before n k 1) j)) (λ j. f (slot_before n k j)) n (λ j r. ap f (before_previous n k j (omega arith) r)) 1 p (omega arith) i;
    to_come =
        (sym (one_on (λ j. f (slot_after n k j)) (λ j. f (slot_after n (slot_before n k 1) j)) n (λ j r. ap f (after_previous n k j (omega arith) r)) 0 (suc a) (omega arith))
        ∙ (λ j. f (none_after n k (omega arith) j) ∷ after f n k a)) i;
    steps = steps;
  }

  pub redone_ring : (p a : ℕ) → p + suc a ≤ steps → ring f steps (slot_after n k 1) (suc p) a ≡ redone (ring f steps k p (suc a))
  unfolding listed
  redone_ring p a h = λ i. record {
    current = f (slot_after n k 1);
    past =
        (sym (one_on (λ j. f (slot_before n k j)) (λ j. f (slot_before n (slot_after n k 1) j)) n (λ j r. ap f (before_next n k j (omega arith) r)) 0 (suc p) (omega arith))
        ∙ (λ j. f (none_before n k (omega arith) j) ∷ before f n k p)) i;
    to_come = one_on (λ j. f (slot_after n (slot_after n k 1) j)) (λ j. f (slot_after n k j)) n (λ j r. ap f (after_next n k j (omega arith) r)) 1 a (omega arith) i;
    steps = steps;
  }

-- what is before the next slot, where all but that is as it was
past_moved : (f g : ℕ → List ℕ) (steps k p : ℕ) → k ≤ steps → ((i : ℕ) → (i ≡ slot_after (1 + steps) k 1 → ⊥) → f i ≡ g i)
    → before g (1 + steps) (slot_after (1 + steps) k 1) (min steps (p + 1)) ≡ take steps (f k ∷ before f (1 + steps) k p)
unfolding listed
past_moved f g zero k p l other = let e : min 0 (p + 1) ≡ 0 = omega arith in ap (before g (1 + 0) (slot_after (1 + 0) k 1)) e
past_moved f g (suc q) k p l other =
    let n = 1 + suc q in
    let c = min q p in
    let e : min (suc q) (p + 1) ≡ suc c = omega arith in
    let here = none_before n k (omega arith) in
    ap (before g n (slot_after n k 1)) e
    ∙ sym (one_on (λ j. g (slot_before n k j)) (λ j. g (slot_before n (slot_after n k 1) j)) n (λ j r. ap g (before_next n k j (omega arith) r)) 0 (suc c) (omega arith))
    ∙ sym (listed_same (λ j. f (slot_before n k j)) (λ j. g (slot_before n k j)) (1 + q) (λ j r. other (slot_before n k j) (apart n k j (omega arith) (omega arith))) 0 (suc c) (omega arith))
    ∙ (λ j. f (here j) ∷ sym (listed_take (λ i. f (slot_before n k i)) 1 q p) j)

-- where all but the next slot is as it was, and that is the current one now
pub advanced_ring : (f g : ℕ → List ℕ) (steps k : ℕ) (xs : List ℕ) (p a : ℕ) → k ≤ steps → g (slot_after (1 + steps) k 1) ≡ xs → ((i : ℕ) → (i ≡ slot_after (1 + steps) k 1 → ⊥) → f i ≡ g i)
    → ring g steps (slot_after (1 + steps) k 1) (min steps (p + 1)) 0 ≡ advanced (ring f steps k p a) xs
unfolding listed
advanced_ring f g steps k xs p a l there other = λ i. record { current = there i; past = past_moved f g steps k p l other i; to_come = []; steps = steps }

-- the cursor after each step
module _ (h : History) (m : List ℕ) (k p a : ℕ) where
  abbrev f : ℕ → List ℕ
  f j = entry h.width j m

  pub kept_undone : k ≡ slot_before (1 + h.steps) h.at 1 → p ≡ h.past - 1 → a ≡ h.to_come + 1 → 1 ≤ h.past → ring f h.steps k p a ≡ undone (kept h m)
  kept_undone x y z l =
      let e : suc p ≡ h.past = omega arith in
      let q : a ≡ suc h.to_come = omega arith in
      (λ i. ring f h.steps (x i) p (q i))
      ∙ undone_ring f h.steps h.at h.there p h.to_come (omega (arith, h.few))
      ∙ ap (λ i. undone (ring f h.steps h.at i h.to_come)) e

  pub kept_redone : k ≡ slot_after (1 + h.steps) h.at 1 → p ≡ h.past + 1 → a ≡ h.to_come - 1 → 1 ≤ h.to_come → ring f h.steps k p a ≡ redone (kept h m)
  kept_redone x y z l =
      let e : suc a ≡ h.to_come = omega arith in
      let q : p ≡ suc h.past = omega arith in
      (λ i. ring f h.steps (x i) (q i) a)
      ∙ redone_ring f h.steps h.at h.there h.past a (omega (arith, h.few))
      ∙ ap (λ i. redone (ring f h.steps h.at h.past i)) e

-- whatever stands in the next slot
pub advances : (h : History) (k p : ℕ) → k ≡ slot_after (1 + h.steps) h.at 1 → p ≡ min h.steps (h.past + 1) → (m xs : List ℕ) → Roomy h m → length xs ≡ h.width
    → ring (λ i. entry h.width i (with_slot h.width (slot_after (1 + h.steps) h.at 1) xs m)) h.steps k p 0 ≡ advanced (kept h m) xs
advances h k p x y m xs room long =
    let j = slot_after (1 + h.steps) h.at 1 in
    let next = with_slot h.width j xs m in
    let l : suc j ≤ 1 + h.steps = next_there h.steps h.at h.there in
    let roomy : h.width * suc j ≤ length m = omega (arith, room, mul-le-mul_left h.width l) in
    (λ i. ring (λ q. entry h.width q next) h.steps (x i) (y i) 0)
    ∙ advanced_ring (λ i. entry h.width i m) (λ i. entry h.width i next) h.steps h.at xs h.past h.to_come h.there
    (slot_there h.width j xs m long roomy) (λ i ne. sym (slot_other h.width j xs m long roomy i ne))
  where
    next_there : (s k : ℕ) → k ≤ s → suc (slot_after (1 + s) k 1) ≤ 1 + s
    next_there s k u = grind (arith, nat_tests)

-- where there is nothing, nothing changes
pub undone_none : (b : Kept) → b.past ≡ [] → b ≡ undone b
undone_none b e = sym (ap (λ ss. undone_to ss b) e)

pub redone_none : (b : Kept) → b.to_come ≡ [] → b ≡ redone b
redone_none b e = sym (ap (λ ss. redone_to ss b) e)
