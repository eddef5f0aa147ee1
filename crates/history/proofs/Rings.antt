-- The slots of a ring as they are counted from another one. Assumes nothing.
use Rattle.std.proofs.Common.{◌≡◌, ℕ, zero, suc, ◌+◌, ◌<◌, ◌≤◌, min, List, [], ◌∷◌, take, refl, ap, ◌∙◌, arith}
use Rattle.std.proofs.lemmas.Bool.Decides.{nat_tests}
use Rattle.history.specs.Ring.{slot_before, slot_after, listed}

-- counted from the slot before
pub before_previous : (n k i : ℕ) → k < n → suc i ≤ n → slot_before n (slot_before n k 1) i ≡ slot_before n k (suc i)
before_previous n k i l h = grind (arith, nat_tests)

pub after_previous : (n k i : ℕ) → k < n → suc i ≤ n → slot_after n k i ≡ slot_after n (slot_before n k 1) (suc i)
after_previous n k i l h = grind (arith, nat_tests)

-- and from the slot after
pub after_next : (n k i : ℕ) → k < n → suc i ≤ n → slot_after n (slot_after n k 1) i ≡ slot_after n k (suc i)
after_next n k i l h = grind (arith, nat_tests)

pub before_next : (n k i : ℕ) → k < n → suc i ≤ n → slot_before n k i ≡ slot_before n (slot_after n k 1) (suc i)
before_next n k i l h = grind (arith, nat_tests)

-- no slot before but the last is the next one
pub apart : (n k i : ℕ) → k < n → suc i < n → slot_before n k i ≡ slot_after n k 1 → ⊥
apart n k i l h e = grind (arith, nat_tests)

pub none_before : (n k : ℕ) → k < n → slot_before n k 0 ≡ k
none_before n k l = grind (arith, nat_tests)

pub none_after : (n k : ℕ) → k < n → slot_after n k 0 ≡ k
none_after n k l = grind (arith, nat_tests)

-- the same, counted from one further on
pub one_on : (g h : ℕ → List ℕ) (n : ℕ) → ((i : ℕ) → suc i ≤ n → g i ≡ h (suc i)) → (i c : ℕ) → i + c ≤ n → listed g i c ≡ listed h (suc i) c
unfolding listed
one_on g h n e i zero l = refl
one_on g h n e i (suc c) l = (λ j. e i (omega arith) j ∷ one_on g h n e (suc i) c (omega arith) j)

pub listed_same : (g h : ℕ → List ℕ) (n : ℕ) → ((i : ℕ) → i < n → g i ≡ h i) → (i c : ℕ) → i + c ≤ n → listed g i c ≡ listed h i c
unfolding listed
listed_same g h n e i zero l = refl
listed_same g h n e i (suc c) l = (λ j. e i (omega arith) j ∷ listed_same g h n e (suc i) c (omega arith) j)

-- the nearest of them
pub listed_take : (g : ℕ → List ℕ) (i b c : ℕ) → take b (listed g i c) ≡ listed g i (min b c)
unfolding listed
listed_take g i zero c = let e : 0 ≡ min 0 c = omega arith in ap (listed g i) e
listed_take g i (suc b) zero = let e : 0 ≡ min (suc b) 0 = omega arith in ap (listed g i) e
listed_take g i (suc b) (suc c) =
    let e : suc (min b c) ≡ min (suc b) (suc c) = omega arith in
    (λ j. g i ∷ listed_take g (suc i) b c j) ∙ ap (listed g i) e

-- there are none exactly if they are to be none
pub listed_none : (g : ℕ → List ℕ) (i c : ℕ) → c ≡ 0 → listed g i c ≡ []
unfolding listed
listed_none g i c e = ap (listed g i) e

pub listed_some : (g : ℕ → List ℕ) (i c : ℕ) → 1 ≤ c → listed g i c ≡ [] → ⊥
unfolding listed
listed_some g i zero l e = absurd (omega arith)
listed_some g i (suc c) l e = cc
