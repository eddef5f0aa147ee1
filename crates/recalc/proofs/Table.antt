-- The table of a recalculation, with one entry set, and how many cells wait. Assumes nothing.
use Rattle.std.proofs.Common.{◌≡◌, ℕ, zero, suc, ◌+◌, ◌<◌, ◌≤◌, ◌≢◌, List, [], ◌∷◌, length, get_or, set, replicate, sym, refl, ap, subst, ⊎_elim, arith}
use Rattle.std.proofs.lemmas.List.{length-replicate, get_or-replicate, get_or-set_same, get_or-set_other, get_or_past}
use Rattle.std.proofs.lemmas.Bool.{cases_eq, cases_lt}
use Rattle.evaluate.specs.declared.value.Value.{Value}
use Rattle.recalc.specs.declared.formulas.Progress.{Progress}
use Rattle.recalc.specs.declared.formulas.Progress.TheVariants.{Waiting, Open, Known}
use Rattle.recalc.specs.Table.{at, Later, waiting}

-- what is not waiting lies in the table
pub inside : (t : List Progress) (k : ℕ) → (at t k ≡ Waiting → ⊥) → k < length t
inside t k h = ⊎_elim (λ l. l) (λ l. absurd (h (get_or_past t k Waiting l))) (cases_lt k (length t))

pub open_inside : (t : List Progress) (k i : ℕ) → at t k ≡ Open i → k < length t
open_inside t k i e = inside t k (λ w. let z : ◌≡◌ {A = ℕ} 0 1 = cc in omega arith)

-- what neither waits nor is known is open
pub open_else : (p : Progress) → (p ≡ Waiting → ⊥) → ((v : Value) → p ≡ Known v → ⊥) → (i : ℕ) × (p ≡ Open i)
open_else Waiting w n = absurd (w refl)
open_else (Open i) w n = (i, refl)
open_else (Known v) w n = absurd (n v refl)

-- one entry of a list is set, and k is asked about
pub by_entry : {A : Type 0} (d : A) (xs : List A) (j : ℕ) (x : A) (P : ℕ → A → Type 0) → j < length xs → P j x → ((k : ℕ) → k ≢ j → P k (get_or xs k d)) → (k : ℕ) → P k (get_or (set xs j x) k d)
by_entry d xs j x P l here there k =
    ⊎_elim
    (λ e. subst (λ n. P n (get_or (set xs j x) n d)) (sym e) (subst (P j) (sym (get_or-set_same xs j x d l)) here))
    (λ ne. subst (P k) (sym (get_or-set_other xs j k x d ne)) (there k ne))
    (cases_eq k j)

pub waiting_less : (t : List Progress) (k : ℕ) (x : Progress) → k < length t → at t k ≡ Waiting → (x ≡ Waiting → ⊥) → waiting (set t k x) + 1 ≡ waiting t
unfolding waiting
waiting_less [] k x l e h = omega arith
waiting_less (Waiting ∷ t) zero Waiting l e h = absurd (h refl)
waiting_less (Waiting ∷ t) zero (Open i) l e h = omega arith
waiting_less (Waiting ∷ t) zero (Known v) l e h = omega arith
waiting_less (Open i ∷ t) zero x l e h = let z : ◌≡◌ {A = ℕ} 0 1 = cc in omega arith
waiting_less (Known v ∷ t) zero x l e h = let z : ◌≡◌ {A = ℕ} 0 1 = cc in omega arith
waiting_less (Waiting ∷ t) (suc k) x l e h = omega (arith, waiting_less t k x (omega arith) e h)
waiting_less (Open i ∷ t) (suc k) x l e h = waiting_less t k x (omega arith) e h
waiting_less (Known v ∷ t) (suc k) x l e h = waiting_less t k x (omega arith) e h

pub waiting_same : (t : List Progress) (k : ℕ) (x : Progress) → (at t k ≡ Waiting → ⊥) → (x ≡ Waiting → ⊥) → waiting (set t k x) ≡ waiting t
unfolding waiting
waiting_same [] k x e h = refl
waiting_same (Waiting ∷ t) zero x e h = absurd (e refl)
waiting_same (Open i ∷ t) zero Waiting e h = absurd (h refl)
waiting_same (Open i ∷ t) zero (Open j) e h = refl
waiting_same (Open i ∷ t) zero (Known v) e h = refl
waiting_same (Known v ∷ t) zero Waiting e h = absurd (h refl)
waiting_same (Known v ∷ t) zero (Open j) e h = refl
waiting_same (Known v ∷ t) zero (Known w) e h = refl
waiting_same (Waiting ∷ t) (suc k) x e h = ap suc (waiting_same t k x e h)
waiting_same (Open i ∷ t) (suc k) x e h = waiting_same t k x e h
waiting_same (Known v ∷ t) (suc k) x e h = waiting_same t k x e h

-- nothing becomes waiting by a set to what is not
pub later_set : (t : List Progress) (j : ℕ) (x : Progress) → j < length t → (x ≡ Waiting → ⊥) → Later t (set t j x)
later_set t j x l h = by_entry Waiting t j x (λ k y. y ≡ Waiting → at t k ≡ Waiting) l (λ e. absurd (h e)) (λ k ne e. e)

pub waiting_all : (n : ℕ) → waiting (replicate n Waiting) ≡ n
unfolding waiting
waiting_all zero = refl
waiting_all (suc n) = ap suc (waiting_all n)

pub open_not : (i : ℕ) → Open i ≡ Waiting → ⊥
open_not i e = let z : ◌≡◌ {A = ℕ} 0 1 = cc in omega arith

pub known_not : (v : Value) → Known v ≡ Waiting → ⊥
known_not v e = let z : ◌≡◌ {A = ℕ} 0 1 = cc in omega arith

-- no cell more waits where one becomes known
pub waiting_known : (t : List Progress) (k : ℕ) (v : Value) → waiting (set t k (Known v)) ≤ waiting t
unfolding waiting
waiting_known [] k v = omega arith
waiting_known (Waiting ∷ t) zero v = omega arith
waiting_known (Open i ∷ t) zero v = omega arith
waiting_known (Known u ∷ t) zero v = omega arith
waiting_known (Waiting ∷ t) (suc k) v = omega (arith, waiting_known t k v)
waiting_known (Open i ∷ t) (suc k) v = waiting_known t k v
waiting_known (Known u ∷ t) (suc k) v = waiting_known t k v

pub all_waiting : (n k : ℕ) → at (replicate n Waiting) k ≡ Waiting
all_waiting n k =
    ⊎_elim (λ l. get_or-replicate n k Waiting Waiting l) (λ l. get_or_past (replicate n Waiting) k Waiting (simp length-replicate l)) (cases_lt k n)
