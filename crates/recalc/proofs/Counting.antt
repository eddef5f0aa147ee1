-- Numbers below a bound are only so many: a set of them cannot grow for ever, and a walk among them meets one again. Assumes nothing.
use Rattle.std.proofs.Common.{◌≡◌, ℕ, zero, suc, ◌+◌, ◌<◌, ◌≤◌, ◌⊎◌, sym, refl, subst, inl, inr, arith}
use Rattle.std.proofs.lemmas.Bool.{cases_lt, cases_eq}

-- 1 for what holds
one_if : {A : Type 0} → A ⊎ (A → ⊥) → ℕ
one_if (inl a) = 1
one_if (inr a) = 0

-- what holds counts for one at most
one_most : {A : Type 0} (d : A ⊎ (A → ⊥)) → one_if d ≤ 1
unfolding one_if
one_most (inl a) = omega arith
one_most (inr a) = omega arith

-- what follows from it counts for no less
one_less : {A B : Type 0} (d : A ⊎ (A → ⊥)) (e : B ⊎ (B → ⊥)) → (A → B) → one_if d ≤ one_if e
unfolding one_if
one_less (inr a) e h = omega arith
one_less (inl a) (inl b) h = omega arith
one_less (inl a) (inr b) h = absurd (b (h a))

-- and what counts for no more follows
one_back : {A B : Type 0} (d : A ⊎ (A → ⊥)) (e : B ⊎ (B → ⊥)) → one_if e ≤ one_if d → B → A
unfolding one_if
one_back (inl a) e h b = a
one_back (inr a) (inl b) h c = absurd (omega arith)
one_back (inr a) (inr b) h c = absurd (b c)

-- a set that only grows, step by step
module _ (P : ℕ → ℕ → Type 0) (either : (m j : ℕ) → P m j ⊎ (P m j → ⊥)) (kept : (m j : ℕ) → P m j → P (suc m) j) where
  -- how many numbers below n it has at step m
  size : ℕ → ℕ → ℕ
  size m zero = 0
  size m (suc n) = one_if (either m n) + size m n

  -- no more than there are
  size_most : (m n : ℕ) → size m n ≤ n
  unfolding size
  size_most m zero = omega arith
  size_most m (suc n) = omega (arith, one_most (either m n), size_most m n)

  -- a later step has no fewer
  size_less : (m n : ℕ) → size m n ≤ size (suc m) n
  unfolding size
  size_less m zero = omega arith
  size_less m (suc n) = omega (arith, one_less (either m n) (either (suc m) n) (kept m n), size_less m n)

  -- a step at which it has no more numbers adds none
  size_back : (m n : ℕ) → size (suc m) n ≤ size m n → (j : ℕ) → j < n → P (suc m) j → P m j
  unfolding size
  size_back m zero h j l p = absurd (omega arith)
  size_back m (suc n) h j l p =
      let more = one_less (either m n) (either (suc m) n) (kept m n) in
      elim (cases_lt j n) [
        | inl k ↦ size_back m n (omega arith) j k p
        | inr k ↦
            let e : n ≡ j = omega arith in
            let le : one_if (either (suc m) n) ≤ one_if (either m n) = omega (arith, size_less m n) in
            subst (P m) e (one_back (either m n) (either (suc m) n) le (subst (P (suc m)) (sym e) p))
      ]

  -- until a step adds nothing, each adds one at least
  grows : (n m : ℕ) → ((i : ℕ) × (i < m) × ((j : ℕ) → j < n → P (suc i) j → P i j)) ⊎ (m ≤ size m n)
  grows n zero = inr (omega arith)
  grows n (suc m) =
      elim (grows n m) [
        | inl t ↦ inl (t.0, omega (arith, t.1), t.2)
        | inr l ↦
            elim (cases_lt (size m n) (size (suc m) n)) [
              | inl k ↦ inr (omega arith)
              | inr k ↦ inl (m, omega arith, size_back m n k)
            ]
      ]

  -- one of the first n + 1 steps adds no number below n
  pub stops_growing : (n : ℕ) → (m : ℕ) × (m ≤ n) × ((j : ℕ) → j < n → P (suc m) j → P m j)
  stops_growing n =
      elim (grows n (suc n)) [
        | inl t ↦ (t.0, omega (arith, t.1), t.2)
        | inr l ↦ absurd (omega (arith, size_most (suc n) n))
      ]

-- a walk from number to number
module _ (walk : ℕ → ℕ) where
  -- it met j before step m
  Met : ℕ → ℕ → Type 0
  Met m j = (i : ℕ) × (i < m) × (walk i ≡ j)

  -- what it met it has met for good
  met_later : (m j : ℕ) → Met m j → Met (suc m) j
  unfolding Met
  met_later m j t = (t.0, omega (arith, t.1), t.2)

  -- and it can be told whether it met j: so the numbers that it met are a set that only grows
  met_or_not : (m j : ℕ) → Met m j ⊎ (Met m j → ⊥)
  unfolding Met
  met_or_not zero j = inr (λ t. omega (arith, t.1))
  met_or_not (suc m) j =
      elim (met_or_not m j) [
        | inl t ↦ inl (met_later m j t)
        | inr new ↦
            elim (cases_eq (walk m) j) [
              | inl e ↦ inl (m, omega arith, e)
              | inr other ↦
                  inr
                  (λ t.
                  elim (cases_lt t.0 m) [
                    | inl k ↦ new (t.0, k, t.2)
                    | inr k ↦ let e : t.0 ≡ m = omega (arith, t.1) in other (subst (λ i. walk i ≡ j) e t.2)
                  ])
            ]
      ]

  -- among the numbers below n it comes to one that it met before
  pub meets_again : (n : ℕ) → ((i : ℕ) → walk i < n) → (i j : ℕ) × (i < j) × (walk i ≡ walk j)
  unfolding Met
  meets_again n within =
      let s = stops_growing Met met_or_not met_later n in
      let t = s.2 (walk s.0) (within s.0) (s.0, omega arith, refl) in
      (t.0, s.0, t.1, t.2)
