-- Lists of places in reading order: they have what they should, and only one list does. Assumes nothing.
use Rattle.std.proofs.Common.{◌≡◌, ℕ, zero, suc, ◌+◌, ◌*◌, ◌/◌, ◌%◌, ◌<◌, ◌≤◌, Bool, true, false, cond, ◌⊎◌, List, [], ◌∷◌, sym, refl, ap, ◌∙◌, subst, inl, inr, mul-le-mul_right, suc-mul, mul-zero, arith}
use Rattle.std.proofs.lemmas.Nat.{mul-add-lt, div-mul-add, mod-mul-add, div-add-mod', div_below, mod_below}
use Rattle.std.proofs.lemmas.Bool.{cases_order, cases_lt}
use Rattle.formula.specs.declared.token.CellRef.{CellRef}
use Rattle.formula.specs.Tokens.{the_ref}
use Rattle.evaluate.specs.Knowledge.{In, here, there}
use Rattle.evaluate.proofs.Places.{in_first, in_none}
use Rattle.recalc.specs.Entries.{by_number}
use Rattle.edit.specs.Places.{places_from, places, Earlier, Ascends, none, more, Listed}

-- the place of one of n cells, from cell k on, of which a test holds
abbrev Tested : ℕ → (ℕ → Bool) → ℕ → ℕ → CellRef → Type 0
Tested w f k n p = (i : ℕ) × (k ≤ i) × (i < k + n) × (f i ≡ true) × (p ≡ by_number w the_ref i)

-- the others, and cell k in front of them if its test came out so
abbrev with_first : ℕ → Bool → ℕ → List CellRef → List CellRef
with_first w b k ps = cond b (by_number w the_ref k ∷ ps) ps

-- what is listed is the place of such a cell
listed_from : (w : ℕ) (f : ℕ → Bool) (k n : ℕ) (p : CellRef) → In p (places_from w f k n) → Tested w f k n p
unfolding places_from
listed_from w f k zero p i = in_none i
listed_from w f k (suc n) p i = go (f k) refl (λ j. later (listed_from w f (suc k) n p j)) i
  where
    later : Tested w f (suc k) n p → Tested w f k (suc n) p
    later (i, a, b, t, e) = (i, omega arith, omega arith, t, e)

    go : (b : Bool) → f k ≡ b → (In p (places_from w f (suc k) n) → Tested w f k (suc n) p) → In p (with_first w b k (places_from w f (suc k) n)) → Tested w f k (suc n) p
    go true t h j = elim (in_first j) [ inl e ↦ (k, omega arith, omega arith, t, e) | inr j ↦ h j ]
    go false t h j = h j

-- and each such cell is listed
is_listed : (w : ℕ) (f : ℕ → Bool) (k n i : ℕ) → k ≤ i → i < k + n → f i ≡ true → In (by_number w the_ref i) (places_from w f k n)
unfolding places_from
is_listed w f k zero i a b t = absurd (omega arith)
is_listed w f k (suc n) i a b t = go (cases_lt k i) (λ c. is_listed w f (suc k) n i (omega arith) (omega arith) t)
  where
    behind : (b : Bool) (ps : List CellRef) → In (by_number w the_ref i) ps → In (by_number w the_ref i) (with_first w b k ps)
    behind true ps j = there j
    behind false ps j = j

    go : (k < i) ⊎ (i ≤ k) → (k < i → In (by_number w the_ref i) (places_from w f (suc k) n)) → In (by_number w the_ref i) (with_first w (f k) k (places_from w f (suc k) n))
    go (inl c) h = behind (f k) (places_from w f (suc k) n) (h c)
    go (inr c) h =
        let e : i ≡ k = omega arith in
        subst (λ b. In (by_number w the_ref i) (with_first w b k (places_from w f (suc k) n))) (sym (ap f (sym e) ∙ t))
        (subst (λ j. In (by_number w the_ref i) (by_number w the_ref j ∷ places_from w f (suc k) n)) e here)

-- a cell with a smaller number is earlier
number_earlier : (w i j : ℕ) → 0 < w → i < j → Earlier (by_number w the_ref i) (by_number w the_ref j)
number_earlier w i j some l = go (cases_order (i / w) (j / w))
  where
    go : (i / w ≡ j / w) ⊎ ((i / w < j / w) ⊎ (j / w < i / w)) → Earlier (by_number w the_ref i) (by_number w the_ref j)
    go (inl e) = inr (e, (let a = div-add-mod' i w in let b = div-add-mod' j w in let c = ap (λ r. r * w) e in omega arith))
    go (inr (inl h)) = inl h
    go (inr (inr h)) =
        let a = div-add-mod' i w in
        let b = div-add-mod' j w in
        let c = mod_below j w some in
        let d : suc (j / w) * w ≤ i / w * w = mul-le-mul_right w h in
        let e = suc-mul (j / w) w in
        absurd (omega arith)

-- so what is listed by number ascends
ascends_from : (w : ℕ) (f : ℕ → Bool) (k n : ℕ) → 0 < w → Ascends (places_from w f k n)
unfolding places_from
ascends_from w f k zero some = none
ascends_from w f k (suc n) some = go (f k) (ascends_from w f (suc k) n some) (λ q i. earlier q (listed_from w f (suc k) n q i))
  where
    earlier : (q : CellRef) → Tested w f (suc k) n q → Earlier (by_number w the_ref k) q
    earlier q (i, a, b, t, e) = subst (Earlier (by_number w the_ref k)) (sym e) (number_earlier w k i some (omega arith))

    go : (b : Bool) → Ascends (places_from w f (suc k) n) → ((q : CellRef) → In q (places_from w f (suc k) n) → Earlier (by_number w the_ref k) q)
        → Ascends (with_first w b k (places_from w f (suc k) n))
    go true a h = more h a
    go false a h = a

-- a place inside of which a test holds
abbrev Passes : (ℕ → ℕ → Bool) → ℕ → ℕ → CellRef → Type 0
Passes f h w p = (p.row < h) × (p.col < w) × (f p.row p.col ≡ true)

-- without columns there is none
no_columns : (f : ℕ → ℕ → Bool) (h : ℕ) → Listed (Passes f h 0) (places_from 0 (by_number 0 f) 0 0)
unfolding places_from
no_columns f h = record { only = λ p i. in_none i; all = λ p t. absurd (let l = t.1 in omega arith); ascends = none }

-- these are listed
pub places_listed : (f : ℕ → ℕ → Bool) (h w : ℕ) → Listed (Passes f h w) (places f h w)
places_listed f h zero = subst (Listed (Passes f h 0)) (sym (ap (places_from 0 (by_number 0 f) 0) (mul-zero h))) (no_columns f h)
places_listed f h (suc v) =
    record {
      only = λ p i. passes p (listed_from (suc v) (by_number (suc v) f) 0 (h * suc v) p i);
      all = λ p t. listed p t;
      ascends = ascends_from (suc v) (by_number (suc v) f) 0 (h * suc v) (omega arith);
    }
  where
    passes : (p : CellRef) → Tested (suc v) (by_number (suc v) f) 0 (h * suc v) p → Passes f h (suc v) p
    passes p (i, a, b, t, e) = subst (Passes f h (suc v)) (sym e) (div_below i (suc v) h (omega arith) (omega arith), mod_below i (suc v) (omega arith), t)

    listed : (p : CellRef) → Passes f h (suc v) p → In p (places f h (suc v))
    listed p (a, b, t) =
        let i = p.row * suc v + p.col in
        let row = div-mul-add p.row (suc v) p.col b in
        let col = mod-mul-add p.row (suc v) p.col b in
        let l = mul-add-lt p.row (suc v) p.col h a b in
        let place : by_number (suc v) the_ref i ≡ p = λ j. record { row = row j; col = col j } in
        subst (λ q. In q (places f h (suc v))) place
        (is_listed (suc v) (by_number (suc v) f) 0 (h * suc v) i (omega arith) (omega arith) (ap (λ r. f r (i % suc v)) row ∙ ap (f p.row) col ∙ t))

-- the same list by another name for the same places
pub listed_as : {P Q : CellRef → Type 0} {ps : List CellRef} → ((p : CellRef) → P p → Q p) → ((p : CellRef) → Q p → P p) → Listed P ps → Listed Q ps
listed_as to from l = record { only = λ p i. to p (l.only p i); all = λ p q. l.all p (from p q); ascends = l.ascends }

-- no place is earlier than itself, and no two each than the other
never_earlier : (p q : CellRef) → Earlier p q → Earlier q p → ⊥
never_earlier p q (inl a) (inl b) = omega arith
never_earlier p q (inl a) (inr b) = let e = b.0 in omega arith
never_earlier p q (inr a) (inl b) = let e = a.0 in omega arith
never_earlier p q (inr a) (inr b) = let e = a.1 in let f = b.1 in omega arith

-- what is behind the first is not the first
module _ (p : CellRef) (ps : List CellRef) where
  -- it is later
  behind_first : Ascends (p ∷ ps) → (q : CellRef) → In q ps → Earlier p q
  behind_first (more h a) = h

  -- and the others ascend too
  behind_ascends : Ascends (p ∷ ps) → Ascends ps
  behind_ascends (more h a) = a

-- two lists that ascend and have the same places
same_lists : (ps qs : List CellRef) → Ascends ps → Ascends qs → ((p : CellRef) → In p ps → In p qs) → ((p : CellRef) → In p qs → In p ps) → ps ≡ qs
same_lists [] [] a b f g = refl
same_lists [] (q ∷ qs) a b f g = in_none (g q here)
same_lists (p ∷ ps) [] a b f g = in_none (f p here)
same_lists (p ∷ ps) (q ∷ qs) a b f g = ap (λ x. x ∷ ps) first ∙ ap (λ xs. q ∷ xs) (same_lists ps qs (behind_ascends p ps a) (behind_ascends q qs b) to from)
  where
    first : p ≡ q
    first = elim (in_first (f p here)) [
      | inl e ↦ e
      | inr i ↦ elim (in_first (g q here)) [ inl e ↦ sym e | inr j ↦ absurd (never_earlier q p (behind_first q qs b p i) (behind_first p ps a q j)) ]
    ]

    to : (x : CellRef) → In x ps → In x qs
    to x i = elim (in_first (f x (there i))) [
      | inl e ↦ (let h = subst (Earlier p) (e ∙ sym first) (behind_first p ps a x i) in absurd (never_earlier p p h h))
      | inr j ↦ j
    ]

    from : (x : CellRef) → In x qs → In x ps
    from x i = elim (in_first (g x (there i))) [
      | inl e ↦ (let h = subst (Earlier q) (e ∙ first) (behind_first q qs b x i) in absurd (never_earlier q q h h))
      | inr j ↦ j
    ]

-- so one list alone has the places of which P holds
pub one_list : {P : CellRef → Type 0} (ps qs : List CellRef) → Listed P ps → Listed P qs → ps ≡ qs
one_list ps qs a b = same_lists ps qs a.ascends b.ascends (λ p i. b.all p (a.only p i)) (λ p i. a.all p (b.only p i))
