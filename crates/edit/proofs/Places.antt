-- Places listed cell by cell. Assumes nothing.
use Rattle.std.proofs.Common.{◌≡◌, ℕ, zero, suc, ◌+◌, ◌<◌, ◌≤◌, Bool, true, false, cond, List, [], ◌∷◌, ◌++◌, length, sym, refl, ap, ◌∙◌, arith}
use Rattle.std.proofs.lemmas.List.{append-nil}
use Rattle.formula.specs.declared.token.CellRef.{CellRef}
use Rattle.formula.specs.Tokens.{the_ref}
use Rattle.recalc.specs.Entries.{by_number}
use Rattle.edit.specs.Places.{places_from}

-- no more places than cells
pub places_few : (w : ℕ) (f : ℕ → Bool) (k n : ℕ) → length (places_from w f k n) ≤ n
unfolding places_from
places_few w f k zero = omega arith
places_few w f k (suc n) = go (f k) (places_few w f (suc k) n)
  where
    go : (b : Bool) → length (places_from w f (suc k) n) ≤ n → length (cond b (by_number w the_ref k ∷ places_from w f (suc k) n) (places_from w f (suc k) n)) ≤ suc n
    go true h = omega arith
    go false h = omega arith

-- one cell more at the end
places_push : (w : ℕ) (f : ℕ → Bool) (k n : ℕ) → places_from w f k (suc n) ≡ places_from w f k n ++ cond (f (k + n)) (by_number w the_ref (k + n) ∷ []) []
unfolding places_from
places_push w f k zero = let e : k + 0 ≡ k = omega arith in rw e
places_push w f k (suc n) =
    let e : k + suc n ≡ suc k + n = omega arith in
    rw e
    (ap (λ ps. cond (f k) (by_number w the_ref k ∷ ps) ps) (places_push w f (suc k) n)
    ∙ go (f k) (places_from w f (suc k) n) (cond (f (suc k + n)) (by_number w the_ref (suc k + n) ∷ []) []))
  where
    go : (b : Bool) (ps qs : List CellRef) → cond b (by_number w the_ref k ∷ (ps ++ qs)) (ps ++ qs) ≡ cond b (by_number w the_ref k ∷ ps) ps ++ qs
    go true ps qs = refl
    go false ps qs = refl

module _ (w : ℕ) (f : ℕ → Bool) (n : ℕ) where
  -- sums that a loop has
  next : suc n ≡ n + 1
  next = omega arith

  from_none : 0 + n ≡ n
  from_none = omega arith

  -- a cell of which the test holds is listed
  pub places_add : (ps qs : List CellRef) (p : CellRef) → ps ≡ places_from w f 0 n → qs ≡ ps ++ p ∷ [] → p ≡ by_number w the_ref n → f n ≡ true → qs ≡ places_from w f 0 (n + 1)
  places_add ps qs p e a b t =
      a ∙ ap (λ xs. xs ++ p ∷ []) e ∙ ap (λ q. places_from w f 0 n ++ q ∷ []) b
      ∙ sym (ap (λ i. places_from w f 0 n ++ cond (f i) (by_number w the_ref i ∷ []) []) from_none ∙ ap (λ y. places_from w f 0 n ++ cond y (by_number w the_ref n ∷ []) []) t)
      ∙ sym (places_push w f 0 n) ∙ ap (places_from w f 0) next

  -- and one of which it does not is passed over
  pub places_pass : (ps : List CellRef) → ps ≡ places_from w f 0 n → f n ≡ false → ps ≡ places_from w f 0 (n + 1)
  places_pass ps e t =
      e ∙ sym (append-nil (places_from w f 0 n))
      ∙ sym (ap (λ i. places_from w f 0 n ++ cond (f i) (by_number w the_ref i ∷ []) []) from_none ∙ ap (λ y. places_from w f 0 n ++ cond y (by_number w the_ref n ∷ []) []) t)
      ∙ sym (places_push w f 0 n) ∙ ap (places_from w f 0) next

-- the same places by tests that agree
pub same_places : (w : ℕ) (f g : ℕ → Bool) (k n : ℕ) → ((i : ℕ) → k ≤ i → i < k + n → f i ≡ g i) → places_from w f k n ≡ places_from w g k n
unfolding places_from
same_places w f g k zero e = refl
same_places w f g k (suc n) e =
    ap (λ b. cond b (by_number w the_ref k ∷ places_from w f (suc k) n) (places_from w f (suc k) n)) (e k (omega arith) (omega arith))
    ∙ ap (λ ps. cond (g k) (by_number w the_ref k ∷ ps) ps) (same_places w f g (suc k) n (λ i l u. e i (omega arith) (omega arith)))
