-- Lines gone through one after the other, before a change and after it. Assumes nothing.
use Rattle.std.proofs.Common.{◌≡◌, ℕ, zero, suc, ◌+◌, ◌<◌, ◌≤◌, ◌⊎◌, sym, refl, ap, ◌∙◌, inl, inr, arith}
use Rattle.std.proofs.lemmas.Bool.Decides.{nat_tests}
use Rattle.std.proofs.lemmas.Bool.{cases_lt}
use Rattle.shift.specs.declared.shift.Change.{Change}
use Rattle.shift.specs.declared.shift.Change.TheVariants.{Insert, Delete}
use Rattle.shift.specs.Lines.{line_to, lines_to}
use Rattle.shift.proofs.Gaps.{far, Gap, Bare, Beside}

-- n lines from line r on, each with what it makes of what came before
unfoldable pub through : {A : Type 0} → (ℕ → A → A) → ℕ → ℕ → A → A
through F r zero a = a
through F r (suc n) a = through F (suc r) n (F r a)

module _ {A : Type 0} where
  -- a line that changes nothing
  abbrev pub idle : A → A
  idle a = a

  -- lines under other numbers
  renumbered : (F : ℕ → A → A) (a : A) {r n i k : ℕ} {x : A} → through F i k a ≡ x → r ≡ i → n ≡ k → through F r n a ≡ x
  renumbered F a t e q = rw (e, q) t

  -- lines that do the same
  pub same : (F H : ℕ → A → A) (r n : ℕ) (a : A) → ((i : ℕ) → i < r + n → (b : A) → F i b ≡ H i b) → through F r n a ≡ through H r n a
  unfolding through
  same F H r zero a e = refl
  same F H r (suc n) a e = same F H (suc r) n (F r a) (λ i h. e i (omega arith)) ∙ ap (through H (suc r) n) (e r (omega arith) a)

  -- lines that do the same one line later
  later : (F H : ℕ → A → A) (r n : ℕ) (a : A) → ((i : ℕ) → r ≤ i → (b : A) → F (suc i) b ≡ H i b) → through F (suc r) n a ≡ through H r n a
  unfolding through
  later F H r zero a e = refl
  later F H r (suc n) a e = later F H (suc r) n (F (suc r) a) (λ i h. e i (omega arith)) ∙ ap (through H (suc r) n) (e r (omega arith) a)

  -- lines that change nothing
  pub still : (F : ℕ → A → A) (r n : ℕ) (a : A) → ((i : ℕ) → r ≤ i → (b : A) → F i b ≡ b) → through F r n a ≡ a
  unfolding through
  still F r zero a e = refl
  still F r (suc n) a e = still F (suc r) n (F r a) (λ i h. e i (omega arith)) ∙ e r (omega arith) a

  -- a last line that changes nothing
  last_still : (F : ℕ → A → A) (r n : ℕ) (a : A) → ((b : A) → F (r + n) b ≡ b) → through F r (suc n) a ≡ through F r n a
  unfolding through
  last_still F r zero a e = let z : r ≡ r + 0 = omega arith in ap (λ i. F i a) z ∙ e a
  last_still F r (suc n) a e = let z : suc r + n ≡ r + suc n = omega arith in last_still F (suc r) n (F r a) (λ b. ap (λ i. F i b) z ∙ e b)

  module _ (p : ℕ) (F H : ℕ → A → A) (k : Gap idle p F H) where
    -- lines with line p among them or at their end
    across : (r n : ℕ) (a : A) → r ≤ p → p ≤ r + n → through F r (suc n) a ≡ through H r n a
    unfolding through
    across r zero a h l = let z : r ≡ p = omega arith in ap (λ i. F i a) z ∙ k.here a
    across r (suc n) a h l = go (λ b. across (suc r) n (F r a) b (omega arith)) (cases_lt r p)
      where
        go : (suc r ≤ p → through F (suc r) (suc n) (F r a) ≡ through H (suc r) n (F r a)) → (r < p) ⊎ (p ≤ r)
            → through F (suc r) (suc n) (F r a) ≡ through H (suc r) n (H r a)
        go ih (inl b) = ih b ∙ ap (through H (suc r) n) (k.below r a b)
        go ih (inr b) =
            let z : r ≡ p = omega arith in
            later F H r (suc n) (F r a) (λ i m c. k.above i c (omega arith)) ∙ ap (through H r (suc n)) (ap (λ i. F i a) z ∙ k.here a)

    -- lines that are all before line p
    before : (r n : ℕ) (a : A) → r + n ≤ p → through F r n a ≡ through H r n a
    before r n a h = same F H r n a (λ i u b. k.below i b (omega arith))

    -- lines that are all behind it
    behind : (r n : ℕ) (a : A) → p ≤ r → through F (suc r) n a ≡ through H r n a
    behind r n a h = later F H r n a (λ i u b. k.above i b (omega arith))

    -- where line p is inserted
    grown : (r n : ℕ) (a : A) → Bare idle far H → Bare idle far F → through F (line_to Insert p r) (lines_to Insert p r n) a ≡ through H r n a
    grown r n a fh ff = go (cases_lt r p) (cases_lt p (r + n)) (cases_lt n far) (cases_lt r far)
      where
        go : (r < p) ⊎ (p ≤ r) → (p < r + n) ⊎ (r + n ≤ p) → (n < far) ⊎ (far ≤ n) → (r < far) ⊎ (far ≤ r)
            → through F (line_to Insert p r) (lines_to Insert p r n) a ≡ through H r n a
        go (inl x) (inl y) (inl z) w = renumbered F a (across r n a (omega arith) (omega arith)) (grind (arith, nat_tests)) (grind (arith, nat_tests))
        go (inl x) (inl y) (inr z) w =
            renumbered F a (sym (last_still F r n a (λ b. ff (r + n) b (omega arith))) ∙ across r n a (omega arith) (omega arith)) (grind (arith, nat_tests)) (grind (arith, nat_tests))
        go (inl x) (inr y) z w = renumbered F a (before r n a y) (grind (arith, nat_tests)) (grind (arith, nat_tests))
        go (inr x) y z (inl w) = renumbered F a (behind r n a x) (grind (arith, nat_tests)) (grind (arith, nat_tests))
        go (inr x) y z (inr w) =
            renumbered F a (still F r n a (λ i u b. ff i b (omega arith)) ∙ sym (still H r n a (λ i u b. fh i b (omega arith)))) (grind (arith, nat_tests)) (grind (arith, nat_tests))

    -- where line p is deleted
    shrunk : (r n : ℕ) (a : A) → through H (line_to Delete p r) (lines_to Delete p r n) a ≡ through F r n a
    shrunk r n a = go r n (cases_lt p r) (cases_lt p (r + n))
      where
        go : (r n : ℕ) → (p < r) ⊎ (r ≤ p) → (p < r + n) ⊎ (r + n ≤ p) → through H (line_to Delete p r) (lines_to Delete p r n) a ≡ through F r n a
        go zero n (inl x) y = absurd (omega arith)
        go (suc r) n (inl x) y = renumbered H a (sym (behind r n a (omega arith))) (grind (arith, nat_tests)) (grind (arith, nat_tests))
        go r zero (inr x) (inl y) = absurd (omega arith)
        go r (suc n) (inr x) (inl y) = renumbered H a (sym (across r n a x (omega arith))) (grind (arith, nat_tests)) (grind (arith, nat_tests))
        go r n (inr x) (inr y) = renumbered H a (sym (before r n a y)) (grind (arith, nat_tests)) (grind (arith, nat_tests))

  -- the lines of a range do together what they did
  pub kept_lines : (h : Change) (p : ℕ) (F G : ℕ → A → A) → Beside idle h p F G
      → (r n : ℕ) (a : A) → through G (line_to h p r) (lines_to h p r n) a ≡ through F r n a
  kept_lines Insert p F G l r n a = grown p G F l.0 r n a l.1 l.2
  kept_lines Delete p F G l r n a = shrunk p F G l r n a
