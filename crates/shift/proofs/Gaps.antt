-- Lines of which one has nothing, beside the same lines without it. Assumes nothing.
use Rattle.std.proofs.Common.{◌≡◌, ℕ, zero, suc, ◌<◌, ◌≤◌, false, cond, eqb, ◌⊎◌, sym, ap, ◌∙◌, inl, inr, arith}
use mathlib.Core.Path.{fun_ext}
use Rattle.std.proofs.lemmas.Bool.Decides.{nat_tests}
use Rattle.std.proofs.lemmas.Bool.{cases_lt, cases_order}
use Rattle.shift.specs.declared.shift.Change.{Change}
use Rattle.shift.specs.declared.shift.Change.TheVariants.{Insert, Delete}
use Rattle.shift.specs.Lines.{line_lost, line_to, line_from}

-- the number that stays
abbrev pub far : ℕ
far = 18446744073709551615

-- big has one line more than small, line p, and that has nothing
pub record Gap {J A : Type 0} (nothing : J → A) (p : ℕ) (big small : ℕ → J → A) : Type 0 where
  pub below : (i : ℕ) (j : J) → i < p → big i j ≡ small i j
  pub above : (i : ℕ) (j : J) → p ≤ i → big (suc i) j ≡ small i j
  pub here : (j : J) → big p j ≡ nothing j

-- from line n on there is nothing
abbrev pub Bare : {J A : Type 0} → (J → A) → ℕ → (ℕ → J → A) → Type 0
Bare {J} nothing n f = (i : ℕ) (j : J) → n ≤ i → f i j ≡ nothing j

-- lines before a change and after it; where the number that stays is, there is nothing
abbrev pub Beside : {J A : Type 0} → (J → A) → Change → ℕ → (ℕ → J → A) → (ℕ → J → A) → Type 0
Beside nothing Insert p f g = Gap nothing p g f × Bare nothing far f × Bare nothing far g
Beside nothing Delete p f g = Gap nothing p f g

-- what a line has, under another number for it
renumbered : {J A : Type 0} (f : ℕ → J → A) (j : J) {m n : ℕ} {x : A} → f n j ≡ x → m ≡ n → f m j ≡ x
renumbered f j t e = rw e t

-- at its new place each line that is not lost has what it had
pub kept : {J A : Type 0} (nothing : J → A) (h : Change) (p : ℕ) (f g : ℕ → J → A) → Beside nothing h p f g
    → (i : ℕ) (j : J) → line_lost h p i ≡ false → g (line_to h p i) j ≡ f i j
kept nothing Insert p f g b i j e = go (cases_lt i p) (cases_lt i far)
  where
    go : (i < p) ⊎ (p ≤ i) → (i < far) ⊎ (far ≤ i) → g (line_to Insert p i) j ≡ f i j
    go (inl x) y = renumbered g j (b.0.below i j x) (grind (arith, nat_tests))
    go (inr x) (inl y) = renumbered g j (b.0.above i j x) (grind (arith, nat_tests))
    go (inr x) (inr y) = renumbered g j (b.2 i j y ∙ sym (b.1 i j y)) (grind (arith, nat_tests))
kept nothing Delete p f g b i j e = go i e (cases_order i p)
  where
    go : (i : ℕ) → line_lost Delete p i ≡ false → (i ≡ p) ⊎ ((i < p) ⊎ (p < i)) → g (line_to Delete p i) j ≡ f i j
    go i e (inl x) = absurd (grind (arith, nat_tests))
    go i e (inr (inl x)) = renumbered g j (sym (b.below i j x)) (grind (arith, nat_tests))
    go zero e (inr (inr x)) = absurd (omega arith)
    go (suc i) e (inr (inr x)) = renumbered g j (sym (b.above i j (omega arith))) (grind (arith, nat_tests))

module _ {J A : Type 0} {nothing : J → A} {p : ℕ} where
  -- the lines without line p determine the lines with it
  pub with_it : {F G F₁ G₁ : ℕ → J → A} → Gap nothing p F G → Gap nothing p F₁ G₁ → ((i : ℕ) (j : J) → G i j ≡ G₁ i j) → (i : ℕ) (j : J) → F i j ≡ F₁ i j
  with_it {F} {G} {F₁} b b₁ e i j = go i (cases_order i p)
    where
      go : (i : ℕ) → (i ≡ p) ⊎ ((i < p) ⊎ (p < i)) → F i j ≡ F₁ i j
      go i (inl x) = rw x (b.here j ∙ sym (b₁.here j))
      go i (inr (inl x)) = b.below i j x ∙ e i j ∙ sym (b₁.below i j x)
      go zero (inr (inr x)) = absurd (omega arith)
      go (suc i) (inr (inr x)) = b.above i j (omega arith) ∙ e i j ∙ sym (b₁.above i j (omega arith))

  -- and these determine the lines without it
  pub without_it : {F G F₁ G₁ : ℕ → J → A} → Gap nothing p F G → Gap nothing p F₁ G₁ → ((i : ℕ) (j : J) → F i j ≡ F₁ i j) → (i : ℕ) (j : J) → G i j ≡ G₁ i j
  without_it {F} {G} {F₁} {G₁} b b₁ e i j = go (cases_lt i p)
    where
      go : (i < p) ⊎ (p ≤ i) → G i j ≡ G₁ i j
      go (inl x) = sym (b.below i j x) ∙ e i j ∙ b₁.below i j x
      go (inr x) = sym (b.above i j x) ∙ e (suc i) j ∙ b₁.above i j x

  -- lines with a line inserted
  pub inserted : (f : ℕ → J → A) → Gap nothing p (λ i j. line_from (nothing j) Insert p (λ m. f m j) i) f
  inserted f = record { below = λ i j u. grind (arith, nat_tests); above = λ i j u. grind (arith, nat_tests); here = λ j. grind (arith, nat_tests) }

  -- lines with a line deleted that had nothing
  pub deleted : (f : ℕ → J → A) → ((j : J) → f p j ≡ nothing j) → Gap nothing p f (λ i j. line_from (nothing j) Delete p (λ m. f m j) i)
  deleted f e = record { below = λ i j u. grind (arith, nat_tests); above = λ i j u. grind (arith, nat_tests); here = e }

  -- lines with nothing in one line, and with that line deleted
  pub emptied : (f : ℕ → J → A) → Gap nothing p (λ i j. cond (eqb i p) (nothing j) (f i j)) (λ i j. line_from (nothing j) Delete p (λ m. f m j) i)
  emptied f = record { below = λ i j u. grind (arith, nat_tests); above = λ i j u. grind (arith, nat_tests); here = λ j. grind (arith, nat_tests) }

  -- with line p what has nothing begins one line later
  pub bare_with : {F G : ℕ → J → A} {n : ℕ} → Gap nothing p F G → p ≤ n → Bare nothing n G → Bare nothing (suc n) F
  bare_with b h e zero j u = absurd (omega arith)
  bare_with b h e (suc i) j u = b.above i j (omega arith) ∙ e i j (omega arith)

  -- and without it one line earlier
  pub bare_without : {F G : ℕ → J → A} {n : ℕ} → Gap nothing p F G → p ≤ n → Bare nothing (suc n) F → Bare nothing n G
  bare_without b h e i j u = sym (b.above i j (omega arith)) ∙ e (suc i) j (omega arith)

-- what is made of the lines, line by line
pub made : {J A K B : Type 0} {nothing : J → A} {none : K → B} {p : ℕ} {f g : ℕ → J → A} (φ ψ : (J → A) → K → B)
    → ((l : J → A) (k : K) → φ l k ≡ ψ l k) → ((k : K) → φ nothing k ≡ none k) → Gap nothing p f g → Gap none p (λ i. φ (f i)) (λ i. ψ (g i))
made {f = f} {g = g} φ ψ same idle b = record {
  below = λ i k u. ap (λ l. φ l k) (fun_ext (λ j. b.below i j u)) ∙ same (g i) k;
  above = λ i k u. ap (λ l. φ l k) (fun_ext (λ j. b.above i j u)) ∙ same (g i) k;
  here = λ k. ap (λ l. φ l k) (fun_ext b.here) ∙ idle k;
}

-- and where there is nothing, nothing is made
pub bare_made : {J A K B : Type 0} {nothing : J → A} {none : K → B} {n : ℕ} {f : ℕ → J → A} (φ : (J → A) → K → B)
    → ((k : K) → φ nothing k ≡ none k) → Bare nothing n f → Bare none n (λ i. φ (f i))
bare_made φ idle b i k u = ap (λ l. φ l k) (fun_ext (λ j. b i j u)) ∙ idle k
