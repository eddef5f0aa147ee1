-- When two values differ. Assumes nothing.
use Rattle.std.proofs.Common.{◌≡◌, ℕ, Bool, true, false, ◌&&◌, eqb, get_or, Some, sym, refl, ap, ◌∙◌, inl, inr}
use Rattle.std.proofs.lemmas.Bool.{and_parts, eqb-true, eq-eqb, not-false, true≢false, cases_Bool}
use Rattle.evaluate.specs.declared.value.CellError.TheVariants.{DivideByZero, OutOfRange, Lost, Cycle}
use Rattle.evaluate.specs.declared.value.Value.{Value}
use Rattle.evaluate.specs.declared.value.Value.TheVariants.{Empty, Number, Error}
use Rattle.evaluate.specs.Values.{value_numbers, value_in}
use Rattle.edit.specs.Changes.{differs}

-- a value is what its two numbers stand for
pub read_back : (v : Value) → value_in (get_or (value_numbers v) 0 0) (get_or (value_numbers v) 1 0) ≡ Some v
read_back Empty = refl
read_back (Number n) = refl
read_back (Error DivideByZero) = refl
read_back (Error OutOfRange) = refl
read_back (Error Lost) = refl
read_back (Error Cycle) = refl

-- the same value has the same numbers
same_numbers : (v : Value) → differs v v ≡ false
same_numbers v = rw (eq-eqb (get_or (value_numbers v) 0 0) (get_or (value_numbers v) 0 0) refl, eq-eqb (get_or (value_numbers v) 1 0) (get_or (value_numbers v) 1 0) refl)

-- and only that
pub not_differs : (u v : Value) → differs u v ≡ false → u ≡ v
not_differs u v e =
    let m : ℕ → Value → ℕ = λ i x. get_or (value_numbers x) i 0 in
    let h = and_parts (eqb (m 0 u) (m 0 v)) (eqb (m 1 u) (m 1 v)) (not-false (eqb (m 0 u) (m 0 v) && eqb (m 1 u) (m 1 v)) e) in
    let a = eqb-true (m 0 u) (m 0 v) h.0 in
    let b = eqb-true (m 1 u) (m 1 v) h.1 in
    let same : Some u ≡ Some v = sym (read_back u) ∙ ap (λ i. value_in i (m 1 u)) a ∙ ap (value_in (m 0 v)) b ∙ read_back v in
    cc

-- values that differ are not the same
pub does_differ : (u v : Value) → differs u v ≡ true → u ≡ v → ⊥
does_differ u v e q = true≢false (sym e ∙ ap (λ x. differs u x) (sym q) ∙ same_numbers u)

-- so values that are not the same differ
pub differs_true : (u v : Value) → (u ≡ v → ⊥) → differs u v ≡ true
differs_true u v h = elim (cases_Bool (differs u v)) [ inl e ↦ e | inr e ↦ absurd (h (not_differs u v e)) ]

-- and values that are the same do not
pub differs_false : (u v : Value) → u ≡ v → differs u v ≡ false
differs_false u v e = ap (λ x. differs u x) (sym e) ∙ same_numbers u

-- a test that tells whether two values are the same
pub differs_is : (r : Bool) (u v : Value) → (r ≡ false → u ≡ v) → (r ≡ true → u ≡ v → ⊥) → r ≡ differs u v
differs_is true u v same other = sym (differs_true u v (other refl))
differs_is false u v same other = sym (differs_false u v (same refl))
