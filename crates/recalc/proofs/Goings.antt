-- What goes on from turn to turn. Assumes nothing.
use Rattle.std.proofs.Common.{◌≡◌, sym, refl, ◌∙◌, subst}
use Rattle.recalc.specs.declared.formulas.Formulas as formulas
use Rattle.recalc.specs.declared.before.Before as before
use Rattle.recalc.specs.declared.recalculation.Recalculation.{Recalculation}
use Rattle.recalc.specs.Change.{Change, Good}
use Rattle.recalc.specs.Turns.{on_stack, change_of, SameMemory, Going, Turned}

module _ {F B : Type 0} {f : formulas.Ghosts F} {b : before.Ghosts B} where
  pub same_memory : (a : Recalculation F B f b) → SameMemory a a
  same_memory a = record { formulas = refl; before = refl; table = refl; marks = refl }

  pub same_onward : {a a₁ a₂ : Recalculation F B f b} → SameMemory a a₁ → SameMemory a₁ a₂ → SameMemory a a₂
  same_onward s t = record { formulas = t.formulas ∙ s.formulas; before = t.before ∙ s.before; table = t.table ∙ s.table; marks = t.marks ∙ s.marks }

  -- it is of the same change
  pub same_change : {a a₁ : Recalculation F B f b} → SameMemory a a₁ → change_of a₁ ≡ change_of a
  same_change s = rw (s.formulas, s.before) refl

  -- each turn goes on from where the one before ended
  pub anchored : {a a₁ : Recalculation F B f b} → Going a a₁ → Going a₁ a₁
  anchored {a} {a₁} g =
      record {
        same = same_memory a₁;
        good = subst (λ (x : Change). Good x a₁.table.now a₁.kept.now a₁.marks.now (on_stack a₁)) (sym (same_change g.same)) g.good;
      }

  pub onward : {a a₁ a₂ : Recalculation F B f b} → SameMemory a a₁ → Going a₁ a₂ → Going a a₂
  onward {a} {a₁} {a₂} s g =
      record {
        same = same_onward s g.same;
        good = subst (λ (x : Change). Good x a₂.table.now a₂.kept.now a₂.marks.now (on_stack a₂)) (same_change s) g.good;
      }

  pub turned : {a a₁ : Recalculation F B f b} → Turned a a₁ → Going a a₁
  turned t = record { same = t.same; good = t.stepped.good }
