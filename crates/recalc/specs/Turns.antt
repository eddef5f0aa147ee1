-- A recalculation between two turns, and what a turn does. Assumes nothing: these are definitions.
use Rattle.std.specs.Prelude.{◌≡◌, ℕ, List, take}
use Rattle.recalc.specs.declared.formulas.Formulas as formulas
use Rattle.recalc.specs.declared.before.Before as before
use Rattle.recalc.specs.declared.recalculation.Recalculation.{Recalculation}
use Rattle.recalc.specs.Change.{Change, change, Good, Stepped}

module _ {F B : Type 0} {f : formulas.Ghosts F} {b : before.Ghosts B} where
  -- the cells on the stack, the last one on top
  abbrev pub on_stack : Recalculation F B f b → List ℕ
  on_stack a = take a.depth a.stack.now

  -- the change that it works out
  abbrev pub change_of : Recalculation F B f b → Change
  change_of a = change (f.language a.formulas.now) (b.shows a.before.now) (b.written a.before.now)

  -- it is of the same cells, in the same memory
  pub record SameMemory (a a₁ : Recalculation F B f b) : Type 0 where
    pub formulas : a₁.formulas ≡ a.formulas
    pub before : a₁.before ≡ a.before
    pub table : a₁.table.ghost_name ≡ a.table.ghost_name
    pub marks : a₁.marks.ghost_name ≡ a.marks.ghost_name

  -- what a began is that far
  pub record Going (a a₁ : Recalculation F B f b) : Type 0 where
    pub same : SameMemory a a₁
    pub good : Good (change_of a) a₁.table.now a₁.kept.now a₁.marks.now (on_stack a₁)

  -- one turn
  pub record Turned (a a₁ : Recalculation F B f b) : Type 0 where
    pub same : SameMemory a a₁
    pub stepped : Stepped (change_of a) a.table.now a.marks.now (on_stack a) a₁.table.now a₁.kept.now a₁.marks.now (on_stack a₁)
