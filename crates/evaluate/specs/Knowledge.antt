-- What is known of the cells: places that are hidden, knowing more, and lists of places. Assumes nothing: these are definitions.
use Rattle.std.specs.Prelude.{◌≡◌, ℕ, Bool, cond, List, [], ◌∷◌, Some, None, Ok, Err, Option, Result}
use Rattle.formula.specs.declared.token.CellRef.{CellRef}
use Rattle.evaluate.specs.declared.value.Value.{Value}
use Rattle.evaluate.specs.declared.stop.Stop.{Stop}
use Rattle.evaluate.specs.declared.stop.Stop.TheVariants as stop

-- one of a list of places
pub data In (q : CellRef) : List CellRef → Type 0 where
  here : {ps : List CellRef} → In q (q ∷ ps)
  there : {p : CellRef} {ps : List CellRef} → In q ps → In q (p ∷ ps)

-- everything but some places is known
abbrev pub hidden : (ℕ → ℕ → Bool) → (ℕ → ℕ → Value) → ℕ → ℕ → Option Value
hidden s f r c = cond (s r c) None (Some (f r c))

-- the first hidden place of a list
abbrev pub first_in : (ℕ → ℕ → Bool) → List CellRef → Option CellRef
first_in s [] = None
first_in s (p ∷ ps) = cond (s p.row p.col) (Some p) (first_in s ps)

-- work that ends at a place, if there is one
abbrev pub ends_at : {A : Type 0} → Option CellRef → Result A Stop → Result A Stop
ends_at None o = o
ends_at (Some p) o = Err (stop.Needs p)

-- what the first knows the second knows too
abbrev pub Within : (ℕ → ℕ → Option Value) → (ℕ → ℕ → Option Value) → Type 0
Within f g = (r c : ℕ) (x : Value) → f r c ≡ Some x → g r c ≡ Some x

-- unless a cell was wanting, the second is the first
abbrev pub Stays : {A : Type 0} → Result A Stop → Result A Stop → Type 0
Stays (Ok a) o = o ≡ Ok a
Stays (Err (stop.Error e)) o = o ≡ Err (stop.Error e)
Stays (Err (stop.Needs p)) o = Unit {0}

-- a cell that is wanted is not known
abbrev pub Wanting : {A : Type 0} → (ℕ → ℕ → Option Value) → Result A Stop → Type 0
Wanting f (Ok a) = Unit {0}
Wanting f (Err (stop.Error e)) = Unit {0}
Wanting f (Err (stop.Needs p)) = f p.row p.col ≡ None
