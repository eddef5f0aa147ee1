-- What a formula comes to, in terms of what the cells show. Assumes nothing: each is a statement.
use Rattle.std.specs.Prelude.{◌≡◌, ℕ, Bool, Option, ◌≢◌}
use Rattle.formula.specs.declared.token.CellRef.{CellRef}
use Rattle.formula.specs.Formula.{Formula}
use Rattle.evaluate.specs.declared.value.CellError.{CellError}
use Rattle.evaluate.specs.declared.value.CellError.TheVariants.{Cycle}
use Rattle.evaluate.specs.declared.value.Value.{Value}
use Rattle.evaluate.specs.declared.value.Value.TheVariants.{Empty, Error}
use Rattle.evaluate.specs.Evaluation.{attempt, known, looked_at, evaluated}
use Rattle.evaluate.specs.Knowledge.{In, hidden, first_in, ends_at, Within, Stays, Wanting}

-- work from a part of what the cells show ends at the first place looked at that is hidden, and else it ends as it does where all is known
abbrev pub EndsAtFirst : Type 0
EndsAtFirst = (s : ℕ → ℕ → Bool) (f : ℕ → ℕ → Value) (x : Formula) → attempt (hidden s f) x ≡ ends_at (first_in s (looked_at f x)) (attempt (known f) x)

-- knowing more changes nothing that was settled, and a place that is wanted is not known
abbrev pub SettledStays : Type 0
SettledStays = (f g : ℕ → ℕ → Option Value) (x : Formula) → Within f g → Stays (attempt f x) (attempt g x) × Wanting f (attempt f x)

-- a formula looks at the same places and shows the same wherever the cells agree at the places that it looks at
abbrev pub LooksAreEnough : Type 0
LooksAreEnough =
    (f g : ℕ → ℕ → Value) (x : Formula) → ((q : CellRef) → In q (looked_at f x) → g q.row q.col ≡ f q.row q.col)
    → (looked_at g x ≡ looked_at f x) × (evaluated g x ≡ evaluated f x)

-- a formula that looks at an error shows it: so one that looks at a cycle is one
abbrev pub ErrorsSpread : Type 0
ErrorsSpread = (f : ℕ → ℕ → Value) (x : Formula) (q : CellRef) (e : CellError) → In q (looked_at f x) → f q.row q.col ≡ Error e → evaluated f x ≡ Error e

-- and it shows the cycle error only then
abbrev pub CyclesAreLookedAt : Type 0
CyclesAreLookedAt = (f : ℕ → ℕ → Value) (x : Formula) → evaluated f x ≡ Error Cycle → (q : CellRef) × In q (looked_at f x) × (f q.row q.col ≡ Error Cycle)

-- a cell that holds a formula never shows nothing
abbrev pub NeverEmpty : Type 0
NeverEmpty = (f : ℕ → ℕ → Value) (x : Formula) → evaluated f x ≢ Empty
