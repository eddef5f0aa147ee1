-- The table of a recalculation and what it says. Assumes nothing: these are definitions.
use Rattle.std.specs.Prelude.{◌≡◌, ℕ, suc, ◌-◌, ◌<◌, List, [], ◌∷◌, length, ◌≢◌, Ok, Err, Result, slice_index, slice_index_or}
use Rattle.evaluate.specs.declared.value.Value.{Value}
use Rattle.recalc.specs.declared.formulas.Progress.{Progress}
use Rattle.recalc.specs.declared.formulas.Progress.TheVariants.{Waiting, Open, Known}

abbrev pub at : List Progress → ℕ → Progress
at t k = slice_index_or t k Waiting

-- each value that is known is the one that is shown
abbrev pub Right : (ℕ → Value) → List Progress → Type 0
Right shows t = (k : ℕ) (v : Value) → at t k ≡ Known v → v ≡ shows k

abbrev pub Has : List Progress → ℕ → Type 0
Has t k = (v : Value) × (at t k ≡ Known v)

-- what an attempt at a cell answers from the table t: its value, worked out from the values that t knows alone,
-- or a cell that it looks at and that t does not know
abbrev pub Answers : Value → (ℕ → Type 0) → List Progress → Result Value ℕ → Type 0
Answers value looks t (Ok v) = (v ≡ value) × ((j : ℕ) → looks j → Has t j)
Answers value looks t (Err j) = looks j × ((v : Value) → at t j ≢ Known v)

abbrev pub NeedsWithin : ℕ → Result Value ℕ → Type 0
NeedsWithin n (Ok v) = Unit {0}
NeedsWithin n (Err j) = j < n

-- k is the last on the stack
abbrev pub Top : List ℕ → ℕ → Type 0
Top s k = (0 < length s) × (k ≡ slice_index s (length s - 1))

-- nothing is waiting again
abbrev pub Later : List Progress → List Progress → Type 0
Later t t₁ = (k : ℕ) → at t₁ k ≡ Waiting → at t k ≡ Waiting

unfoldable pub waiting : List Progress → ℕ
waiting [] = 0
waiting (Waiting ∷ t) = suc (waiting t)
waiting (Open i ∷ t) = waiting t
waiting (Known v ∷ t) = waiting t
