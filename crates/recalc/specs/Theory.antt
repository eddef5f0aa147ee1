-- What cells show, whatever their formulas are. Assumes nothing: each is a statement.
use Rattle.std.specs.Prelude.{◌≡◌, ℕ, ◌<◌, ◌⊎◌, ◌≢◌}
use Rattle.evaluate.specs.declared.value.CellError.TheVariants.{Cycle}
use Rattle.evaluate.specs.declared.value.Value.{Value}
use Rattle.evaluate.specs.declared.value.Value.TheVariants.{Error}
use Rattle.recalc.specs.Language.{Language, Leads, deep, shown}

-- each cell shows what its formula makes of what the others show
abbrev pub Settles : Language → Type 0
Settles l = (k : ℕ) → l.work (shown l) k ≡ shown l k

-- looking deeper than there are cells changes nothing
abbrev pub Deeper : Language → Type 0
Deeper l = (m k : ℕ) → l.count < m → deep l m k ≡ shown l k

-- whatever else the cells may show by their formulas, it is this wherever this shows no cycle
abbrev pub OnlyAnswer : Language → Type 0
OnlyAnswer l =
    (f : ℕ → Value) → ((k : ℕ) → k < l.count → l.work f k ≡ f k)
    → (k : ℕ) → k < l.count → (shown l k ≢ Error Cycle) → f k ≡ shown l k

-- a cell shows the cycle error exactly if it is, or looks lead from it to, a cell from which looks lead back to itself
abbrev pub CycleExactly : Language → Type 0
CycleExactly l =
    (k : ℕ) →
    (shown l k ≡ Error Cycle → (q : ℕ) × ((k ≡ q) ⊎ Leads (l.looks (shown l)) k q) × Leads (l.looks (shown l)) q q)
    × ((q : ℕ) → (k ≡ q) ⊎ Leads (l.looks (shown l)) k q → Leads (l.looks (shown l)) q q → shown l k ≡ Error Cycle)

-- wherever the cells that a cell looks at show the same, it comes to the same
abbrev pub UnchangedStays : Language → Type 0
UnchangedStays l = (f : ℕ → Value) (k : ℕ) → ((j : ℕ) → l.looks (shown l) k j → shown l j ≡ f j) → l.work f k ≡ shown l k
