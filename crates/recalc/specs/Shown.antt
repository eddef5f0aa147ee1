-- What the cells of a sheet show, by their places. Assumes nothing: each is a definition or a statement.
use Rattle.std.specs.Prelude.{◌≡◌, ℕ, ◌*◌, ◌<◌, ◌⊎◌, ◌≢◌}
use Rattle.formula.specs.declared.token.CellRef.{CellRef}
use Rattle.evaluate.specs.declared.value.CellError.TheVariants.{Cycle}
use Rattle.evaluate.specs.declared.value.Value.{Value}
use Rattle.evaluate.specs.declared.value.Value.TheVariants.{Error}
use Rattle.evaluate.specs.Knowledge.{In}
use Rattle.recalc.specs.Sheets.{Sheet, held, cell_shows, cell_looks, deep, shown}

-- the cells may show f: each shows what its formula makes of what the others show
abbrev pub Consistent : Sheet → (ℕ → ℕ → Value) → Type 0
Consistent s f = (r c : ℕ) → f r c ≡ cell_shows f (held s r c)

-- each cell shows what its formula makes of what the others show
abbrev pub ShownIsConsistent : Type 0
ShownIsConsistent = (s : Sheet) → Consistent s (shown s)

-- looking deeper than there are cells changes nothing
abbrev pub DeeperIsTheSame : Type 0
DeeperIsTheSame = (s : Sheet) (n r c : ℕ) → s.rows * s.cols < n → deep n s r c ≡ shown s r c

-- whatever else the cells may show by their formulas, it is this wherever this shows no cycle
abbrev pub OnlyAnswer : Type 0
OnlyAnswer = (s : Sheet) (f : ℕ → ℕ → Value) → Consistent s f → (r c : ℕ) → (shown s r c ≢ Error Cycle) → f r c ≡ shown s r c

abbrev pub shown_at : Sheet → CellRef → Value
shown_at s p = shown s p.row p.col

-- the cell at p looks at the place q
abbrev pub Looks : Sheet → CellRef → CellRef → Type 0
Looks s p q = In q (cell_looks (shown s) (held s p.row p.col))

-- a way from one place to another, of one look or several
pub data Way (s : Sheet) : CellRef → CellRef → Type 0 where
  one : {p q : CellRef} → Looks s p q → Way s p q
  more : {p q z : CellRef} → Looks s p q → Way s q z → Way s p z

-- a cell shows the cycle error exactly if it is, or a way leads from it to, a cell with a way back to itself
abbrev pub CycleExactly : Type 0
CycleExactly = (s : Sheet) (p : CellRef) →
    (shown_at s p ≡ Error Cycle → (q : CellRef) × ((p ≡ q) ⊎ Way s p q) × Way s q q)
    × ((q : CellRef) → (p ≡ q) ⊎ Way s p q → Way s q q → shown_at s p ≡ Error Cycle)
