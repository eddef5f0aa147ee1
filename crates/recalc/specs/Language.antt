-- Formulas of any kind, and what cells that hold them show. Assumes nothing: these are definitions.
use Rattle.std.specs.Prelude.{◌≡◌, ℕ, zero, suc, ◌<◌}
use Rattle.evaluate.specs.declared.value.CellError.TheVariants.{Cycle}
use Rattle.evaluate.specs.declared.value.Value.{Value}
use Rattle.evaluate.specs.declared.value.Value.TheVariants.{Error}

-- a language of formulas: how each cell is worked out
pub record Language : Type 1 where
  -- how many cells there are
  pub count : ℕ
  -- what a cell comes to where the cells show f
  pub work : (f : ℕ → Value) → ℕ → Value
  -- the cells at which it looks for that
  pub looks : (f : ℕ → Value) → ℕ → ℕ → Type 0

-- what is asked of a language
pub record Lawful (l : Language) : Type 0 where
  -- what a cell comes to depends on the cells alone at which it looks
  pub local : (f g : ℕ → Value) (k : ℕ) → ((j : ℕ) → l.looks f k j → f j ≡ g j) → l.work f k ≡ l.work g k
  -- and so does where it looks
  pub looks_local : (f g : ℕ → Value) (k : ℕ) → ((j : ℕ) → l.looks f k j → f j ≡ g j) → (i : ℕ) → l.looks g k i → l.looks f k i
  -- a cell that looks at one that shows the cycle error comes to it
  pub strict : (f : ℕ → Value) (k j : ℕ) → l.looks f k j → f j ≡ Error Cycle → l.work f k ≡ Error Cycle
  -- and a cell comes to it only then
  pub source : (f : ℕ → Value) (k : ℕ) → l.work f k ≡ Error Cycle → (j : ℕ) × l.looks f k j × (f j ≡ Error Cycle)
  -- no cell looks outside
  pub inside : (f : ℕ → Value) (k j : ℕ) → l.looks f k j → j < l.count

-- from one cell to another, by one look or several
pub data Leads (looks : ℕ → ℕ → Type 0) : ℕ → ℕ → Type 0 where
  one : {a b : ℕ} → looks a b → Leads looks a b
  more : {a b c : ℕ} → looks a b → Leads looks b c → Leads looks a c

-- shown by looking at most m cells deep; what lies deeper counts as a cycle
unfoldable pub deep : Language → ℕ → ℕ → Value
deep l zero k = Error Cycle
deep l (suc m) k = l.work (deep l m) k

-- what a cell shows: no way of different cells is longer than there are cells
unfoldable pub shown : Language → ℕ → Value
shown l k = deep l (suc l.count) k
