-- What reading and writing promise, in terms of formulas. Assumes nothing: each is a statement.
use Rattle.std.specs.Prelude.{◌≡◌, ℕ, ◌≤◌, List, [], ◌++◌, length, Some}
use Rattle.formula.specs.Layout.{max_tokens, formula_len}
use Rattle.formula.specs.Formula.{Formula}
use Rattle.formula.specs.Spelling.{Spells}
use Rattle.formula.specs.Reading.{spelled}
use Rattle.formula.specs.Writing.{writes, token_count}
use Rattle.formula.specs.Cells.{content, holds, stored}

-- a row is read as a formula exactly if it is short enough and is that formula: a token, and after it the formulas that the token needs
abbrev pub ReadingIsSpelling : Type 0
ReadingIsSpelling =
    (ws : List ℕ) (f : Formula) → (spelled ws ≡ Some f → (length ws ≤ formula_len) × Spells ws f []) × (length ws ≤ formula_len → Spells ws f [] → spelled ws ≡ Some f)

-- a formula of at most 12 tokens is read back as it was written, alone and from a cell
abbrev pub WrittenIsRead : Type 0
WrittenIsRead =
    (f : Formula) → token_count f ≤ max_tokens → (spelled (writes f []) ≡ Some f) × ((rest : List ℕ) → content (stored f ++ rest) ≡ holds (writes f []))
