-- Where a cell stands, as text. Assumes nothing: this is a definition.
use Rattle.std.specs.Prelude.{ℕ, List, ◌++◌, codes, decimal}

abbrev pub place_text : ℕ → ℕ → List ℕ
place_text row col = decimal row ++ codes "," ++ decimal col
