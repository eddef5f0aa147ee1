-- Entries in rows and columns, a line a row. Assumes nothing: these are definitions.
use Rattle.std.specs.Prelude.{ℕ, cond, List, [], ◌++◌, codes, ◌==◌}
use Rattle.show.specs.Texts.{texts}

-- what stands before an entry: nothing in the first column
abbrev pub gap : List ℕ → ℕ → List ℕ
gap between col = cond (col == 0) [] between

-- each entry of a grid, and before it what stands there
abbrev pub between : List ℕ → (ℕ → ℕ → List ℕ) → ℕ → ℕ → List ℕ
between t f row col = gap t col ++ f row col

abbrev pub row_text : (ℕ → ℕ → List ℕ) → ℕ → ℕ → List ℕ
row_text f cols row = texts (f row) 0 cols ++ codes "\n"

-- f row col is the text of an entry, with what stands before it
abbrev pub grid_text : (ℕ → ℕ → List ℕ) → ℕ → ℕ → List ℕ
grid_text f rows cols = texts (row_text f cols) 0 rows
