-- The formulas of a sheet as text. Assumes nothing: these are definitions.
use Rattle.std.specs.Prelude.{ℕ, ◌*◌, ◌/◌, ◌%◌, List, [], ◌++◌, codes}
use Rattle.formula.specs.Cells.{Content, blank, holds, malformed, content}
use Rattle.formula.specs.Texts.{place_text}
use Rattle.notation.specs.Notation.{formula_text}
use Rattle.recalc.specs.Layout.{rows_in, cols_in, cell_numbers}
use Rattle.show.specs.Texts.{texts}

-- a place, and the formula there
abbrev pub formula_line : ℕ → ℕ → List ℕ → List ℕ
formula_line row col ts = place_text row col ++ (codes " " ++ (formula_text ts ++ codes "\n"))

-- a line for a cell that is not blank
abbrev pub line_of : ℕ → ℕ → Content → List ℕ
line_of row col blank = []
line_of row col (holds ts) = formula_line row col ts
line_of row col malformed = []

-- cell k of a sheet that is w columns wide
abbrev pub cell_line : ℕ → List ℕ → ℕ → List ℕ
cell_line w xs k = line_of (k / w) (k % w) (content (cell_numbers k xs))

-- n cells, from cell k on
abbrev pub cell_lines : ℕ → List ℕ → ℕ → ℕ → List ℕ
cell_lines w xs k n = texts (cell_line w xs) k n

-- the whole sheet, in reading order
abbrev pub listing : List ℕ → List ℕ
listing xs = cell_lines (cols_in xs) xs 0 (rows_in xs * cols_in xs)
