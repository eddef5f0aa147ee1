-- A sheet's values as text, a line a row. Assumes nothing: these are definitions.
use Rattle.std.specs.Prelude.{ℕ, List, ◌++◌, codes}
use Rattle.recalc.specs.declared.size.Size.{Size}
use Rattle.show.specs.Entries.{entry_text, cell_entry}
use Rattle.show.specs.Grids.{gap, grid_text}

-- an entry, and a space before it unless it is the first of its line
abbrev pub spaced_entry : List ℕ → ℕ → ℕ → ℕ → List ℕ
spaced_entry xs cols row col = gap (codes " ") col ++ entry_text (cell_entry xs cols row col)

abbrev pub values_text : List ℕ → Size → List ℕ
values_text xs s = grid_text (spaced_entry xs s.cols) s.rows s.cols
