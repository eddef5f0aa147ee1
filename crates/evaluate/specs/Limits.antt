-- How large a sheet may be. Assumes nothing: these are definitions.
use Rattle.std.specs.Prelude.{ℕ, ◌*◌}

abbrev pub max_rows : ℕ
max_rows = 40

abbrev pub max_columns : ℕ
max_columns = 12

abbrev pub max_cells : ℕ
max_cells = max_rows * max_columns
