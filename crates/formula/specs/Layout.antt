-- How long the parts of a lent row are, each said once. Assumes nothing: these are definitions.
use Rattle.std.specs.Prelude.{ℕ, ◌+◌, ◌*◌}

-- a token: its kind and four more numbers
abbrev pub token_len : ℕ
token_len = 5

abbrev pub max_tokens : ℕ
max_tokens = 12

-- the longest formula
abbrev pub formula_len : ℕ
formula_len = token_len * max_tokens

-- a cell: how many tokens its formula has, and room for the longest
abbrev pub cell_len : ℕ
cell_len = 1 + formula_len
