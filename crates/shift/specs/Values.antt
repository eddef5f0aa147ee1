-- The row of what a sheet shows, as entries. Assumes nothing: this is a definition.
use Rattle.std.specs.Prelude.{ℕ}

-- how many numbers a value has
abbrev pub value_len : ℕ
value_len = 2
