-- What cells showed, by their numbers. Assumes nothing: these are definitions.
use Rattle.std.specs.Prelude.{ℕ, Bool, false, List, slice_index_or}
use Rattle.std.specs.Option.{unwrap_or}
use Rattle.evaluate.specs.declared.value.Value.{Value}
use Rattle.evaluate.specs.declared.value.Value.TheVariants.{Empty}
use Rattle.evaluate.specs.Rows.{value_at}

-- nothing behind the end of the list
abbrev pub shows : List Value → ℕ → Value
shows vs k = slice_index_or vs k Empty

abbrev pub listed : List Bool → ℕ → Bool
listed bs k = slice_index_or bs k false

-- two numbers a cell, and nothing behind the end of the row
abbrev pub row_shows : List ℕ → ℕ → Value
row_shows xs k = unwrap_or (value_at xs k) Empty
