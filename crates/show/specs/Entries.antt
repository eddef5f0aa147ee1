-- What stands at one place of a grid, and its text. Assumes nothing: these are definitions.
use Rattle.std.specs.Prelude.{ℕ, ◌+◌, ◌*◌, List, [], Some, None, codes, decimal, Option}
use Rattle.evaluate.specs.declared.value.Value.{Value}
use Rattle.evaluate.specs.Values.{value_text}
use Rattle.evaluate.specs.Rows.{value_at}
use Rattle.show.specs.declared.entry.Entry.{Entry}
use Rattle.show.specs.declared.entry.Entry.TheVariants.{Corner, Label, Shown, Unknown}

abbrev pub entry_text : Entry → List ℕ
entry_text Corner = []
entry_text (Label n) = decimal n
entry_text (Shown v) = value_text v
entry_text Unknown = codes "?"

abbrev pub shown_or_unknown : Option Value → Entry
shown_or_unknown (Some v) = Shown v
shown_or_unknown None = Unknown

-- a cell of a sheet that is so many columns wide
abbrev pub cell_entry : List ℕ → ℕ → ℕ → ℕ → Entry
cell_entry xs cols row col = shown_or_unknown (value_at xs (row * cols + col))
