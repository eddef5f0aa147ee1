-- What is seen of a sheet. Assumes nothing: this is a definition.
use Rattle.std.specs.Prelude.{◌≡◌, ℕ, List, Some, None, codes, Option, ◌≢◌}
use Rattle.recalc.specs.declared.size.Size.{Size}
use Rattle.recalc.specs.Sheets.{sheet_in}
use Rattle.recalc.specs.Showing.{sheet_values}
use Rattle.show.specs.declared.view.View.{View}
use Rattle.show.specs.declared.view.View.TheVariants.{Values, Formulas, Table}
use Rattle.show.specs.Listing.{listing}
use Rattle.show.specs.Values.{values_text}
use Rattle.show.specs.Table.{table_text}

abbrev pub view_text : View → List ℕ → Size → List ℕ
view_text Values xs s = values_text (sheet_values (sheet_in xs)) s
view_text Formulas xs s = listing xs
view_text Table xs s = table_text (sheet_values (sheet_in xs)) s

abbrev pub view_name : View → List ℕ
view_name Values = codes "values"
view_name Formulas = codes "formulas"
view_name Table = codes "table"

-- a word names the view whose name it is, and else none
abbrev pub Names : List ℕ → Option View → Type 0
Names word (Some v) = word ≡ view_name v
Names word None = (v : View) → word ≢ view_name v
