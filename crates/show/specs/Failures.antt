-- What is seen of a text, or why there is nothing to see. Assumes nothing: these are definitions.
use Rattle.std.specs.Prelude.{◌≡◌, ℕ, List, Err, Result}
use Rattle.std.specs.Result.{result_map_both}
use Rattle.formula.specs.Results.{and_then}
use Rattle.notation.specs.declared.text_error.TextError.TheVariants.{NotANumber, OutOfMemory}
use Rattle.notation.specs.Errors.{error_text}
use Rattle.notation.specs.Numbers.{numbers_of}
use Rattle.recalc.specs.Refusals.{refusal_text}
use Rattle.recalc.specs.Layout.{checked}
use Rattle.show.specs.declared.failure.Failure.{Failure}
use Rattle.show.specs.declared.failure.Failure.TheVariants.{Text, Sheet}
use Rattle.show.specs.declared.view.View.{View}
use Rattle.show.specs.Views.{view_text}

abbrev pub failure_text : Failure → List ℕ
failure_text (Text e) = error_text e
failure_text (Sheet r) = refusal_text r

-- of a sheet: its view, or the first refusal that applies
abbrev pub sheet_seen : View → List ℕ → Result (List ℕ) Failure
sheet_seen view xs = result_map_both (view_text view xs) Sheet (checked xs)

-- of a text: that of the sheet whose numbers it gives
abbrev pub text_seen : View → List ℕ → Result (List ℕ) Failure
text_seen view bs = and_then (result_map_both (λ ns. ns) (λ word. Text (NotANumber word)) (numbers_of bs)) (sheet_seen view)

-- a failure is the one that is told, or want of memory
abbrev pub Fails : Result (List ℕ) Failure → Failure → Type 0
Fails o (Text (NotANumber word)) = o ≡ Err (Text (NotANumber word))
Fails o (Text OutOfMemory) = Unit {0}
Fails o (Sheet r) = o ≡ Err (Sheet r)
