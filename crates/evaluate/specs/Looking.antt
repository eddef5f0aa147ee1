-- What is answered, and what a list holds, when the places that a formula looks at are added to it. Assumes nothing: this is a definition.
use Rattle.std.specs.Prelude.{◌≡◌, ℕ, ◌+◌, ◌<◌, List, ◌++◌, length, Some, None, Ok, Err, Option, Result}
use Rattle.formula.specs.declared.token.CellRef.{CellRef}
use Rattle.formula.specs.Formula.{Formula}
use Rattle.evaluate.specs.declared.stop.Stop.{Stop}
use Rattle.evaluate.specs.declared.unlisted.Unlisted.{Unlisted}
use Rattle.evaluate.specs.declared.unlisted.Unlisted.TheVariants.{Malformed, OutOfMemory}
use Rattle.evaluate.specs.Evaluation.{trace, attempt}
use Rattle.evaluate.specs.Trails.{inside}
use Rattle.evaluate.specs.Sheets.{Sheet}

-- a refusal leaves the list as it was, and memory is wanting only where the room that it had is too little
abbrev pub Lists : Sheet → Option Formula → (room : ℕ) → Result (Result ℕ Stop) Unlisted → List CellRef → List CellRef → Type 0
Lists s None room r before after = (r ≡ Err Malformed) × (after ≡ before)
Lists s (Some x) room (Ok o) before after = (o ≡ attempt s.shown x) × (after ≡ before ++ inside s.height s.width (trace s.shown x).looks)
Lists s (Some x) room (Err e) before after = (e ≡ OutOfMemory) × ((after ≡ before) × (room < length before + length (inside s.height s.width (trace s.shown x).looks)))
