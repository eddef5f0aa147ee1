-- What a reader of cells did. Assumes nothing: this is a definition.
use Rattle.std.specs.Prelude.{◌≡◌, ℕ, Option, Result}
use Rattle.evaluate.specs.declared.value.Value.{Value}
use Rattle.evaluate.specs.declared.stop.Stop.{Stop}
use Rattle.evaluate.specs.declared.reader.Reader.{Reader}
use Rattle.evaluate.specs.Sheets.{Sheet}
use Rattle.evaluate.specs.Traces.{Trace}
use Rattle.evaluate.specs.Trails.{Log, Follows}

-- it followed this work, from what its cells show, and reads the same cells as before
pub record Reads {C T A : Type 0} (sheet : C → Sheet) (log : T → Log) (work : (ℕ → ℕ → Option Value) → Trace A) (r : Result A Stop) (before after : Reader C T) : Type 0 where
  pub same : after.cells ≡ before.cells
  pub follows : Follows (sheet before.cells.now).height (sheet before.cells.now).width (work (sheet before.cells.now).shown) r (log before.trail) (log after.trail)
