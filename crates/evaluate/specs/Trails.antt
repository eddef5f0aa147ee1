-- Trails: the places of a sheet that were looked at. Assumes nothing: these are definitions.
use Rattle.std.specs.Prelude.{◌≡◌, ℕ, ◌+◌, ◌<◌, ◌≤◌, Bool, true, false, cond, ◌&&◌, List, [], ◌∷◌, ◌++◌, length, Result, nat_lt}
use Rattle.formula.specs.declared.token.CellRef.{CellRef}
use Rattle.evaluate.specs.declared.stop.Stop.{Stop}
use Rattle.evaluate.specs.Traces.{Trace}

-- the places of a list that lie in a sheet of h rows and w columns
unfoldable pub inside : ℕ → ℕ → List CellRef → List CellRef
inside h w [] = []
inside h w (p ∷ ps) = cond (nat_lt p.row h && nat_lt p.col w) (p ∷ inside h w ps) (inside h w ps)

-- what a trail holds, how much it has room for, and whether nothing was left out
pub record Log : Type 0 where
  pub places : List CellRef
  pub room : ℕ
  pub whole : Bool

-- what a trail held it still holds; where nothing is left out, the places looked at come behind it; something is left out only where the room is used up
pub record Kept (before : Log) (ps : List CellRef) (after : Log) : Type 0 where
  pub stem : (more : List CellRef) × (after.places ≡ before.places ++ more)
  pub room : before.room ≤ after.room
  pub whole : after.whole ≡ true → (before.whole ≡ true) × (after.places ≡ before.places ++ ps)
  pub short : before.whole ≡ true → after.whole ≡ false → before.room < length before.places + length ps

-- the code ended as the work does, and noted the places of the sheet that the work looks at
pub record Follows {A : Type 0} (h w : ℕ) (t : Trace A) (r : Result A Stop) (before after : Log) : Type 0 where
  pub end : r ≡ t.end
  pub trail : Kept before (inside h w t.looks) after
