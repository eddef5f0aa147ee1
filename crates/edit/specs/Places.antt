-- The places of a sheet of which something holds, in reading order. Assumes nothing: these are definitions.
use Rattle.std.specs.Prelude.{◌≡◌, ℕ, zero, suc, ◌*◌, ◌<◌, Bool, cond, ◌⊎◌, List, [], ◌∷◌}
use Rattle.formula.specs.declared.token.CellRef.{CellRef}
use Rattle.formula.specs.Tokens.{the_ref}
use Rattle.evaluate.specs.Knowledge.{In}
use Rattle.recalc.specs.Entries.{by_number}

-- the places of n cells, from cell k on, of which a test holds, where there are w columns
unfoldable pub places_from : ℕ → (ℕ → Bool) → ℕ → ℕ → List CellRef
places_from w f k zero = []
places_from w f k (suc n) = cond (f k) (by_number w the_ref k ∷ places_from w f (suc k) n) (places_from w f (suc k) n)

-- those of h rows and w columns
abbrev pub places : (ℕ → ℕ → Bool) → ℕ → ℕ → List CellRef
places f h w = places_from w (by_number w f) 0 (h * w)

-- by rows, and in a row by columns
abbrev pub Earlier : CellRef → CellRef → Type 0
Earlier p q = (p.row < q.row) ⊎ ((p.row ≡ q.row) × (p.col < q.col))

-- each place is earlier than all behind it
pub data Ascends : List CellRef → Type 0 where
  none : Ascends []
  more : {p : CellRef} {ps : List CellRef} → ((q : CellRef) → In q ps → Earlier p q) → Ascends ps → Ascends (p ∷ ps)

-- a list has the places of which P holds, in reading order and each once
pub record Listed (P : CellRef → Type 0) (ps : List CellRef) : Type 0 where
  pub only : (p : CellRef) → In p ps → P p
  pub all : (p : CellRef) → P p → In p ps
  pub ascends : Ascends ps
