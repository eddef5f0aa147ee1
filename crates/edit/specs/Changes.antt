-- What shows something else after a write, and what is worked out again. Assumes nothing: these are definitions.
use Rattle.std.specs.Prelude.{ℕ, Bool, false, not, ◌&&◌, ◌||◌, List, [], ◌∷◌, is_some, ◌==◌, slice_index}
use Rattle.formula.specs.declared.token.CellRef.{CellRef}
use Rattle.evaluate.specs.declared.value.Value.{Value}
use Rattle.evaluate.specs.Values.{value_numbers}
use Rattle.recalc.specs.Sheets.{Sheet, held, cell_looks, shown}
use Rattle.recalc.specs.Shown.{shown_at}
use Rattle.edit.specs.Writes.{Write, target, written}
use Rattle.edit.specs.Places.{places}

-- two values differ if one of their two numbers does
abbrev pub differs : Value → Value → Bool
differs u v = not (slice_index (value_numbers u) 0 == slice_index (value_numbers v) 0 && slice_index (value_numbers u) 1 == slice_index (value_numbers v) 1)

-- a place shows something else in t than in s
abbrev pub differs_at : Sheet → Sheet → CellRef → Bool
differs_at s t p = differs (shown_at t p) (shown_at s p)

-- one place of a list does
abbrev pub any_differs : Sheet → Sheet → List CellRef → Bool
any_differs s t [] = false
any_differs s t (p ∷ ps) = differs_at s t p || any_differs s t ps

-- the places of t that show something else than in s
abbrev pub told : Sheet → Sheet → List CellRef
told s t = places (λ r c. differs (shown t r c) (shown s r c)) t.rows t.cols

-- a formula that is written, or that looked at a place that shows something else in t
abbrev pub redone : Write → Sheet → Sheet → ℕ → ℕ → Bool
redone w s t r c = is_some (held t r c) && (target w r c || any_differs s t (cell_looks (shown s) (held s r c)))

-- the places whose formulas are worked out again after a write
abbrev pub worked : Write → Sheet → List CellRef
worked w s = places (redone w s (written w s)) s.rows s.cols
