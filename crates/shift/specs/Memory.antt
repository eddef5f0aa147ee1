-- A sheet in lent memory after a shift, and what is answered. Assumes nothing: these are definitions.
use Rattle.std.specs.Prelude.{◌≡◌, ℕ, ◌+◌, ◌-◌, ◌*◌, min, max, List, ◌∷◌, ◌++◌, take, drop, replicate, Ok, Result, slice_index}
use Rattle.formula.specs.Layout.{token_len, max_tokens, cell_len}
use Rattle.formula.specs.Moving.{moved_row}
use Rattle.recalc.specs.declared.size.Size.{Size}
use Rattle.recalc.specs.declared.refusal.Refusal.{Refusal}
use Rattle.recalc.specs.Layout.{header_len, size_in, fitting}
use Rattle.recalc.specs.Entries.{entries_from}
use Rattle.recalc.specs.Sheets.{sheet_in, Same}
pub use Rattle.recalc.specs.Showing.{answered, kept, and_then}
use Rattle.shift.specs.declared.shift.Shift.{Shift}
use Rattle.shift.specs.Shifts.{ref_after, range_after}
use Rattle.shift.specs.Entries.{size_after, cells_of, coming}
use Rattle.shift.specs.Sheets.{shifted, shift_allowed}

-- how many numbers of a cell are tokens
abbrev pub tokens_len : List ℕ → ℕ
tokens_len xs = token_len * min (slice_index xs 0) max_tokens

-- a cell with its tokens rewritten where they stand
abbrev pub shifted_cell : Shift → List ℕ → List ℕ
shifted_cell d xs = take 1 xs ++ (moved_row (ref_after d) (range_after d) (take (tokens_len xs) (drop 1 xs)) ++ drop (1 + tokens_len xs) xs)

-- n cells rewritten, and behind them what was there
abbrev pub shifted_cells : Shift → (ℕ → List ℕ) → ℕ → List ℕ → List ℕ
shifted_cells d f n rest = entries_from (λ k. shifted_cell d (f k)) 0 n ++ rest

-- each cell is the one that came there, its formula shifted; what came free is 0, and what lies behind is as it was
abbrev pub cells_after : Shift → Size → List ℕ → List ℕ
cells_after d size cells =
    shifted_cells d (coming cell_len d size cells) (cells_of (size_after d size))
    (replicate (cell_len * (cells_of size - cells_of (size_after d size))) 0 ++ drop (cell_len * max (cells_of size) (cells_of (size_after d size))) cells)

-- the two counts, and the cells
abbrev pub shifted_memory : Shift → List ℕ → List ℕ
shifted_memory d xs = (size_after d (size_in xs)).rows ∷ (size_after d (size_in xs)).cols ∷ cells_after d (size_in xs) (drop header_len xs)

-- the size of a sheet that can be shifted, or the first refusal that applies, where there may be as many rows and columns as `most` says
abbrev pub shift_checked : Shift → Size → List ℕ → Result Size Refusal
shift_checked d most xs = and_then (fitting most xs) (λ size. and_then (shift_allowed d size most) (λ u. Ok size))

-- the memory after a shift, or the refusal
abbrev pub shifted_in : Shift → Size → List ℕ → Result (List ℕ) Refusal
shifted_in d most xs = and_then (shift_checked d most xs) (λ size. Ok (shifted_memory d xs))

-- what `shift_sheet` promises of its answer and of the memory afterwards
pub record Shifts (d : Shift) (most : Size) (xs : List ℕ) (r : Result (Unit {0}) Refusal) (ys : List ℕ) : Type 0 where
  pub answer : r ≡ answered (shifted_in d most xs)
  pub memory : ys ≡ kept xs (shifted_in d most xs)
  -- the sheet in the memory is the shifted one, and it fits as the other did
  pub sheet : r ≡ Ok tt → Same (sheet_in ys) (shifted d (sheet_in xs))
  pub fits : r ≡ Ok tt → fitting most ys ≡ Ok (size_after d (size_in xs))

-- no second answer and no second memory fits
abbrev pub OneMemory : Type 0
OneMemory = (d : Shift) (most : Size) (xs : List ℕ) (r r₁ : Result (Unit {0}) Refusal) (ys ys₁ : List ℕ) → Shifts d most xs r ys → Shifts d most xs r₁ ys₁ → (r ≡ r₁) × (ys ≡ ys₁)
