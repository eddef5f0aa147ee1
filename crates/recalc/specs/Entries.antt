-- Numbers in entries of one length, in reading order: the cells of a sheet in memory, and what they show. Assumes nothing: these are definitions.
use Rattle.std.specs.Prelude.{ℕ, zero, suc, ◌+◌, ◌*◌, ◌/◌, ◌%◌, List, [], ◌++◌, take, drop}

-- entry k of a row, where each has len numbers
abbrev pub entry : ℕ → ℕ → List ℕ → List ℕ
entry len k xs = take len (drop (len * k) xs)

-- a row of which the len numbers from number m on are others
abbrev pub with_part : ℕ → ℕ → List ℕ → List ℕ → List ℕ
with_part m len part xs = take m xs ++ (part ++ drop (m + len) xs)

-- n entries, from entry k on
unfoldable pub entries_from : (ℕ → List ℕ) → ℕ → ℕ → List ℕ
entries_from f k zero = []
entries_from f k (suc n) = f k ++ entries_from f (suc k) n

-- what is at row and column, by its number where there are w columns
abbrev pub by_number : {A : Type 0} → ℕ → (ℕ → ℕ → A) → ℕ → A
by_number w f k = f (k / w) (k % w)
