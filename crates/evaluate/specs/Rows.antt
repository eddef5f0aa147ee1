-- Values one after another in a lent row, two numbers each. Assumes nothing: these are definitions.
use Rattle.std.specs.Prelude.{ℕ, ◌+◌, ◌*◌, cond, List, ◌++◌, length, take, drop, None, Option, nat_lt, slice_index}
use Rattle.evaluate.specs.declared.value.Value.{Value}
use Rattle.evaluate.specs.Values.{value_numbers, value_in}

-- value k; None where the row ends before, or where two numbers stand for nothing that a cell shows
abbrev pub value_at : List ℕ → ℕ → Option Value
value_at xs k = cond (nat_lt (2 * k + 1) (length xs)) (value_in (slice_index xs (2 * k)) (slice_index xs (2 * k + 1))) None

-- the row with value k overwritten
abbrev pub with_value : List ℕ → ℕ → Value → List ℕ
with_value xs k v = take (2 * k) xs ++ (value_numbers v ++ drop (2 * k + 2) xs)
