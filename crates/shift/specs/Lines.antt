-- A line that is inserted or deleted, and where the others are afterwards: the same for rows and for columns. Assumes nothing: these are definitions.
use Rattle.std.specs.Prelude.{ℕ, ◌+◌, ◌-◌, Bool, false, cond, ◌&&◌, ◌==◌, nat_le, nat_lt}
use Rattle.shift.specs.declared.shift.Change.{Change}
use Rattle.shift.specs.declared.shift.Change.TheVariants.{Insert, Delete}

-- one further; the number 2 ^ 64 - 1, far outside every sheet, stays
abbrev pub further : ℕ → ℕ
further n = cond (nat_lt n 18446744073709551615) (n + 1) n

-- line n is deleted, where the change is at line p
abbrev pub line_lost : Change → ℕ → ℕ → Bool
line_lost Insert p n = false
line_lost Delete p n = n == p

-- where it is afterwards, if it is not deleted
abbrev pub line_to : Change → ℕ → ℕ → ℕ
line_to Insert p n = cond (nat_lt n p) n (further n)
line_to Delete p n = cond (nat_lt p n) (n - 1) n

-- the n lines from line r on are the deleted line alone
abbrev pub lines_lost : Change → ℕ → ℕ → ℕ → Bool
lines_lost Insert p r n = false
lines_lost Delete p r n = r == p && n == 1

-- how many they are afterwards: one more if the new line stands behind the first and not behind the last, one less if one of them is deleted
abbrev pub lines_to : Change → ℕ → ℕ → ℕ → ℕ
lines_to Insert p r n = cond (nat_lt r p && nat_lt p (r + n)) (further n) n
lines_to Delete p r n = cond (nat_le r p && nat_lt p (r + n)) (n - 1) n

-- how many lines a sheet has afterwards
abbrev pub count_to : Change → ℕ → ℕ
count_to Insert n = n + 1
count_to Delete n = n - 1

-- what is in line n afterwards: what came there, or what a new line has
abbrev pub line_from : {A : Type 0} → A → Change → ℕ → (ℕ → A) → ℕ → A
line_from new Insert p f n = cond (nat_lt n p) (f n) (cond (n == p) new (f (n - 1)))
line_from new Delete p f n = cond (nat_lt n p) (f n) (f (n + 1))
