-- What a cell of a lent sheet holds, and the numbers that a formula is stored as. Assumes nothing: these are definitions.
use Rattle.std.specs.Prelude.{ℕ, zero, suc, ◌-◌, ◌*◌, Bool, true, false, cond, List, [], ◌∷◌, ◌++◌, length, take, drop, replicate, is_some, Some, None, Ok, Err, Option, Result, nat_le, nat_lt, slice_index}
use Rattle.formula.specs.declared.cell.Cell.{Cell}
use Rattle.formula.specs.declared.cell.Cell.TheVariants.{Blank, Formula, Malformed}
use Rattle.formula.specs.declared.cell.NotWritten.{NotWritten}
use Rattle.formula.specs.declared.cell.NotWritten.TheVariants as why
use Rattle.formula.specs.Layout.{token_len, max_tokens, formula_len, cell_len}
use Rattle.formula.specs.Formula as formula
use Rattle.formula.specs.Reading.{spelled}
use Rattle.formula.specs.Writing.{writes, token_count}
pub use Rattle.formula.specs.Results.{answered, kept}

pub data Content : Type 0 where
  blank : Content
  holds : List ℕ → Content  -- the tokens of a formula
  malformed : Content

abbrev pub formula_or : List ℕ → Content
formula_or ts = cond (is_some (spelled ts)) (holds ts) malformed

abbrev pub counted : ℕ → List ℕ → Content
counted zero xs = blank
counted (suc n) xs = cond (nat_le (suc n) max_tokens) (formula_or (take (token_len * suc n) xs)) malformed

-- how many tokens there are, and then the tokens; what stands behind them is ignored
abbrev pub content : List ℕ → Content
content xs = cond (nat_lt (length xs) cell_len) malformed (counted (slice_index xs 0) (drop 1 xs))

abbrev pub is_malformed : Content → Bool
is_malformed blank = false
is_malformed (holds ts) = false
is_malformed malformed = true

-- the formula that a cell holds
abbrev pub formula_in : Content → Option formula.Formula
formula_in blank = None
formula_in (holds ts) = spelled ts
formula_in malformed = None

-- what the code's answer says
abbrev pub meant : Cell → Content
meant Blank = blank
meant (Formula ts) = holds ts.now
meant Malformed = malformed

-- the 61 numbers of a formula, the unused ones 0
abbrev pub stored : formula.Formula → List ℕ
stored f = token_count f ∷ (writes f [] ++ replicate (formula_len - token_len * token_count f) 0)

abbrev stored_or : List ℕ → Option formula.Formula → Result (List ℕ) NotWritten
stored_or xs None = Err why.Malformed
stored_or xs (Some f) = Ok (stored f ++ drop cell_len xs)

-- a row that begins with a cell, with the formula that the tokens spell written into it
abbrev pub written : List ℕ → List ℕ → Result (List ℕ) NotWritten
written xs ts = cond (nat_lt (length xs) cell_len) (Err why.Short) (stored_or xs (spelled ts))
