-- The numbers of a cell. Assumes nothing: this is a definition.
use Rattle.std.specs.Prelude.{ℕ, ◌-◌, ◌/◌, List, ◌∷◌, ◌++◌, length, take, replicate}
use Rattle.formula.specs.Layout.{token_len, formula_len}

-- how many tokens there are, then as many numbers as there is room for, and zeros behind them
abbrev pub cell_of : List ℕ → List ℕ
cell_of ts = length ts / token_len ∷ (take formula_len ts ++ replicate (formula_len - length ts) 0)
