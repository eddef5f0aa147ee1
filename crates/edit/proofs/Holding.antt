-- A cell in memory that holds a formula. Assumes nothing.
use Rattle.std.proofs.Common.{◌≡◌, ℕ, zero, suc, ◌*◌, Bool, true, false, cond, ltb, leb, List, length, get_or, take, drop, is_some, sym, refl, ap, ◌∙◌, arith}
use Rattle.formula.specs.Layout.{token_len, max_tokens, cell_len}
use Rattle.formula.specs.Reading.{spelled}
use Rattle.formula.specs.Cells.{holds, malformed, formula_or, counted, content}
use Rattle.recalc.specs.Sheets.{formula_in}

-- the tokens of a cell are a formula
pub tokens_spell : (xs ts : List ℕ) → holds ts ≡ content xs → is_some (formula_in (content xs)) ≡ true
tokens_spell xs ts e = ap (λ c. is_some (formula_in c)) (sym e) ∙ go (ltb (length xs) cell_len) (get_or xs 0 0) (drop 1 xs) (sym e)
  where
    spell : (us : List ℕ) (b : Bool) → is_some (spelled us) ≡ b → cond b (holds us) malformed ≡ holds ts → is_some (spelled ts) ≡ true
    spell us true d e = let z : us ≡ ts = cc in ap (λ ys. is_some (spelled ys)) (sym z) ∙ d
    spell us false d e = absurd (let z : ◌≡◌ {A = ℕ} 0 1 = cc in omega arith)

    few : (us : List ℕ) (b : Bool) → cond b (formula_or us) malformed ≡ holds ts → is_some (spelled ts) ≡ true
    few us true e = spell us (is_some (spelled us)) refl e
    few us false e = absurd (let z : ◌≡◌ {A = ℕ} 0 1 = cc in omega arith)

    go : (b : Bool) (n : ℕ) (ys : List ℕ) → cond b malformed (counted n ys) ≡ holds ts → is_some (spelled ts) ≡ true
    go true n ys e = absurd (let z : ◌≡◌ {A = ℕ} 0 1 = cc in omega arith)
    go false zero ys e = absurd (let z : ◌≡◌ {A = ℕ} 0 1 = cc in omega arith)
    go false (suc n) ys e = few (take (token_len * suc n) ys) (leb (suc n) max_tokens) e
