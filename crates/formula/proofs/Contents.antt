-- A formula stored in a cell. Assumes nothing.
use Rattle.std.proofs.Common.{◌≡◌, ℕ, zero, suc, ◌+◌, ◌-◌, ◌*◌, ◌/◌, ◌<◌, ◌≤◌, true, false, ltb, leb, List, [], ◌∷◌, ◌++◌, length, take, drop, set, replicate, Some, None, sym, refl, ap, ◌∙◌, arith, length-append, length-drop}
use borrow.Rule.Slice.PartMut.{put_mid}
use lib.ListN.{length-replicate}
use Rattle.std.proofs.lemmas.List.{append_assoc, take_at, drop_at, drop-drop, length-take-le}
use Rattle.std.proofs.lemmas.Bool.{le-leb, le-ltb}
use Rattle.formula.specs.Layout.{token_len, max_tokens, formula_len, cell_len}
use Rattle.formula.specs.Formula.{Formula, number, cell, fold, binary, if_less}
use Rattle.formula.specs.Reading.{spelled}
use Rattle.formula.specs.Writing.{writes, token_count}
use Rattle.formula.specs.Cells.{content, counted, holds, stored}
use Rattle.formula.specs.Moving.{moved_formula, moved_row}
use Rattle.formula.proofs.Spelling.{whole_spelled}
use Rattle.formula.proofs.Writing.{spells_count, written_length, written_read}
use Rattle.formula.proofs.Rewritten.{row_none, row_spelled}

-- a count, n numbers and zeros put into the cell at the start of a row, one after the other
module _ (k n : ℕ) (xs : List ℕ) where
  lay_numbers : (a : List ℕ) → cell_len ≤ length xs → put_mid 1 (1 + n - 1) (set xs 0 k) a ≡ k ∷ (a ++ drop (1 + n) xs)
  lay_numbers a h = go xs h
    where
      go : (ys : List ℕ) → cell_len ≤ length ys → put_mid 1 (1 + n - 1) (set ys 0 k) a ≡ k ∷ (a ++ drop (1 + n) ys)
      go [] h = absurd (omega arith)
      go (y ∷ ys) h = let e : 1 + n - 1 ≡ n = omega arith in let s : 1 + n ≡ suc n = omega arith in rw (e, s)

  lay_again : (a b t : List ℕ) → length a ≡ n → put_mid 1 (1 + n - 1) (k ∷ (a ++ t)) b ≡ k ∷ (b ++ t)
  lay_again a b t h = let e : 1 + n - 1 ≡ n = omega arith in rw (e, drop_at a t n h)

  lent_again : (a t : List ℕ) → length a ≡ n → take (1 + n - 1) (drop 1 (k ∷ (a ++ t))) ≡ a
  lent_again a t h = let e : 1 + n - 1 ≡ n = omega arith in rw (e, take_at a t n h)

  lay_zeros : (b z : List ℕ) → length b ≡ n → n ≤ formula_len
      → put_mid (1 + n) (cell_len - (1 + n)) (k ∷ (b ++ drop (1 + n) xs)) z ≡ k ∷ (b ++ (z ++ drop cell_len xs))
  lay_zeros b z h l =
      let t = drop (1 + n) xs in
      let m : length (k ∷ b) ≡ 1 + n = omega arith in
      let front = take_at (k ∷ b) t (1 + n) m in
      let back = drop_at (k ∷ b) t (1 + n) m in
      let end : drop (cell_len - (1 + n)) t ≡ drop cell_len xs = drop-drop (cell_len - (1 + n)) (1 + n) xs ∙ ap (λ i. drop i xs) (sum n l) in
      ap (λ p. p ++ (z ++ drop (cell_len - (1 + n)) (drop (1 + n) (k ∷ (b ++ t))))) front
      ∙ ap (λ q. (k ∷ b) ++ (z ++ drop (cell_len - (1 + n)) q)) back
      ∙ ap (λ q. (k ∷ b) ++ (z ++ q)) end
    where
      sum : (i : ℕ) → i ≤ formula_len → 1 + i + (cell_len - (1 + i)) ≡ cell_len
      sum i h = omega arith

  lent_zeros : (b : List ℕ) → length b ≡ n → cell_len ≤ length xs → length (take (cell_len - (1 + n)) (drop (1 + n) (k ∷ (b ++ drop (1 + n) xs)))) ≡ formula_len - n
  lent_zeros b h l =
      let back : drop (1 + n) (k ∷ (b ++ drop (1 + n) xs)) ≡ drop (1 + n) xs = drop_at (k ∷ b) (drop (1 + n) xs) (1 + n) (omega arith) in
      rw back (length-take-le (cell_len - (1 + n)) (drop (1 + n) xs) (simp length-drop (omega arith)) ∙ omega arith)

-- what stays where it is is the same
pub stays : (f : Formula) → moved_formula (λ p. Some p) (λ b. Some b) f ≡ f
stays (number n) = refl
stays (cell None) = refl
stays (cell (Some p)) = refl
stays (fold g None) = refl
stays (fold g (Some b)) = refl
stays (binary op x y) = rw (stays x, stays y)
stays (if_less x y u v) = rw (stays x, stays y, stays u, stays v)

-- a formula's numbers with the unused ones 0, and how many there are
pub record Tidy (ts : List ℕ) (f : Formula) : Type 0 where
  pub row : moved_row (λ p. Some p) (λ b. Some b) ts ≡ writes f []
  pub count : length ts ≡ token_len * token_count f
  pub few : token_count f ≤ max_tokens

pub tidy : (ts : List ℕ) (f : Formula) → spelled ts ≡ Some f → Tidy ts f
tidy ts f e =
    let s = whole_spelled ts f e in
    let n = spells_count s.1 in
    let l = s.0 in
    record {
      row = row_spelled (λ p. Some p) (λ b. Some b) s.1 ∙ rw (stays f, row_none (λ p. Some p) (λ b. Some b) [] refl);
      count = omega arith;
      few = omega arith;
    }

positive : (f : Formula) → 0 < token_count f
unfolding token_count
positive (number a) = omega arith
positive (cell p) = omega arith
positive (fold a b) = omega arith
positive (binary op x y) = omega arith
positive (if_less x y u v) = omega arith

-- what was stored is read
pub stored_read : (f : Formula) → token_count f ≤ max_tokens → (rest : List ℕ) → content (stored f ++ rest) ≡ holds (writes f [])
stored_read f h rest =
    let n = token_count f in
    let zeros : List ℕ = replicate (formula_len - token_len * n) 0 in
    let w = written_length f in
    let z : length zeros ≡ formula_len - token_len * n = length-replicate (formula_len - token_len * n) 0 in
    let long : ltb (length (stored f ++ rest)) cell_len ≡ false = le-ltb (length (stored f ++ rest)) cell_len (simp length-append (omega arith)) in
    let few : leb n max_tokens ≡ true = le-leb n max_tokens h in
    let cut : take (token_len * n) ((writes f [] ++ zeros) ++ rest) ≡ writes f [] =
    rw append_assoc (take_at (writes f []) (zeros ++ rest) (token_len * n) w) in
    rw long (go n _ few cut (positive f))
  where
    go : (n : ℕ) (xs : List ℕ) → leb n max_tokens ≡ true → take (token_len * n) xs ≡ writes f [] → 0 < n → counted n xs ≡ holds (writes f [])
    go zero xs few cut p = absurd (omega arith)
    go (suc n) xs few cut p = rw (few, cut, written_read f h)

-- the cell after each of its parts is put: the count, the tokens, the tokens with their unused numbers 0, and zeros behind them
pub filled : (xs ts front row zeros : List ℕ) (f : Formula) → cell_len ≤ length xs → spelled ts ≡ Some f → front ≡ ts
    → row ≡ moved_row (λ p. Some p) (λ b. Some b) (take (1 + length ts - 1) (drop 1 (put_mid 1 (1 + length ts - 1) (set xs 0 (length ts / token_len)) front)))
    → zeros ≡ replicate (length (take (cell_len - (1 + length ts)) (drop (1 + length ts) (put_mid 1 (1 + length ts - 1) (put_mid 1 (1 + length ts - 1) (set xs 0 (length ts / token_len)) front) row)))) 0
    → put_mid (1 + length ts) (cell_len - (1 + length ts)) (put_mid 1 (1 + length ts - 1) (put_mid 1 (1 + length ts - 1) (set xs 0 (length ts / token_len)) front) row) zeros
    ≡ stored f ++ drop cell_len xs
filled xs ts front row zeros f h e a r z =
    let t = tidy ts f e in
    let n = length ts in
    let k = n / token_len in
    let many : k ≡ token_count f = let c = t.count in omega arith in
    let short : n ≤ formula_len = let c = t.count in let w = t.few in omega arith in
    let lf : length front ≡ n = ap length a in
    let first : put_mid 1 (1 + n - 1) (set xs 0 k) front ≡ k ∷ (front ++ drop (1 + n) xs) = lay_numbers k n xs front h in
    let is : row ≡ writes f [] =
    r ∙ ap (λ ys. moved_row (λ p. Some p) (λ b. Some b) (take (1 + n - 1) (drop 1 ys))) first
    ∙ ap (moved_row (λ p. Some p) (λ b. Some b)) (lent_again k n xs front (drop (1 + n) xs) lf ∙ a) ∙ t.row in
    let lr : length row ≡ n = ap length is ∙ written_length f ∙ sym t.count in
    let second : put_mid 1 (1 + n - 1) (put_mid 1 (1 + n - 1) (set xs 0 k) front) row ≡ k ∷ (row ++ drop (1 + n) xs) =
    ap (λ ys. put_mid 1 (1 + n - 1) ys row) first ∙ lay_again k n xs front row (drop (1 + n) xs) lf in
    let empty : zeros ≡ replicate (formula_len - token_len * token_count f) 0 =
    z ∙ ap (λ ys. replicate (length (take (cell_len - (1 + n)) (drop (1 + n) ys))) 0) second
    ∙ ap (λ i. replicate i 0) (lent_zeros k n xs row lr h ∙ ap (λ i. formula_len - i) t.count) in
    ap (λ ys. put_mid (1 + n) (cell_len - (1 + n)) ys zeros) second
    ∙ lay_zeros k n xs row zeros lr short
    ∙ ap (λ i. i ∷ (row ++ (zeros ++ drop cell_len xs))) many
    ∙ ap (λ ys. token_count f ∷ (ys ++ (zeros ++ drop cell_len xs))) is
    ∙ ap (λ ys. token_count f ∷ (writes f [] ++ (ys ++ drop cell_len xs))) empty
    ∙ ap (λ ys. token_count f ∷ ys) (sym (append_assoc (writes f []) (replicate (formula_len - token_len * token_count f) 0) (drop cell_len xs)))
