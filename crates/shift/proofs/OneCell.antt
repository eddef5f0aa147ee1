-- One cell of a sheet in memory, its formula shifted where it stands. Assumes nothing.
use Rattle.std.proofs.Common.{◌≡◌, ℕ, zero, suc, ◌+◌, ◌*◌, ◌≤◌, min, Bool, true, false, cond, ltb, leb, List, [], ◌∷◌, ◌++◌, length, get_or, take, drop, is_some, Some, None, Option, sym, refl, ap, ◌∙◌, arith, length-append, length-drop, length-take}
use Rattle.std.specs.Option.{option_map}
use Rattle.std.proofs.lemmas.List.{take_at, length-take-le}
use Rattle.std.proofs.lemmas.Bool.{leb-true}
use Rattle.formula.specs.Layout.{token_len, max_tokens, cell_len}
use Rattle.formula.specs.Formula.{Formula}
use Rattle.formula.specs.Reading.{spelled}
use Rattle.formula.specs.Moving.{moved_row}
use Rattle.formula.specs.Cells.{Content, blank, holds, malformed, formula_or, counted, content}
use Rattle.formula.proofs.Rewritten.{row_length, spelled_moved}
use Rattle.recalc.specs.Layout.{is_malformed}
use Rattle.recalc.specs.Sheets.{formula_in}
use Rattle.shift.specs.declared.shift.Shift.{Shift}
use Rattle.shift.specs.Shifts.{ref_after, range_after}
use Rattle.shift.specs.Sheets.{shift_formula, shift_cell}
use Rattle.shift.specs.Memory.{tokens_len, shifted_cell}

module _ (d : Shift) where
  -- a cell keeps its length
  pub cell_length : (xs : List ℕ) → length xs ≡ cell_len → length (shifted_cell d xs) ≡ cell_len
  cell_length xs h =
      let row = row_length (ref_after d) (range_after d) (take (tokens_len xs) (drop 1 xs)) in
      simp (length-append, length-take, length-drop) (let e : length (moved_row (ref_after d) (range_after d) (take (tokens_len xs) (drop 1 xs))) ≡ tokens_len xs = row ∙ length-take-le (tokens_len xs) (drop 1 xs) (simp length-drop (omega arith)) in omega arith)

  abbrev moved_tokens : List ℕ → List ℕ
  moved_tokens ts = moved_row (ref_after d) (range_after d) ts

  -- what a cell holds, shifted
  abbrev pub shifted_content : Content → Content
  shifted_content blank = blank
  shifted_content (holds ts) = holds (moved_tokens ts)
  shifted_content malformed = malformed

  formula_shifted : (ts : List ℕ) → formula_or (moved_tokens ts) ≡ shifted_content (formula_or ts)
  formula_shifted ts = ap (λ o. cond (is_some o) (holds (moved_tokens ts)) malformed) (spelled_moved (ref_after d) (range_after d) ts) ∙ go (spelled ts)
    where
      go : (o : Option Formula) → cond (is_some (option_map (shift_formula d) o)) (holds (moved_tokens ts)) malformed ≡ shifted_content (cond (is_some o) (holds ts) malformed)
      go None = refl
      go (Some f) = refl

  -- the tokens that are counted are those that are rewritten
  counted_shifted : (n : ℕ) (ys : List ℕ) → token_len * max_tokens ≤ length ys
      → counted n (moved_tokens (take (token_len * min n max_tokens) ys) ++ drop (token_len * min n max_tokens) ys) ≡ shifted_content (counted n ys)
  counted_shifted zero ys h = refl
  counted_shifted (suc n) ys h = go (leb (suc n) max_tokens) refl
    where
      go : (b : Bool) → leb (suc n) max_tokens ≡ b
          → cond b (formula_or (take (token_len * suc n) (moved_tokens (take (token_len * min (suc n) max_tokens) ys) ++ drop (token_len * min (suc n) max_tokens) ys))) malformed
          ≡ shifted_content (cond b (formula_or (take (token_len * suc n) ys)) malformed)
      go true e =
          let l = leb-true (suc n) max_tokens e in
          let m : min (suc n) max_tokens ≡ suc n = omega arith in
          let long : length (moved_tokens (take (token_len * suc n) ys)) ≡ token_len * suc n =
          row_length (ref_after d) (range_after d) (take (token_len * suc n) ys) ∙ length-take-le (token_len * suc n) ys (omega arith) in
          ap (λ i. formula_or (take (token_len * suc n) (moved_tokens (take (token_len * i) ys) ++ drop (token_len * i) ys))) m
          ∙ ap formula_or (take_at (moved_tokens (take (token_len * suc n) ys)) (drop (token_len * suc n) ys) (token_len * suc n) long)
          ∙ formula_shifted (take (token_len * suc n) ys)
      go false e = refl

  pub content_shifted : (xs : List ℕ) → length xs ≡ cell_len → content (shifted_cell d xs) ≡ shifted_content (content xs)
  content_shifted [] h = absurd (omega arith)
  content_shifted (x ∷ ys) h =
      let n = token_len * min x max_tokens in
      let s : 1 + n ≡ suc n = omega arith in
      let same : shifted_cell d (x ∷ ys) ≡ x ∷ (moved_tokens (take n ys) ++ drop n ys) = ap (λ i. x ∷ (moved_tokens (take n ys) ++ drop i (x ∷ ys))) s in
      let long = cell_length (x ∷ ys) h in
      ap (λ m. cond (ltb m cell_len) malformed (counted (get_or (shifted_cell d (x ∷ ys)) 0 0) (drop 1 (shifted_cell d (x ∷ ys))))) long
      ∙ ap (λ zs. counted (get_or zs 0 0) (drop 1 zs)) same
      ∙ counted_shifted x ys (omega arith)
      ∙ sym (ap (λ m. shifted_content (cond (ltb m cell_len) malformed (counted x ys))) h)

  -- its formula is the shifted one, and it is malformed exactly if it was
  pub formula_of : (c : Content) → formula_in (shifted_content c) ≡ shift_cell d (formula_in c)
  formula_of blank = refl
  formula_of (holds ts) = spelled_moved (ref_after d) (range_after d) ts
  formula_of malformed = refl

  pub malformed_of : (c : Content) → is_malformed (shifted_content c) ≡ is_malformed c
  malformed_of blank = refl
  malformed_of (holds ts) = refl
  malformed_of malformed = refl
