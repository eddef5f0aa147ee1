-- A formula rewritten where it stands. Assumes nothing.
use Rattle.std.proofs.Common.{◌≡◌, ℕ, ◌-◌, Bool, true, false, cond, leb, List, [], ◌∷◌, ◌++◌, map, length, take, drop, Some, None, Option, refl, ap, ◌∙◌, arith, length-append}
use borrow.Rule.Slice.PartMut.{put_mid, post_of}
use Rattle.std.proofs.lemmas.List.{append-nil, take_at, drop_at, take_all, drop_all}
use Rattle.std.specs.Option.{option_map}
use Rattle.formula.specs.declared.token.CellRef.{CellRef}
use Rattle.formula.specs.declared.token.Range.{Range}
use Rattle.formula.specs.declared.token.Token.{Token}
use Rattle.formula.specs.declared.token.Token.TheVariants.{Number, Cell, Fold, Binary, IfLess}
use Rattle.formula.specs.Layout.{token_len, formula_len}
use Rattle.formula.specs.Tokens.{numbers, decoded}
use Rattle.formula.specs.Formula.{Formula}
use Rattle.formula.specs.Spelling.{Spells, a_number, a_cell, a_fold, an_operation, a_choice}
use Rattle.formula.specs.Reading.{Read, read, joins, reads, ends, whole, spelled}
use Rattle.formula.specs.Writing.{writes}
use Rattle.formula.specs.Moving.{moved_token, moved_formula, moved_row}
use Rattle.formula.proofs.Steps.{Begins, by_token, stops, steps, reads_none, reads_step}
use Rattle.formula.proofs.Writing.{decoded_numbers}

pub length_numbers : (t : Token) → length (numbers t) ≡ token_len
length_numbers (Number a) = refl
length_numbers (Cell None) = refl
length_numbers (Cell (Some p)) = refl
length_numbers (Fold g None) = refl
length_numbers (Fold g (Some b)) = refl
length_numbers (Binary op) = refl
length_numbers IfLess = refl

-- a token's numbers written at the front, and then the rest
pub put_front : (xs a r : List ℕ) → length a ≡ token_len → put_mid token_len (length (a ++ post_of 0 token_len xs) - token_len) (a ++ post_of 0 token_len xs) r ≡ a ++ r
put_front xs a r h =
    let front : take token_len (a ++ drop token_len xs) ≡ a = take_at a (drop token_len xs) token_len h in
    let back : drop token_len (a ++ drop token_len xs) ≡ drop token_len xs = drop_at a (drop token_len xs) token_len h in
    let none : drop (length (a ++ drop token_len xs) - token_len) (drop token_len xs) ≡ [] = drop_all _ (drop token_len xs) (simp length-append (omega arith)) in
    rw (front, back, none, append-nil)

pub rest_front : (xs a : List ℕ) → length a ≡ token_len → take (length (a ++ post_of 0 token_len xs) - token_len) (drop token_len (a ++ post_of 0 token_len xs)) ≡ drop token_len xs
rest_front xs a h =
    let back : drop token_len (a ++ drop token_len xs) ≡ drop token_len xs = drop_at a (drop token_len xs) token_len h in
    rw back (take_all _ (drop token_len xs) (simp length-append (omega arith)))

module _ (m : CellRef → Option CellRef) (n : Range → Option Range) where
  pub row_none : (xs : List ℕ) → decoded xs ≡ None → moved_row m n xs ≡ xs
  unfolding moved_row
  row_none xs e = stops _ _ xs e

  pub row_some : (xs ys : List ℕ) (t : Token) → decoded xs ≡ Some (t, ys) → moved_row m n xs ≡ numbers (moved_token m n t) ++ moved_row m n ys
  unfolding moved_row
  row_some xs ys t e = steps _ _ xs ys t e

  -- a row stays as long as it was
  pub row_length : (xs : List ℕ) → length (moved_row m n xs) ≡ length xs
  row_length = by_token (λ xs. length (moved_row m n xs) ≡ length xs) (λ xs d. ap length (row_none xs d)) more
    where
      more : (xs ys : List ℕ) (t : Token) → Begins xs t ys → length (moved_row m n ys) ≡ length ys → length (moved_row m n xs) ≡ length xs
      more xs ys t b ih =
          let five = length_numbers (moved_token m n t) in
          let long = b.longer in
          rw (row_some xs ys t b.is) (simp length-append (omega arith))

  abbrev moved_read : Read → Read
  moved_read x = read (moved_formula m n x.formula) (moved_row m n x.rest)

  joins_moved : (t : Token) (xs : List ℕ) (more : List Read)
      → joins (moved_token m n t) (moved_row m n xs) (map moved_read more) ≡ map moved_read (joins t xs more)
  joins_moved (Number a) xs more = refl
  joins_moved (Cell p) xs more = refl
  joins_moved (Fold g b) xs more = refl
  joins_moved (Binary op) xs [] = refl
  joins_moved (Binary op) xs (x ∷ []) = refl
  joins_moved (Binary op) xs (x ∷ y ∷ more) = refl
  joins_moved IfLess xs [] = refl
  joins_moved IfLess xs (x ∷ []) = refl
  joins_moved IfLess xs (x ∷ y ∷ []) = refl
  joins_moved IfLess xs (x ∷ y ∷ u ∷ []) = refl
  joins_moved IfLess xs (x ∷ y ∷ u ∷ v ∷ more) = refl

  -- the formulas of the rewritten row are the formulas of the row, moved
  pub reads_moved : (xs : List ℕ) → reads (moved_row m n xs) ≡ map moved_read (reads xs)
  reads_moved = by_token (λ xs. reads (moved_row m n xs) ≡ map moved_read (reads xs)) (λ xs d. rw (row_none xs d, reads_none xs d)) more
    where
      more : (xs ys : List ℕ) (t : Token) → Begins xs t ys → reads (moved_row m n ys) ≡ map moved_read (reads ys) → reads (moved_row m n xs) ≡ map moved_read (reads xs)
      more xs ys t b ih =
          rw (row_some xs ys t b.is, reads_step xs ys t b.is)
          (reads_step _ (moved_row m n ys) (moved_token m n t) (decoded_numbers (moved_token m n t) (moved_row m n ys)) ∙ rw ih (joins_moved t ys (reads ys)))

  whole_moved : (rs : List Read) → whole (map moved_read rs) ≡ option_map (moved_formula m n) (whole rs)
  whole_moved [] = refl
  whole_moved (x ∷ more) = go x.rest (moved_row m n x.rest) (row_length x.rest)
    where
      go : (rest zs : List ℕ) → length zs ≡ length rest → ends zs (moved_formula m n x.formula) ≡ option_map (moved_formula m n) (ends rest x.formula)
      go [] [] e = refl
      go [] (z ∷ zs) e = absurd (omega arith)
      go (y ∷ ys) [] e = absurd (omega arith)
      go (y ∷ ys) (z ∷ zs) e = refl

  -- the rewritten row spells the rewritten formula
  pub spelled_moved : (xs : List ℕ) → spelled (moved_row m n xs) ≡ option_map (moved_formula m n) (spelled xs)
  spelled_moved xs = rw (row_length xs, reads_moved xs) (go (leb (length xs) formula_len))
    where
      go : (b : Bool) → cond b (whole (map moved_read (reads xs))) None ≡ option_map (moved_formula m n) (cond b (whole (reads xs)) None)
      go true = whole_moved (reads xs)
      go false = refl

  -- the numbers of a formula that is spelled are its own, rewritten
  pub row_spelled : {ws bs : List ℕ} {f : Formula} → Spells ws f bs → moved_row m n ws ≡ writes (moved_formula m n f) (moved_row m n bs)
  unfolding writes
  row_spelled (a_number {ws = ws} {bs = bs} d) = row_some ws bs _ d
  row_spelled (a_cell {ws = ws} {bs = bs} d) = row_some ws bs _ d
  row_spelled (a_fold {ws = ws} {bs = bs} d) = row_some ws bs _ d
  row_spelled (an_operation {ws = ws} {bs = bs} d s t) = row_some ws bs _ d ∙ rw (row_spelled s, row_spelled t)
  row_spelled (a_choice {ws = ws} {bs = bs} d s t p q) = row_some ws bs _ d ∙ rw (row_spelled s, row_spelled t, row_spelled p, row_spelled q)
