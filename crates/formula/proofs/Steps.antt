-- One token more: rows gone through token by token. Assumes nothing.
use Rattle.std.proofs.Common.{◌≡◌, ℕ, zero, suc, ◌+◌, ◌≤◌, List, [], ◌∷◌, length, get_or, drop, Some, None, Option, refl, ap, ◌∙◌, arith}
use Rattle.std.specs.Option.{ok_or, option_map}
use Rattle.std.specs.Result.{result_ok}
use Rattle.formula.specs.declared.token.Token.{Token}
use Rattle.formula.specs.declared.token.Token.TheVariants.{Number, Cell, Fold, Binary, IfLess}
use Rattle.formula.specs.Layout.{token_len}
use Rattle.formula.specs.Tokens.{token, needs, decoded, or_stop, by_tokens}
use Rattle.formula.specs.Formula.{Formula, number, cell, fold, binary, if_less}
use Rattle.formula.specs.Reading.{Read, read, two, four, joins, reads, rest_at, after}

pub decoded_long : (xs : List ℕ) → token_len ≤ length xs
    → decoded xs ≡ option_map (λ t. (t, drop token_len xs)) (token (get_or xs 0 0) (get_or xs 1 0) (get_or xs 2 0) (get_or xs 3 0) (get_or xs 4 0))
decoded_long [] h = absurd (omega arith)
decoded_long (k ∷ []) h = absurd (omega arith)
decoded_long (k ∷ a ∷ []) h = absurd (omega arith)
decoded_long (k ∷ a ∷ b ∷ []) h = absurd (omega arith)
decoded_long (k ∷ a ∷ b ∷ c ∷ []) h = absurd (omega arith)
decoded_long (k ∷ a ∷ b ∷ c ∷ d ∷ xs) h = refl

-- the numbers from the first token on, and those after it
pub record Begins (xs : List ℕ) (t : Token) (ys : List ℕ) : Type 0 where
  pub is : decoded xs ≡ Some (t, ys)
  pub rest : drop token_len xs ≡ ys
  pub longer : length xs ≡ token_len + length ys

-- what holds of a row with no token, and with each token more, holds of every row
pub by_token : (P : List ℕ → Type 0) → ((xs : List ℕ) → decoded xs ≡ None → P xs) → ((xs ys : List ℕ) (t : Token) → Begins xs t ys → P ys → P xs) → (xs : List ℕ) → P xs
by_token P none more [] = none _ refl
by_token P none more (k ∷ []) = none _ refl
by_token P none more (k ∷ a ∷ []) = none _ refl
by_token P none more (k ∷ a ∷ b ∷ []) = none _ refl
by_token P none more (k ∷ a ∷ b ∷ c ∷ []) = none _ refl
by_token P none more (k ∷ a ∷ b ∷ c ∷ d ∷ xs) = go (token k a b c d) refl (by_token P none more xs)
  where
    go : (o : Option Token) → token k a b c d ≡ o → P xs → P (k ∷ a ∷ b ∷ c ∷ d ∷ xs)
    go None e p = none _ (rw e)
    go (Some t) e p = more _ xs t (record { is = rw e; rest = refl; longer = omega arith }) p

-- what a row begins with, from how it is decoded
pub begins : (xs ys : List ℕ) (t : Token) → decoded xs ≡ Some (t, ys) → Begins xs t ys
begins xs ys t e = by_token (λ ws. decoded ws ≡ Some (t, ys) → Begins ws t ys) (λ ws n d. absurd (grind arith)) (λ ws bs u b _ d. go ws bs u b d) xs e
  where
    go : (ws bs : List ℕ) (u : Token) → Begins ws u bs → decoded ws ≡ Some (t, ys) → Begins ws t ys
    go ws bs u b d =
        let is = b.is in
        let both : ◌≡◌ {A = Token × List ℕ} (u, bs) (t, ys) = cc in
        let same : bs ≡ ys = ap (λ (p : Token × List ℕ). p.1) both in
        let long = b.longer in
        record { is = d; rest = b.rest ∙ same; longer = rw (← same) long }

module _ {A : Type 0} (stop : List ℕ → A) (step : Token → List ℕ → A → A) where
  pub stops : (xs : List ℕ) → decoded xs ≡ None → by_tokens stop step xs ≡ stop xs
  unfolding by_tokens
  stops [] e = refl
  stops (k ∷ []) e = refl
  stops (k ∷ a ∷ []) e = refl
  stops (k ∷ a ∷ b ∷ []) e = refl
  stops (k ∷ a ∷ b ∷ c ∷ []) e = refl
  stops (k ∷ a ∷ b ∷ c ∷ d ∷ xs) e = go (token k a b c d) e
    where
      go : (o : Option Token) → option_map {U = Token × List ℕ} (λ u. (u, xs)) o ≡ None
          → or_stop stop step o (k ∷ a ∷ b ∷ c ∷ d ∷ xs) xs (by_tokens stop step xs) ≡ stop (k ∷ a ∷ b ∷ c ∷ d ∷ xs)
      go None e = refl
      go (Some u) e = absurd (grind arith)

  pub steps : (xs ys : List ℕ) (t : Token) → decoded xs ≡ Some (t, ys) → by_tokens stop step xs ≡ step t ys (by_tokens stop step ys)
  unfolding by_tokens
  steps [] ys t e = absurd (grind arith)
  steps (k ∷ []) ys t e = absurd (grind arith)
  steps (k ∷ a ∷ []) ys t e = absurd (grind arith)
  steps (k ∷ a ∷ b ∷ []) ys t e = absurd (grind arith)
  steps (k ∷ a ∷ b ∷ c ∷ []) ys t e = absurd (grind arith)
  steps (k ∷ a ∷ b ∷ c ∷ d ∷ xs) ys t e = go (token k a b c d) e
    where
      go : (o : Option Token) → option_map {U = Token × List ℕ} (λ u. (u, xs)) o ≡ Some (t, ys)
          → or_stop stop step o (k ∷ a ∷ b ∷ c ∷ d ∷ xs) xs (by_tokens stop step xs) ≡ step t ys (by_tokens stop step ys)
      go None e = absurd (grind arith)
      go (Some u) e =
          let both : ◌≡◌ {A = Token × List ℕ} (u, xs) (t, ys) = cc in
          ap (λ (p : Token × List ℕ). step p.0 p.1 (by_tokens stop step p.1)) both

pub reads_none : (xs : List ℕ) → decoded xs ≡ None → reads xs ≡ []
unfolding reads
reads_none xs e = stops _ _ xs e

pub reads_step : (xs ys : List ℕ) (t : Token) → decoded xs ≡ Some (t, ys) → reads xs ≡ joins t ys (reads ys)
unfolding reads
reads_step xs ys t e = steps _ _ xs ys t e

leaf_step : (n : ℕ) (f : Formula) (xs : List ℕ) → rest_at n (read f xs ∷ reads xs) ≡ after (n + 0) xs
leaf_step zero f xs = refl
leaf_step (suc n) f xs = let e : suc n + 0 ≡ suc n = omega arith in rw e

two_step : (n : ℕ) (f : Formula → Formula → Formula) (more : List Read) → rest_at n (two f more) ≡ rest_at (suc n) more
two_step n f [] = refl
two_step n f (x ∷ []) = refl
two_step zero f (x ∷ y ∷ more) = refl
two_step (suc n) f (x ∷ y ∷ more) = refl

four_step : (n : ℕ) (f : Formula → Formula → Formula → Formula → Formula) (more : List Read) → rest_at n (four f more) ≡ rest_at (suc (suc (suc n))) more
four_step n f [] = refl
four_step n f (x ∷ []) = refl
four_step n f (x ∷ y ∷ []) = refl
four_step n f (x ∷ y ∷ u ∷ []) = refl
four_step zero f (x ∷ y ∷ u ∷ v ∷ more) = refl
four_step (suc n) f (x ∷ y ∷ u ∷ v ∷ more) = refl

joins_step : (n : ℕ) (t : Token) (xs : List ℕ) → rest_at n (joins t xs (reads xs)) ≡ after (n + needs t) xs
joins_step n (Number m) xs = leaf_step n (number m) xs
joins_step n (Cell p) xs = leaf_step n (cell p) xs
joins_step n (Fold g r) xs = leaf_step n (fold g r) xs
joins_step n (Binary op) xs = let e : n + 2 ≡ suc (suc n) = omega arith in rw e (two_step n (binary op) (reads xs))
joins_step n IfLess xs = let e : n + 4 ≡ suc (suc (suc (suc n))) = omega arith in rw e (four_step n if_less (reads xs))

-- a formula more to skip is, after its first token, as many more as that needs
pub after_step : (n : ℕ) (xs ys : List ℕ) (t : Token) → decoded xs ≡ Some (t, ys) → after (suc n) xs ≡ after (n + needs t) ys
after_step n xs ys t e = ap (rest_at n) (reads_step xs ys t e) ∙ joins_step n t ys

-- an option as a result, as an option again
pub ok_again : {A E : Type 0} (o : Option A) (e : E) → result_ok (ok_or o e) ≡ o
ok_again None e = refl
ok_again (Some x) e = refl
