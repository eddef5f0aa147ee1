-- Where the operands of a token stand. Assumes nothing.
use Rattle.std.proofs.Common.{◌≡◌, ℕ, zero, suc, ◌+◌, ◌*◌, ◌<◌, ◌≤◌, true, List, [], ◌∷◌, length, drop, is_some, Some, None, Option, sym, refl, ap, ◌∙◌, arith}
use Rattle.formula.specs.declared.token.Token.{Token}
use Rattle.formula.specs.declared.token.Token.TheVariants.{Number, Cell, Fold, Binary, IfLess}
use Rattle.formula.specs.Layout.{token_len}
use Rattle.formula.specs.Tokens.{needs, decoded}
use Rattle.formula.specs.Formula.{Formula, binary, if_less}
use Rattle.formula.specs.Reading.{Read, two, four, joins, reads, rest_at, after, begun, operand_of, formula_at, Operand}
use Rattle.formula.proofs.Steps.{Begins, begins, by_token, after_step, reads_step, reads_none}

two_drop : (n : ℕ) (f : Formula → Formula → Formula) (more : List Read) → drop (suc (suc n)) more ≡ drop (suc n) (two f more)
two_drop n f [] = refl
two_drop n f (x ∷ []) = refl
two_drop n f (x ∷ y ∷ more) = refl

four_drop : (n : ℕ) (f : Formula → Formula → Formula → Formula → Formula) (more : List Read) → drop (suc (suc (suc (suc n)))) more ≡ drop (suc n) (four f more)
four_drop n f [] = refl
four_drop n f (x ∷ []) = refl
four_drop n f (x ∷ y ∷ []) = refl
four_drop n f (x ∷ y ∷ u ∷ []) = refl
four_drop n f (x ∷ y ∷ u ∷ v ∷ more) = refl

joins_drop : (n : ℕ) (t : Token) (xs : List ℕ) (more : List Read) → drop (n + needs t) more ≡ drop (suc n) (joins t xs more)
joins_drop n (Number m) xs more = let e : n + 0 ≡ n = omega arith in rw e
joins_drop n (Cell p) xs more = let e : n + 0 ≡ n = omega arith in rw e
joins_drop n (Fold g r) xs more = let e : n + 0 ≡ n = omega arith in rw e
joins_drop n (Binary op) xs more = let e : n + 2 ≡ suc (suc n) = omega arith in rw e (two_drop n (binary op) more)
joins_drop n IfLess xs more = let e : n + 4 ≡ suc (suc (suc (suc n))) = omega arith in rw e (four_drop n if_less more)

-- what stands after n formulas: the other formulas, and no more than is left of the row
record After (n : ℕ) (xs ys : List ℕ) : Type 0 where
  reads_rest : reads ys ≡ drop n (reads xs)
  room : token_len * n + length ys ≤ length xs

skipped : (xs : List ℕ) (n : ℕ) (ys : List ℕ) → after n xs ≡ Some ys → After n xs ys
skipped = by_token (λ xs. (n : ℕ) (ys : List ℕ) → after n xs ≡ Some ys → After n xs ys) none more
  where
    at_once : (xs ys : List ℕ) → after 0 xs ≡ Some ys → After 0 xs ys
    at_once xs ys e = let same : xs ≡ ys = cc in record { reads_rest = ap reads (sym same); room = rw same (omega arith) }

    none : (xs : List ℕ) → decoded xs ≡ None → (n : ℕ) (ys : List ℕ) → after n xs ≡ Some ys → After n xs ys
    none xs d zero ys e = at_once xs ys e
    none xs d (suc n) ys e = let gone : rest_at n [] ≡ Some ys = rw (reads_none xs d) at e in absurd (grind arith)

    more : (xs zs : List ℕ) (t : Token) → Begins xs t zs → ((n : ℕ) (ys : List ℕ) → after n zs ≡ Some ys → After n zs ys)
        → (n : ℕ) (ys : List ℕ) → after n xs ≡ Some ys → After n xs ys
    more xs zs t b ih zero ys e = at_once xs ys e
    more xs zs t b ih (suc n) ys e =
        let a = ih (n + needs t) ys (sym (after_step n xs zs t b.is) ∙ e) in
        let r = a.room in
        let l = b.longer in
        record {
          reads_rest = a.reads_rest ∙ joins_drop n t zs (reads zs) ∙ ap (drop (suc n)) (sym (reads_step xs zs t b.is));
          room = omega arith;
        }

pub after_room : (n : ℕ) (xs ys : List ℕ) → after n xs ≡ Some ys → token_len * n + length ys ≤ length xs
after_room n xs ys e = (skipped xs n ys e).room

-- so many formulas do not fit
pub after_short : (n : ℕ) (xs : List ℕ) → length xs < token_len * n → after n xs ≡ None
after_short n xs h = go (after n xs) refl
  where
    go : (o : Option (List ℕ)) → after n xs ≡ o → o ≡ None
    go None e = refl
    go (Some ys) e = let r = after_room n xs ys e in absurd (omega arith)

at_drop : (n : ℕ) (more : List Read) → formula_at 0 (drop n more) ≡ formula_at n more
at_drop zero more = refl
at_drop (suc n) [] = refl
at_drop (suc n) (x ∷ more) = at_drop n more

rest_before : (n : ℕ) (more : List Read) → is_some (formula_at (suc n) more) ≡ true → is_some (rest_at n more) ≡ true
rest_before n [] h = absurd (grind arith)
rest_before zero (x ∷ more) h = refl
rest_before (suc n) (x ∷ more) h = rest_before n more h

-- something is left before a formula
pub after_some : (n : ℕ) (xs : List ℕ) → is_some (formula_at n (reads xs)) ≡ true → is_some (after n xs) ≡ true
after_some zero xs h = refl
after_some (suc n) xs h = rest_before n (reads xs) h

-- the formulas that an operator takes, and those that a choice takes
two_there : (f : Formula → Formula → Formula) (more : List Read) → is_some (formula_at 0 (two f more)) ≡ true → (k : ℕ) → k < 2 → is_some (formula_at k more) ≡ true
two_there f [] h k l = absurd (grind arith)
two_there f (x ∷ []) h k l = absurd (grind arith)
two_there f (x ∷ y ∷ more) h zero l = refl
two_there f (x ∷ y ∷ more) h (suc zero) l = refl
two_there f (x ∷ y ∷ more) h (suc (suc k)) l = absurd (omega arith)

four_there : (f : Formula → Formula → Formula → Formula → Formula) (more : List Read) → is_some (formula_at 0 (four f more)) ≡ true → (k : ℕ) → k < 4 → is_some (formula_at k more) ≡ true
four_there f [] h k l = absurd (grind arith)
four_there f (x ∷ []) h k l = absurd (grind arith)
four_there f (x ∷ y ∷ []) h k l = absurd (grind arith)
four_there f (x ∷ y ∷ u ∷ []) h k l = absurd (grind arith)
four_there f (x ∷ y ∷ u ∷ v ∷ more) h zero l = refl
four_there f (x ∷ y ∷ u ∷ v ∷ more) h (suc zero) l = refl
four_there f (x ∷ y ∷ u ∷ v ∷ more) h (suc (suc zero)) l = refl
four_there f (x ∷ y ∷ u ∷ v ∷ more) h (suc (suc (suc zero))) l = refl
four_there f (x ∷ y ∷ u ∷ v ∷ more) h (suc (suc (suc (suc k)))) l = absurd (omega arith)

operands_there : (t : Token) (xs : List ℕ) (more : List Read) → is_some (formula_at 0 (joins t xs more)) ≡ true → (k : ℕ) → k < needs t → is_some (formula_at k more) ≡ true
operands_there (Number n) xs more h k l = absurd (omega arith)
operands_there (Cell p) xs more h k l = absurd (omega arith)
operands_there (Fold g b) xs more h k l = absurd (omega arith)
operands_there (Binary op) xs more h k l = two_there (binary op) more h k l
operands_there IfLess xs more h k l = four_there if_less more h k l

pub operand : (n : ℕ) (xs : List ℕ) (t : Token) (zs : List ℕ) → operand_of n xs ≡ Some (t, zs) → Operand n xs t zs
operand n xs t zs e = go (after n xs) refl e
  where
    go : (o : Option (List ℕ)) → after n xs ≡ o → begun o ≡ Some (t, zs) → Operand n xs t zs
    go None a d = absurd (grind arith)
    go (Some ys) a d =
        let s = skipped xs n ys a in
        let b = begins ys zs t d in
        let r = s.room in
        let l = b.longer in
        let starts : formula_at n (reads xs) ≡ formula_at 0 (joins t zs (reads zs)) = sym (at_drop n (reads xs)) ∙ ap (formula_at 0) (sym s.reads_rest ∙ reads_step ys zs t d) in
        record { shorter = omega arith; begins = starts; operands = λ h. operands_there t zs (reads zs) (ap is_some (sym starts) ∙ h) }

-- where there is a formula, there is a token with which it begins
pub operand_there : (n : ℕ) (xs : List ℕ) → is_some (formula_at n (reads xs)) ≡ true → is_some (operand_of n xs) ≡ true
operand_there n xs h = go (after n xs) refl (after_some n xs h)
  where
    token_there : (ys : List ℕ) (o : Option (Token × List ℕ)) → decoded ys ≡ o → is_some (formula_at 0 (reads ys)) ≡ true → is_some o ≡ true
    token_there ys None d k = rw (reads_none ys d) at k
    token_there ys (Some p) d k = refl

    go : (o : Option (List ℕ)) → after n xs ≡ o → is_some o ≡ true → is_some (begun o) ≡ true
    go None a k = k
    go (Some ys) a k =
        let s = skipped xs n ys a in
        let same : formula_at 0 (reads ys) ≡ formula_at n (reads xs) = ap (formula_at 0) s.reads_rest ∙ at_drop n (reads xs) in
        token_there ys (decoded ys) refl (rw same h)

-- before what is left after one formula stands that formula
pub first_there : (more : List Read) (ys : List ℕ) → Some ys ≡ rest_at 0 more → is_some (formula_at 0 more) ≡ true
first_there [] ys e = absurd (grind arith)
first_there (x ∷ more) ys e = refl

-- the row that is left after n formulas begins with the next
pub next_first : (n : ℕ) (xs ys : List ℕ) → after n xs ≡ Some ys → (formula_at 0 (reads ys) ≡ formula_at n (reads xs)) × (length ys ≤ length xs)
next_first n xs ys e = let s = skipped xs n ys e in let r = s.room in (ap (formula_at 0) s.reads_rest ∙ at_drop n (reads xs), omega arith)
