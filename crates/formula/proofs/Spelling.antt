-- What is read is what is spelled. Assumes nothing.
use Rattle.std.proofs.Common.{◌≡◌, ℕ, ◌≤◌, Bool, true, false, cond, leb, List, [], ◌∷◌, length, Some, None, refl, ap, ◌∙◌, arith}
use Rattle.std.proofs.lemmas.Bool.{le-leb, leb-true}
use Rattle.formula.specs.declared.token.Token.{Token}
use Rattle.formula.specs.declared.token.Token.TheVariants.{Number, Cell, Fold, Binary, IfLess}
use Rattle.formula.specs.Layout.{formula_len}
use Rattle.formula.specs.Tokens.{decoded}
use Rattle.formula.specs.Formula.{Formula}
use Rattle.formula.specs.Spelling.{Spells, a_number, a_cell, a_fold, an_operation, a_choice}
use Rattle.formula.specs.Reading.{Read, read, joins, reads, formula_at, ends, whole, spelled}
use Rattle.formula.proofs.Steps.{by_token, reads_step, reads_none}

-- what is spelled is read
pub reads_spelled : {ws bs : List ℕ} {f : Formula} → Spells ws f bs → reads ws ≡ read f bs ∷ reads bs
reads_spelled (a_number {ws = ws} {bs = bs} d) = reads_step ws bs _ d
reads_spelled (a_cell {ws = ws} {bs = bs} d) = reads_step ws bs _ d
reads_spelled (a_fold {ws = ws} {bs = bs} d) = reads_step ws bs _ d
reads_spelled (an_operation {ws = ws} {bs = bs} d s t) = reads_step ws bs _ d ∙ rw (reads_spelled s, reads_spelled t)
reads_spelled (a_choice {ws = ws} {bs = bs} d s t p q) = reads_step ws bs _ d ∙ rw (reads_spelled s, reads_spelled t, reads_spelled p, reads_spelled q)

pub spelled_whole : (ws : List ℕ) (f : Formula) → length ws ≤ formula_len → Spells ws f [] → spelled ws ≡ Some f
spelled_whole ws f h s = rw (le-leb (length ws) formula_len h, reads_spelled s)

-- each of a row of formulas is spelled, one after another
abbrev Chain : List ℕ → List Read → Type 0
Chain ws [] = Unit {0}
Chain ws (x ∷ more) = Spells ws x.formula x.rest × Chain x.rest more

chain_joins : (t : Token) (ws bs : List ℕ) (more : List Read) → decoded ws ≡ Some (t, bs) → Chain bs more → Chain ws (joins t bs more)
chain_joins (Number n) ws bs more d c = (a_number d, c)
chain_joins (Cell p) ws bs more d c = (a_cell d, c)
chain_joins (Fold g b) ws bs more d c = (a_fold d, c)
chain_joins (Binary op) ws bs [] d c = tt
chain_joins (Binary op) ws bs (x ∷ []) d c = tt
chain_joins (Binary op) ws bs (x ∷ y ∷ more) d c = (an_operation d c.0 c.1.0, c.1.1)
chain_joins IfLess ws bs [] d c = tt
chain_joins IfLess ws bs (x ∷ []) d c = tt
chain_joins IfLess ws bs (x ∷ y ∷ []) d c = tt
chain_joins IfLess ws bs (x ∷ y ∷ u ∷ []) d c = tt
chain_joins IfLess ws bs (x ∷ y ∷ u ∷ v ∷ more) d c = (a_choice d c.0 c.1.0 c.1.1.0 c.1.1.1.0, c.1.1.1.1)

chain : (ws : List ℕ) → Chain ws (reads ws)
chain = by_token (λ ws. Chain ws (reads ws)) (λ ws d. rw (reads_none ws d) tt) (λ ws bs t b c. rw (reads_step ws bs t b.is) (chain_joins t ws bs (reads bs) b.is c))

-- what is read is spelled
pub whole_spelled : (ws : List ℕ) (f : Formula) → spelled ws ≡ Some f → (length ws ≤ formula_len) × Spells ws f []
whole_spelled ws f e = go (leb (length ws) formula_len) refl e
  where
    at_end : (x : Read) → Spells ws x.formula x.rest → (rest : List ℕ) → x.rest ≡ rest → ends rest x.formula ≡ Some f → Spells ws f []
    at_end x s [] r e = let same : x.formula ≡ f = cc in rw (← same, ← r) s
    at_end x s (y ∷ ys) r e = absurd (grind arith)

    inner : (rs : List Read) → Chain ws rs → whole rs ≡ Some f → Spells ws f []
    inner [] c e = absurd (grind arith)
    inner (x ∷ more) c e = at_end x c.0 x.rest refl e

    go : (b : Bool) → leb (length ws) formula_len ≡ b → cond b (whole (reads ws)) None ≡ Some f → (length ws ≤ formula_len) × Spells ws f []
    go true l e = (leb-true (length ws) formula_len l, inner (reads ws) (chain ws) e)
    go false l e = absurd (grind arith)

-- the formula that a row is stands first in it
pub spelled_first : (ws : List ℕ) (f : Formula) → spelled ws ≡ Some f → formula_at 0 (reads ws) ≡ Some f
spelled_first ws f e = ap (formula_at 0) (reads_spelled (whole_spelled ws f e).1)
