-- A sheet is a lawful language: the proof that `LentSheet` and `Lent` hand to the engine, with its lemmas. Assumes nothing.
use Rattle.std.specs.Prelude.{◌≡◌, ℕ, ◌<◌, Bool, true, false, cond, Some, None, Option, nat_lt}
use Rattle.std.proofs.Math.Path.{refl, ap}
use Rattle.std.proofs.Common.{sym, subst, ◌∙◌, arith}
use Rattle.std.proofs.lemmas.Bool.{cond-true, and_parts, ltb-true}
use Rattle.std.proofs.lemmas.Nat.{mul-add-lt}
use Rattle.formula.specs.declared.token.CellRef.{CellRef}
use Rattle.formula.specs.Formula.{Formula}
use Rattle.evaluate.specs.declared.value.CellError.TheVariants.{Cycle}
use Rattle.evaluate.specs.declared.value.Value.{Value}
use Rattle.evaluate.specs.declared.value.Value.TheVariants.{Empty, Error}
use Rattle.evaluate.specs.Traces.{Trace}
use Rattle.evaluate.specs.Evaluation.{value_of}
use Rattle.evaluate.specs.Knowledge.{In}
use Rattle.evaluate.proofs.Places.{in_none}
use Rattle.evaluate.proofs.Looked.{same_trace, ends_in_error, cycle_looked_at}
use Rattle.recalc.specs.Sheets.{Sheet, inside, cell_shows, cell_looks}
use Rattle.recalc.specs.Language.{Lawful}
use Rattle.recalc.specs.Numbered.{count, number_of, nth_cell, laid, worked, LooksAt, sheet_language}

-- inside, in terms of numbers
pub inside_is : (s : Sheet) (r c : ℕ) → inside s r c ≡ true → (r < s.rows) × (c < s.cols)
inside_is s r c e = let t = and_parts (nat_lt r s.rows) (nat_lt c s.cols) e in (ltb-true r s.rows t.0, ltb-true c s.cols t.1)

pub number_inside : (s : Sheet) (q : CellRef) → inside s q.row q.col ≡ true → number_of s q < count s
number_inside s q e = let l = inside_is s q.row q.col e in omega (arith, mul-add-lt q.row s.cols q.col s.rows l.0 l.1)

-- a cell takes what it takes from the places that it looks at
pub cell_local : (f g : ℕ → ℕ → Value) (o : Option Formula) → ((q : CellRef) → In q (cell_looks f o) → g q.row q.col ≡ f q.row q.col)
    → (cell_looks g o ≡ cell_looks f o) × (cell_shows g o ≡ cell_shows f o)
cell_local f g None h = (refl, refl)
cell_local f g (Some x) h = let e = same_trace f g x h in (ap (λ (t : Trace ℕ). t.looks) e, ap (λ (t : Trace ℕ). value_of t.end) e)

cell_strict : (f : ℕ → ℕ → Value) (o : Option Formula) (q : CellRef) → In q (cell_looks f o) → f q.row q.col ≡ Error Cycle → cell_shows f o ≡ Error Cycle
cell_strict f None q i e = in_none i
cell_strict f (Some x) q i e = ap value_of (ends_in_error f q Cycle e x i)

cell_source : (f : ℕ → ℕ → Value) (o : Option Formula) → cell_shows f o ≡ Error Cycle → (q : CellRef) × In q (cell_looks f o) × (f q.row q.col ≡ Error Cycle)
cell_source f None e = absurd (let z : ◌≡◌ {A = ℕ} 0 1 = cc in omega arith)
cell_source f (Some x) e = cycle_looked_at f x e

module _ (s : Sheet) where
  -- what is laid out at a place
  pub laid_inside : (f : ℕ → Value) (q : CellRef) → inside s q.row q.col ≡ true → laid s f q.row q.col ≡ f (number_of s q)
  laid_inside f q e = cond-true (inside s q.row q.col) (f (number_of s q)) Empty e

  pub laid_same : (f g : ℕ → Value) (q : CellRef) → (inside s q.row q.col ≡ true → g (number_of s q) ≡ f (number_of s q)) → laid s g q.row q.col ≡ laid s f q.row q.col
  laid_same f g q h = go (inside s q.row q.col) h
    where
      go : (b : Bool) → (b ≡ true → g (number_of s q) ≡ f (number_of s q)) → cond b (g (number_of s q)) Empty ≡ cond b (f (number_of s q)) Empty
      go true h = h refl
      go false h = refl

  pub laid_cycle : (f : ℕ → Value) (q : CellRef) → laid s f q.row q.col ≡ Error Cycle → (inside s q.row q.col ≡ true) × (f (number_of s q) ≡ Error Cycle)
  laid_cycle f q e = go (inside s q.row q.col) refl e
    where
      go : (b : Bool) → inside s q.row q.col ≡ b → cond b (f (number_of s q)) Empty ≡ Error Cycle → (inside s q.row q.col ≡ true) × (f (number_of s q) ≡ Error Cycle)
      go true d e = (d, e)
      go false d e = absurd (let z : ◌≡◌ {A = ℕ} 0 1 = cc in omega arith)

  agree : (f g : ℕ → Value) (k : ℕ) → ((j : ℕ) → LooksAt s f k j → f j ≡ g j) → (cell_looks (laid s g) (nth_cell s k) ≡ cell_looks (laid s f) (nth_cell s k)) × (worked s g k ≡ worked s f k)
  agree f g k h = cell_local (laid s f) (laid s g) (nth_cell s k) (λ q i. laid_same f g q (λ within. sym (h (number_of s q) (q, i, within, refl))))

  pub lawful : Lawful (sheet_language s)
  lawful =
      record {
        local = λ f g k h. sym (agree f g k h).1;
        looks_local = λ f g k h i (q, l, within, e). (q, subst (In q) (agree f g k h).0 l, within, e);
        strict = λ f k j (q, l, within, e) d. cell_strict (laid s f) (nth_cell s k) q l (laid_inside f q within ∙ ap f e ∙ d);
        source = λ f k e. let t = cell_source (laid s f) (nth_cell s k) e in let u = laid_cycle f t.0 t.2 in (number_of s t.0, (t.0, t.1, u.0, refl), u.1);
        inside = λ f k j (q, l, within, e). subst (λ n. n < count s) e (number_inside s q within);
      }
