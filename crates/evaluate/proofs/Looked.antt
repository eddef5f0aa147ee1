-- What a formula takes from the places that it looks at. Assumes nothing.
use Rattle.std.proofs.Common.{◌≡◌, ℕ, ◌⊎◌, List, [], ◌∷◌, ◌++◌, Some, Ok, Err, Option, Result, sym, refl, ap, ◌∙◌, subst, inl, inr}
use Rattle.formula.specs.declared.token.CellRef.{CellRef}
use Rattle.formula.specs.Formula.{Formula}
use Rattle.evaluate.specs.declared.value.CellError.{CellError}
use Rattle.evaluate.specs.declared.value.CellError.TheVariants.{Cycle}
use Rattle.evaluate.specs.declared.value.Value.{Value}
use Rattle.evaluate.specs.declared.value.Value.TheVariants.{Empty, Error}
use Rattle.evaluate.specs.declared.stop.Stop.{Stop}
use Rattle.evaluate.specs.declared.stop.Stop.TheVariants as stop
use Rattle.evaluate.specs.Traces.{Trace, seen, look, bind, looks_on, then}
use Rattle.evaluate.specs.Evaluation.{trace, attempt, known, looked_at, value_of, evaluated}
use Rattle.evaluate.specs.Knowledge.{In, here, there, Wanting}
use Rattle.evaluate.proofs.Places.{in_first, in_none, in_left, in_right, in_either}
use Rattle.evaluate.proofs.Related.{Plain, related}
use Rattle.evaluate.proofs.Knowledge.{wanting}

-- one piece of work after another, where what comes second differs only where it does not come
then_same : {A B : Type 0} (u : Trace A) (go on : A → Trace B) → ((a : A) → u.end ≡ Ok a → go a ≡ on a) → then u go ≡ then u on
then_same {A} {B} u go on k = rest u.end refl
  where
    joined : Result A Stop → (A → Trace B) → Trace B
    joined o k = record { looks = u.looks ++ looks_on o (λ a. (k a).looks); end = bind o (λ a. (k a).end) }

    rest : (o : Result A Stop) → u.end ≡ o → joined o go ≡ joined o on
    rest (Ok a) e = ap (λ (t : Trace B). record { looks = u.looks ++ t.looks; end = t.end }) (k a e)
    rest (Err x) e = refl

-- what is looked at second is looked at
in_second : {A B : Type 0} {q : CellRef} (u : Trace A) (on : A → Trace B) (a : A) → u.end ≡ Ok a → In q (on a).looks → In q (then u on).looks
in_second {A} {B} {q} u on a e i = in_right u.looks _ (subst (λ (o : Result A Stop). In q (looks_on o (λ b. (on b).looks))) (sym e) i)

-- the work is the same where the cells agree at the places that it looks at
module _ (f g : ℕ → ℕ → Value) where
  abbrev Agree : List CellRef → Type 0
  Agree ps = (q : CellRef) → In q ps → g q.row q.col ≡ f q.row q.col

  pub same_trace : (x : Formula) → Agree (looked_at f x) → trace (known g) x ≡ trace (known f) x
  same_trace = related (known g) (known f) (λ A t u. Agree u.looks → t ≡ u) (λ A o p h. refl) at_look at_then
    where
      at_look : (A : Type 0) (p : CellRef) (go : Option ℕ → A) → Agree (p ∷ []) → look (known g) p go ≡ look (known f) p go
      at_look A p go h = ap (λ v. record { looks = p ∷ []; end = seen p (Some v) go }) (h p here)

      at_then : (A B : Type 0) (t u : Trace A) (go on : A → Trace B) → (Agree u.looks → t ≡ u) → ((a : A) → Agree (on a).looks → go a ≡ on a)
          → Agree (then u on).looks → then t go ≡ then u on
      at_then A B t u go on r k h =
          ap (λ (w : Trace A). then w go) (r (λ q i. h q (in_left u.looks _ i))) ∙ then_same u go on (λ a e. k a (λ q i. h q (in_second u on a e i)))

-- a formula that looks at an error ends with it
module _ (f : ℕ → ℕ → Value) (q : CellRef) (e : CellError) (wrong : f q.row q.col ≡ Error e) where
  pub ends_in_error : (x : Formula) → In q (looked_at f x) → attempt (known f) x ≡ Err (stop.Error e)
  ends_in_error = related (known f) (known f) (λ A t u. In q t.looks → t.end ≡ Err (stop.Error e)) (λ A o p i. in_none i) at_look at_then
    where
      at_look : (A : Type 0) (p : CellRef) (go : Option ℕ → A) → In q (p ∷ []) → (look (known f) p go).end ≡ Err (stop.Error e)
      at_look A p go i = elim (in_first i) [ inl same ↦ found (subst (λ (r : CellRef). f r.row r.col ≡ Error e) same wrong) | inr j ↦ in_none j ]
        where
          found : f p.row p.col ≡ Error e → (look (known f) p go).end ≡ Err (stop.Error e)
          found d = rw d

      at_then : (A B : Type 0) (t u : Trace A) (go on : A → Trace B) → (In q t.looks → t.end ≡ Err (stop.Error e)) → ((a : A) → In q (go a).looks → (go a).end ≡ Err (stop.Error e))
          → In q (then t go).looks → (then t go).end ≡ Err (stop.Error e)
      at_then A B t u go on h k i = elim (in_either t.looks _ i) [ inl j ↦ ap (λ o. bind o (λ a. (go a).end)) (h j) | inr j ↦ second t.end j ]
        where
          second : (o : Result A Stop) → In q (looks_on o (λ a. (go a).looks)) → bind o (λ a. (go a).end) ≡ Err (stop.Error e)
          second (Ok a) j = k a j
          second (Err x) j = in_none j

-- the cycle error comes from a place that shows it
module _ (f : ℕ → ℕ → Value) where
  abbrev NoCycle : List CellRef → Type 0
  NoCycle ps = (q : CellRef) → In q ps → f q.row q.col ≡ Error Cycle → ⊥

  abbrev Calm : {A : Type 0} → Result A Stop → Type 0
  Calm (Err (stop.Error Cycle)) = ⊥
  Calm o = Unit {0}

  calm : (x : Formula) → NoCycle (looked_at f x) → Calm (attempt (known f) x)
  calm = related (known f) (known f) (λ A t u. NoCycle t.looks → Calm t.end) (λ A o p h. at_end o p) at_look at_then
    where
      at_end : {A : Type 0} (o : Result A Stop) → Plain o → Calm o
      at_end (Err (stop.Error Cycle)) p = p
      at_end o p = tt

      at_look : (A : Type 0) (p : CellRef) (go : Option ℕ → A) → NoCycle (p ∷ []) → Calm (look (known f) p go).end
      at_look A p go h = one (f p.row p.col) (h p here)
        where
          one : (v : Value) → (v ≡ Error Cycle → ⊥) → Calm (seen p (Some v) go)
          one (Error Cycle) n = n refl
          one v n = tt

      at_then : (A B : Type 0) (t u : Trace A) (go on : A → Trace B) → (NoCycle t.looks → Calm t.end) → ((a : A) → NoCycle (go a).looks → Calm (go a).end)
          → NoCycle (then t go).looks → Calm (then t go).end
      at_then A B t u go on r k h = both t.end refl (r (λ q i. h q (in_left t.looks _ i)))
        where
          both : (o : Result A Stop) → t.end ≡ o → Calm o → Calm (bind o (λ a. (go a).end))
          both (Ok a) e c = k a (λ q i. h q (in_second t go a e i))
          both (Err (stop.Error Cycle)) e c = c
          both (Err x) e c = tt

  -- one of the places shows it, or none does
  find : (ps : List CellRef) → ((q : CellRef) × In q ps × (f q.row q.col ≡ Error Cycle)) ⊎ NoCycle ps
  find [] = inr (λ q i e. in_none i)
  find (p ∷ ps) = go (f p.row p.col) refl (find ps)
    where
      Found : List CellRef → Type 0
      Found rs = (q : CellRef) × In q rs × (f q.row q.col ≡ Error Cycle)

      past : (v : Value) → f p.row p.col ≡ v → (v ≡ Error Cycle → ⊥) → Found ps ⊎ NoCycle ps → Found (p ∷ ps) ⊎ NoCycle (p ∷ ps)
      past v e n (inl x) = inl (x.0, there x.1, x.2)
      past v e n (inr h) =
          inr (λ q i d. elim (in_first i) [ inl same ↦ n (sym e ∙ subst (λ (r : CellRef). f r.row r.col ≡ Error Cycle) same d) | inr j ↦ h q j d ])

      go : (v : Value) → f p.row p.col ≡ v → Found ps ⊎ NoCycle ps → Found (p ∷ ps) ⊎ NoCycle (p ∷ ps)
      go (Error Cycle) e x = inl (p, here, e)
      go v e x = past v e (λ d. cc) x

  pub cycle_looked_at : (x : Formula) → evaluated f x ≡ Error Cycle → (q : CellRef) × In q (looked_at f x) × (f q.row q.col ≡ Error Cycle)
  cycle_looked_at x e = elim (find (looked_at f x)) [ inl found ↦ found | inr none ↦ absurd (uncalm (attempt (known f) x) (calm x none) e) ]
    where
      uncalm : (o : Result ℕ Stop) → Calm o → value_of o ≡ Error Cycle → ⊥
      uncalm (Err (stop.Error Cycle)) c d = c
      uncalm o c d = cc

  -- a formula never shows nothing
  pub never_empty : (x : Formula) → evaluated f x ≡ Empty → ⊥
  never_empty x e = go (attempt (known f) x) (wanting (known f) x) e
    where
      go : (o : Result ℕ Stop) → Wanting (known f) o → value_of o ≡ Empty → ⊥
      go (Ok n) w d = cc
      go (Err (stop.Error x)) w d = cc
      go (Err (stop.Needs p)) w d = cc
