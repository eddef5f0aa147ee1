-- What is made of a cell from what is rightly known. Assumes nothing.
use Rattle.std.specs.Prelude.{◌≡◌, ℕ, Bool, true, false, cond, not, ◌⊎◌, List, [], ◌∷◌, is_some, Some, None, Ok, Err, Option, Result, refl}
use Rattle.std.proofs.Common.{sym, ap, ◌∙◌, inl, inr, arith}
use Rattle.std.proofs.Math.Path.{fun_ext}
use Rattle.formula.specs.declared.token.CellRef.{CellRef}
use Rattle.formula.specs.Formula.{Formula}
use Rattle.evaluate.specs.declared.value.Value.{Value}
use Rattle.evaluate.specs.declared.stop.Stop.{Stop}
use Rattle.evaluate.specs.declared.stop.Stop.TheVariants as stop
use Rattle.evaluate.specs.Evaluation.{attempt, known, looked_at, value_of}
use Rattle.evaluate.specs.Knowledge.{In, here, there, hidden, first_in, ends_at, Wanting}
use Rattle.evaluate.proofs.Places.{in_first, in_none}
use Rattle.evaluate.proofs.Knowledge.{ends_at_first, wanting}
use Rattle.recalc.specs.Sheets.{cell_shows, cell_looks}
use Rattle.recalc.specs.Numbered.{tried, tried_cell}

-- what a table knows of the cells is what they show
abbrev pub RightAt : (ℕ → ℕ → Option Value) → (ℕ → ℕ → Value) → Type 0
RightAt t f = (r c : ℕ) (v : Value) → t r c ≡ Some v → f r c ≡ v

abbrev unknown : (ℕ → ℕ → Option Value) → ℕ → ℕ → Bool
unknown t r c = not (is_some (t r c))

-- a table that is right hides what it does not know
right_hides : (t : ℕ → ℕ → Option Value) (f : ℕ → ℕ → Value) → RightAt t f → t ≡ hidden (unknown t) f
right_hides t f right = fun_ext (λ r. fun_ext (λ c. go r c (t r c) (right r c)))
  where
    go : (r c : ℕ) (o : Option Value) → ((v : Value) → o ≡ Some v → f r c ≡ v) → o ≡ cond (not (is_some o)) None (Some (f r c))
    go r c None h = refl
    go r c (Some v) h = ap Some (sym (h v refl))

-- the place at which the work ends, if there is one, and else what is shown
abbrev unless : Option CellRef → Value → Result Value CellRef
unless None v = Ok v
unless (Some p) v = Err p

ended : (f : ℕ → ℕ → Value) (m : Option CellRef) (o : Result ℕ Stop) → Wanting (known f) o → tried (ends_at m o) ≡ unless m (value_of o)
ended f (Some p) o w = refl
ended f None (Ok n) w = refl
ended f None (Err (stop.Error e)) w = refl
ended f None (Err (stop.Needs p)) w = absurd (let z : ◌≡◌ {A = ℕ} 0 1 = cc in omega arith)

tried_right : (t : ℕ → ℕ → Option Value) (f : ℕ → ℕ → Value) → RightAt t f → (x : Option Formula)
    → tried_cell t x ≡ unless (first_in (unknown t) (cell_looks f x)) (cell_shows f x)
tried_right t f right None = refl
tried_right t f right (Some x) =
    ap (λ (u : ℕ → ℕ → Option Value). tried (attempt u x)) (right_hides t f right)
    ∙ ap tried (ends_at_first (unknown t) f x)
    ∙ ended f (first_in (unknown t) (looked_at f x)) (attempt (known f) x) (wanting (known f) x)

-- the first of a list that is hidden is one of it and hidden; where there is none, none is hidden
module _ (s : ℕ → ℕ → Bool) where
  first_hidden : (ps : List CellRef) (p : CellRef) → first_in s ps ≡ Some p → In p ps × (s p.row p.col ≡ true)
  first_hidden [] p e = absurd (let z : ◌≡◌ {A = ℕ} 0 1 = cc in omega arith)
  first_hidden (q ∷ ps) p e = go (s q.row q.col) refl e (first_hidden ps p)
    where
      go : (b : Bool) → s q.row q.col ≡ b → cond b (Some q) (first_in s ps) ≡ Some p
          → (first_in s ps ≡ Some p → In p ps × (s p.row p.col ≡ true)) → In p (q ∷ ps) × (s p.row p.col ≡ true)
      go true e k ih = let same : q ≡ p = cc in rw (← same) (here, e)
      go false e k ih = let t = ih k in (there t.0, t.1)

  none_hidden : {q : CellRef} (ps : List CellRef) → first_in s ps ≡ None → In q ps → s q.row q.col ≡ false
  none_hidden [] e i = in_none i
  none_hidden {q} (p ∷ ps) e i = go (s p.row p.col) refl e (in_first i) (none_hidden ps)
    where
      go : (b : Bool) → s p.row p.col ≡ b → cond b (Some p) (first_in s ps) ≡ None → (q ≡ p) ⊎ In q ps
          → (first_in s ps ≡ None → In q ps → s q.row q.col ≡ false) → s q.row q.col ≡ false
      go true e k j ih = absurd (let z : ◌≡◌ {A = ℕ} 0 1 = cc in omega arith)
      go false e k (inl same) ih = rw same e
      go false e k (inr j) ih = ih k j

nothing_known : (o : Option Value) → not (is_some o) ≡ true → o ≡ None
nothing_known None e = refl
nothing_known (Some v) e = absurd (let z : ◌≡◌ {A = ℕ} 0 1 = grind arith in omega arith)

something_known : (o : Option Value) → not (is_some o) ≡ false → (v : Value) × (o ≡ Some v)
something_known None e = absurd (let z : ◌≡◌ {A = ℕ} 0 1 = grind arith in omega arith)
something_known (Some v) e = (v, refl)

-- f says what each cell shows, and t knows some of it
module _ (t : ℕ → ℕ → Option Value) (f : ℕ → ℕ → Value) (right : RightAt t f) (x : Option Formula) where
  -- what is made of the cell is what it shows, and every place that it looks at is known
  pub made : (v : Value) → tried_cell t x ≡ Ok v → (cell_shows f x ≡ v) × ((q : CellRef) → In q (cell_looks f x) → (w : Value) × (t q.row q.col ≡ Some w))
  made v e = go (first_in (unknown t) (cell_looks f x)) refl (sym (tried_right t f right x) ∙ e)
    where
      go : (m : Option CellRef) → first_in (unknown t) (cell_looks f x) ≡ m → unless m (cell_shows f x) ≡ Ok v
          → (cell_shows f x ≡ v) × ((q : CellRef) → In q (cell_looks f x) → (w : Value) × (t q.row q.col ≡ Some w))
      go None d k = (cc, λ q i. something_known (t q.row q.col) (none_hidden (unknown t) (cell_looks f x) d i))
      go (Some p) d k = absurd (let z : ◌≡◌ {A = ℕ} 0 1 = cc in omega arith)

  -- a place that is wanted is looked at, and not known
  pub wanted : (q : CellRef) → tried_cell t x ≡ Err q → In q (cell_looks f x) × (t q.row q.col ≡ None)
  wanted q e = go (first_in (unknown t) (cell_looks f x)) refl (sym (tried_right t f right x) ∙ e)
    where
      go : (m : Option CellRef) → first_in (unknown t) (cell_looks f x) ≡ m → unless m (cell_shows f x) ≡ Err q → In q (cell_looks f x) × (t q.row q.col ≡ None)
      go None d k = absurd (let z : ◌≡◌ {A = ℕ} 0 1 = cc in omega arith)
      go (Some p) d k =
          let same : p ≡ q = cc in
          let h = first_hidden (unknown t) (cell_looks f x) q (d ∙ ap Some same) in
          (h.0, nothing_known (t q.row q.col) h.1)
