-- Work from a part of what the cells show, and from more of it. Assumes nothing.
use Rattle.std.proofs.Common.{◌≡◌, ℕ, Bool, true, false, cond, List, [], ◌∷◌, ◌++◌, Some, None, Ok, Err, Option, Result, sym, refl, ap, ◌∙◌}
use Rattle.std.specs.Option.{option_or}
use Rattle.formula.specs.declared.token.CellRef.{CellRef}
use Rattle.formula.specs.Formula.{Formula}
use Rattle.evaluate.specs.declared.value.Value.{Value}
use Rattle.evaluate.specs.declared.value.Value.TheVariants.{Empty, Number, Error}
use Rattle.evaluate.specs.declared.stop.Stop.{Stop}
use Rattle.evaluate.specs.declared.stop.Stop.TheVariants as stop
use Rattle.evaluate.specs.Traces.{Trace, seen, look, bind, looks_on, then}
use Rattle.evaluate.specs.Evaluation.{attempt, known, looked_at}
use Rattle.evaluate.specs.Knowledge.{hidden, first_in, ends_at, Within, Stays, Wanting}
use Rattle.evaluate.proofs.Related.{Plain, related}

-- work from what is not hidden ends at the first hidden place
module _ (s : ℕ → ℕ → Bool) where
  first_append : (ps qs : List CellRef) → first_in s (ps ++ qs) ≡ option_or (first_in s ps) (first_in s qs)
  first_append [] qs = refl
  first_append (p ∷ ps) qs = go (s p.row p.col) (first_append ps qs)
    where
      go : (b : Bool) → first_in s (ps ++ qs) ≡ option_or (first_in s ps) (first_in s qs)
          → cond b (Some p) (first_in s (ps ++ qs)) ≡ option_or (cond b (Some p) (first_in s ps)) (first_in s qs)
      go true e = refl
      go false e = e

  -- the first piece meets a hidden place, or the second does, or none
  in_turn : {A B : Type 0} (m n : Option CellRef) (o : Result A Stop) (go on : A → Result B Stop) → ((a : A) → o ≡ Ok a → go a ≡ ends_at n (on a))
      → ((x : Stop) → o ≡ Err x → n ≡ None) → bind (ends_at m o) go ≡ ends_at (option_or m n) (bind o on)
  in_turn (Some p) n o go on k l = refl
  in_turn None n (Ok a) go on k l = k a refl
  in_turn None n (Err x) go on k l = rw (l x refl)

  pub ends_at_first : (f : ℕ → ℕ → Value) (x : Formula) → attempt (hidden s f) x ≡ ends_at (first_in s (looked_at f x)) (attempt (known f) x)
  ends_at_first f = related (hidden s f) (known f) (λ A t u. t.end ≡ ends_at (first_in s u.looks) u.end) (λ A o p. refl) at_look at_then
    where
      at_look : (A : Type 0) (p : CellRef) (go : Option ℕ → A) → (look (hidden s f) p go).end ≡ ends_at (first_in s (p ∷ [])) (look (known f) p go).end
      at_look A p go = one (s p.row p.col) (f p.row p.col)
        where
          one : (b : Bool) (v : Value) → seen p (cond b None (Some v)) go ≡ ends_at (cond b (Some p) None) (seen p (Some v) go)
          one true v = refl
          one false v = refl

      at_then : (A B : Type 0) (t u : Trace A) (go on : A → Trace B) → t.end ≡ ends_at (first_in s u.looks) u.end
          → ((a : A) → (go a).end ≡ ends_at (first_in s (on a).looks) (on a).end) → (then t go).end ≡ ends_at (first_in s (then u on).looks) (then u on).end
      at_then A B t u go on e k =
          ap (λ o. bind o (λ a. (go a).end)) e
          ∙ in_turn (first_in s u.looks) (first_in s (looks_on u.end (λ a. (on a).looks))) u.end (λ a. (go a).end) (λ a. (on a).end)
          (λ a d. k a ∙ ap (λ o. ends_at (first_in s (looks_on o (λ b. (on b).looks))) (on a).end) (sym d))
          (λ x d. ap (λ o. first_in s (looks_on o (λ b. (on b).looks))) d)
          ∙ ap (λ m. ends_at m (then u on).end) (sym (first_append u.looks (looks_on u.end (λ a. (on a).looks))))

-- knowing more changes nothing that was settled
stays_same : {A : Type 0} (o : Result A Stop) → Stays o o
stays_same (Ok a) = refl
stays_same (Err (stop.Error e)) = refl
stays_same (Err (stop.Needs p)) = tt

pub stays : (f g : ℕ → ℕ → Option Value) → Within f g → (x : Formula) → Stays (attempt f x) (attempt g x)
stays f g more = related f g (λ A t u. Stays t.end u.end) (λ A o p. stays_same o) at_look at_then
  where
    at_look : (A : Type 0) (p : CellRef) (go : Option ℕ → A) → Stays (look f p go).end (look g p go).end
    at_look A p go = one (f p.row p.col) (g p.row p.col) (more p.row p.col)
      where
        one : (o q : Option Value) → ((v : Value) → o ≡ Some v → q ≡ Some v) → Stays (seen p o go) (seen p q go)
        one None q h = tt
        one (Some v) q h = rw (h v refl) (stays_same (seen p (Some v) go))

    at_then : (A B : Type 0) (t u : Trace A) (go on : A → Trace B) → Stays t.end u.end → ((a : A) → Stays (go a).end (on a).end) → Stays (then t go).end (then u on).end
    at_then A B t u go on s k = both t.end u.end s
      where
        both : (o q : Result A Stop) → Stays o q → Stays (bind o (λ a. (go a).end)) (bind q (λ a. (on a).end))
        both (Ok a) q e = rw e (k a)
        both (Err (stop.Error x)) q e = rw e
        both (Err (stop.Needs p)) q e = tt

-- a place that is wanted is not known
pub wanting : (f : ℕ → ℕ → Option Value) (x : Formula) → Wanting f (attempt f x)
wanting f = related f f (λ A t u. Wanting f t.end) at_end at_look at_then
  where
    at_end : (A : Type 0) (o : Result A Stop) → Plain o → Wanting f o
    at_end A (Ok a) p = tt
    at_end A (Err (stop.Error e)) p = tt
    at_end A (Err (stop.Needs q)) p = absurd p

    at_look : (A : Type 0) (p : CellRef) (go : Option ℕ → A) → Wanting f (look f p go).end
    at_look A p go = one (f p.row p.col) refl
      where
        one : (o : Option Value) → f p.row p.col ≡ o → Wanting f (seen p o go)
        one None e = e
        one (Some Empty) e = tt
        one (Some (Number n)) e = tt
        one (Some (Error x)) e = tt

    at_then : (A B : Type 0) (t u : Trace A) (go on : A → Trace B) → Wanting f t.end → ((a : A) → Wanting f (go a).end) → Wanting f (then t go).end
    at_then A B t u go on w k = both t.end w
      where
        both : (o : Result A Stop) → Wanting f o → Wanting f (bind o (λ a. (go a).end))
        both (Ok a) w = k a
        both (Err (stop.Error x)) w = tt
        both (Err (stop.Needs p)) w = w
