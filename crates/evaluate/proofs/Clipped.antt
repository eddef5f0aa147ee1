-- Cells outside the sheet change nothing that is gathered, and are on no trail. Assumes nothing.
use Rattle.std.proofs.Common.{◌≡◌, ℕ, zero, suc, ◌+◌, ◌-◌, ◌≤◌, min, Bool, true, false, cond, ◌&&◌, ltb, [], ◌∷◌, ◌++◌, Some, Ok, Err, Option, Result, sym, refl, ap, ◌∙◌, ⊎_elim, arith}
use Rattle.std.proofs.lemmas.Bool.{cases_lt, le-ltb}
use Rattle.formula.specs.declared.token.Range.{Range}
use Rattle.formula.specs.Tokens.{the_ref}
use Rattle.evaluate.specs.declared.value.Value.{Value}
use Rattle.evaluate.specs.declared.value.Value.TheVariants.{Empty}
use Rattle.evaluate.specs.declared.stop.Stop.{Stop}
use Rattle.evaluate.specs.Tallies.{Tally}
use Rattle.evaluate.specs.Traces.{Trace, ends, look, bind, looks_on, then, each}
use Rattle.evaluate.specs.Evaluation.{none_yet, counted, gathered_row, gathered}
use Rattle.evaluate.specs.Trails.{inside, Log, Follows}
use Rattle.evaluate.proofs.Trails.{inside_append}

module _ (h w : ℕ) where
  -- two pieces of work that end alike and look at the same places of the sheet
  pub record Alike {A : Type 0} (t u : Trace A) : Type 0 where
    pub end : t.end ≡ u.end
    pub looks : inside h w t.looks ≡ inside h w u.looks

  alike_same : {A : Type 0} (t : Trace A) → Alike t t
  alike_same t = record { end = refl; looks = refl }

  alike_via : {A : Type 0} {t u v : Trace A} → Alike t u → Alike u v → Alike t v
  alike_via a b = record { end = a.end ∙ b.end; looks = a.looks ∙ b.looks }

  alike_then : {A B : Type 0} (t u : Trace A) (go on : A → Trace B) → Alike t u → ((a : A) → Alike (go a) (on a)) → Alike (then t go) (then u on)
  alike_then {A} {B} t u go on a b =
      record {
        end = ap (λ o. bind o (λ x. (go x).end)) a.end ∙ ends_alike u.end;
        looks = inside_append h w t.looks (looks_on t.end (λ x. (go x).looks))
            ∙ ap (λ ps. ps ++ inside h w (looks_on t.end (λ x. (go x).looks))) a.looks
            ∙ ap (λ o. inside h w u.looks ++ inside h w (looks_on o (λ x. (go x).looks))) a.end
            ∙ ap (λ ps. inside h w u.looks ++ ps) (looks_alike u.end)
            ∙ sym (inside_append h w u.looks (looks_on u.end (λ x. (on x).looks)));
      }
    where
      ends_alike : (o : Result A Stop) → bind o (λ x. (go x).end) ≡ bind o (λ x. (on x).end)
      ends_alike (Ok x) = (b x).end
      ends_alike (Err x) = refl

      looks_alike : (o : Result A Stop) → inside h w (looks_on o (λ x. (go x).looks)) ≡ inside h w (looks_on o (λ x. (on x).looks))
      looks_alike (Ok x) = (b x).looks
      looks_alike (Err x) = refl

  -- lines that are alike, one by one
  alike_each : {A : Type 0} (line other : ℕ → A → Trace A) → ((i : ℕ) (a : A) → Alike (line i a) (other i a)) → (i n : ℕ) (a : A) → Alike (each line i n a) (each other i n a)
  unfolding each
  alike_each line other e i zero a = alike_same (ends (Ok a))
  alike_each line other e i (suc n) a = alike_then (line i a) (other i a) _ _ (e i a) (λ b. alike_each line other e (suc i) n b)

  -- a line that does nothing is as if it were not there
  idle_first : {A : Type 0} (line : ℕ → A → Trace A) (i n : ℕ) (a : A) → Alike (line i a) (ends (Ok a)) → Alike (each line i (suc n) a) (each line (suc i) n a)
  unfolding each
  idle_first line i n a e = alike_then (line i a) (ends (Ok a)) _ _ e (λ b. alike_same (each line (suc i) n b))

  idle_each : {A : Type 0} (line : ℕ → A → Trace A) (i n : ℕ) (a : A) → ((j : ℕ) (b : A) → Alike (line j b) (ends (Ok b))) → Alike (each line i n a) (ends (Ok a))
  unfolding each
  idle_each line i zero a e = alike_same (ends (Ok a))
  idle_each line i (suc n) a e = alike_via (idle_first line i n a (e i a)) (idle_each line (suc i) n a e)

  -- lines from line m on do nothing: the others are enough
  clipped_each : {A : Type 0} (line : ℕ → A → Trace A) (m : ℕ) → ((j : ℕ) → m ≤ j → (b : A) → Alike (line j b) (ends (Ok b)))
      → (i n : ℕ) (a : A) → Alike (each line i n a) (each line i (min (i + n) m - i) a)
  unfolding each
  clipped_each line m e i zero a = let z : min (i + 0) m - i ≡ 0 = omega arith in rw z (alike_same (ends (Ok a)))
  clipped_each line m e i (suc n) a =
      ⊎_elim
      (λ l.
      let s : min (i + suc n) m - i ≡ suc (min (suc i + n) m - suc i) = omega arith in
      rw s (alike_then (line i a) (line i a) _ _ (alike_same (line i a)) (λ b. clipped_each line m e (suc i) n b)))
      (λ l.
      let z : min (i + suc n) m - i ≡ 0 = omega arith in
      let y : min (suc i + n) m - suc i ≡ 0 = omega arith in
      rw z (alike_via (idle_first line i n a (e i l a)) (rw y at (clipped_each line m e (suc i) n a))))
      (cases_lt i m)

  module _ (f : ℕ → ℕ → Option Value) (below : (i j : ℕ) → h ≤ i → f i j ≡ Some Empty) (beside : (i j : ℕ) → w ≤ j → f i j ≡ Some Empty) where
    idle_beside : (r c : ℕ) → w ≤ c → (t : Tally) → Alike (look f (the_ref r c) (counted t)) (ends (Ok t))
    unfolding inside
    idle_beside r c l t = record { end = rw (beside r c l); looks = rw (le-ltb c w l) (go (ltb r h)) }
      where
        go : (b : Bool) → cond (b && false) (the_ref r c ∷ []) [] ≡ []
        go true = refl
        go false = refl

    idle_below : (r c : ℕ) → h ≤ r → (t : Tally) → Alike (look f (the_ref r c) (counted t)) (ends (Ok t))
    unfolding inside
    idle_below r c l t = record { end = rw (below r c l); looks = rw (le-ltb r h l) }

    -- what is gathered within the sheet is what is gathered
    pub clipped : (b : Range)
        → Alike (gathered f b) (each (gathered_row f b.col (min (b.col + b.cols) w - b.col)) b.row (min (b.row + b.rows) h - b.row) none_yet)
    clipped b =
        alike_via
        (alike_each (gathered_row f b.col b.cols) (gathered_row f b.col k)
        (λ r t. clipped_each (λ j u. look f (the_ref r j) (counted u)) w (idle_beside r) b.col b.cols t) b.row b.rows none_yet)
        (clipped_each (gathered_row f b.col k) h (λ r l t. idle_each (λ j u. look f (the_ref r j) (counted u)) b.col k t (λ j u. idle_below r j l u)) b.row b.rows none_yet)
      where
        k : ℕ
        k = min (b.col + b.cols) w - b.col

  -- code that follows one follows the other
  pub follows_alike : {A : Type 0} {t u : Trace A} {r : Result A Stop} {before after : Log} → Alike t u → Follows h w u r before after → Follows h w t r before after
  follows_alike a x = let l = a.looks in record { end = x.end ∙ sym a.end; trail = rw l x.trail }
