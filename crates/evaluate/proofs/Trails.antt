-- Code that follows a piece of work, look by look. Assumes nothing.
use Rattle.std.proofs.Common.{◌≡◌, ℕ, suc, ◌+◌, ◌-◌, ◌<◌, ◌≤◌, Bool, true, false, cond, ◌&&◌, ltb, ◌⊎◌, List, [], ◌∷◌, ◌++◌, length, Ok, Err, Option, Result, sym, refl, ap, ◌∙◌, inl, inr, arith, length-append}
use Rattle.std.proofs.lemmas.List.{append_assoc, append-nil}
use Rattle.std.proofs.lemmas.Bool.{true≢false, lt-ltb, le-ltb}
use Rattle.formula.specs.declared.token.CellRef.{CellRef}
use Rattle.evaluate.specs.declared.value.Value.{Value}
use Rattle.evaluate.specs.declared.stop.Stop.{Stop}
use Rattle.evaluate.specs.Traces.{Trace, ends, seen, look, bind, looks_on, then, each}
use Rattle.evaluate.specs.Trails.{inside, Log, Kept, Follows}

kept_none : (o : Log) → Kept o [] o
kept_none o =
    record {
      stem = ([], sym (append-nil o.places));
      room = omega arith;
      whole = λ h. (h, sym (append-nil o.places));
      short = λ h k. absurd (true≢false (sym h ∙ k));
    }

kept_append : (a b c : Log) (ps qs : List CellRef) → Kept a ps b → Kept b qs c → Kept a (ps ++ qs) c
kept_append a b c ps qs k l =
    record {
      stem = (k.stem.0 ++ l.stem.0, l.stem.1 ∙ ap (λ us. us ++ l.stem.0) k.stem.1 ∙ append_assoc a.places k.stem.0 l.stem.0);
      room = let m = k.room in let n = l.room in omega arith;
      whole = λ h. let m = l.whole h in let n = k.whole m.0 in (n.0, m.1 ∙ ap (λ us. us ++ qs) n.1 ∙ append_assoc a.places ps qs);
      short = λ h e. simp length-append (go h e b.whole refl);
    }
  where
    -- the room was used up by the first places, or by the second
    go : a.whole ≡ true → c.whole ≡ false → (w : Bool) → b.whole ≡ w → a.room < length a.places + (length ps + length qs)
    go h e false d = let m = k.short h d in omega arith
    go h e true d =
        let m = l.short d e in
        let n = k.room in
        let long : length b.places ≡ length a.places + length ps = ap length (k.whole d).1 ∙ length-append a.places ps in
        omega arith

pub inside_append : (h w : ℕ) (ps qs : List CellRef) → inside h w (ps ++ qs) ≡ inside h w ps ++ inside h w qs
unfolding inside
inside_append h w [] qs = refl
inside_append h w (p ∷ ps) qs = go (ltb p.row h && ltb p.col w) (inside_append h w ps qs)
  where
    go : (b : Bool) → inside h w (ps ++ qs) ≡ inside h w ps ++ inside h w qs
        → cond b (p ∷ inside h w (ps ++ qs)) (inside h w (ps ++ qs)) ≡ cond b (p ∷ inside h w ps) (inside h w ps) ++ inside h w qs
    go true e = ap (λ us. p ∷ us) e
    go false e = e

-- one place, noted if it lies in the sheet
module _ (h w : ℕ) (p : CellRef) where
  pub noted_inside : (a b : Log) → p.row < h → p.col < w → Kept a (p ∷ []) b → Kept a (inside h w (p ∷ [])) b
  unfolding inside
  noted_inside a b i j k = rw (lt-ltb p.row h i, lt-ltb p.col w j) k

  pub noted_outside : (a : Log) → (h ≤ p.row) ⊎ (w ≤ p.col) → Kept a (inside h w (p ∷ [])) a
  unfolding inside
  noted_outside a (inl l) = rw (le-ltb p.row h l) (kept_none a)
  noted_outside a (inr l) = rw (le-ltb p.col w l) (go (ltb p.row h))
    where
      go : (b : Bool) → Kept a (cond (b && false) (p ∷ []) []) a
      go true = kept_none a
      go false = kept_none a

module _ {h w : ℕ} {before after : Log} where
  -- a look at a place of the sheet
  pub follows_look : {A : Type 0} (f : ℕ → ℕ → Option Value) (p : CellRef) (go : Option ℕ → A) (r : Result A Stop) → p.row < h → p.col < w
      → Kept before (p ∷ []) after → r ≡ seen p (f p.row p.col) go → Follows h w (look f p go) r before after
  follows_look f p go r a b k e = record { end = e; trail = noted_inside h w p before after a b k }

  pub follows_then : {A B : Type 0} (t : Trace A) (go : A → Trace B) (a : A) (r : Result B Stop) (mid : Log)
      → Follows h w t (Ok a) before mid → Follows h w (go a) r mid after → Follows h w (then t go) r before after
  follows_then t go a r mid x y =
      let e = x.end in
      record {
        end = y.end ∙ ap (λ o. bind o (λ b. (go b).end)) e;
        trail = rw (inside_append h w t.looks (looks_on t.end (λ b. (go b).looks)), ← e) (kept_append before mid after _ _ x.trail y.trail);
      }

  pub follows_stop : {A B : Type 0} (t : Trace A) (go : A → Trace B) (x : Stop) → Follows h w t (Err x) before after → Follows h w (then t go) (Err x) before after
  follows_stop t go x s =
      let e = s.end in
      record {
        end = ap (λ o. bind o (λ b. (go b).end)) e;
        trail = rw (← e, append-nil t.looks) s.trail;
      }

pub follows_same : {A : Type 0} {h w : ℕ} {t : Trace A} {before after : Log} {q : Result A Stop} (r : Result A Stop) → r ≡ q → Follows h w t q before after → Follows h w t r before after
follows_same r e x = record { end = e ∙ x.end; trail = x.trail }

pub follows_at : {A : Type 0} {h w : ℕ} {before after : Log} {r : Result A Stop} (t : Trace A) {u : Trace A} → t ≡ u → Follows h w u r before after → Follows h w t r before after
follows_at t e x = rw e x

pub follows_ends : {A : Type 0} {h w : ℕ} (o : Log) (r : Result A Stop) → Follows h w (ends r) r o o
unfolding inside
follows_ends o r = record { end = refl; trail = kept_none o }

-- lines gone through up to line e, of which line i is the next
module _ {A : Type 0} (line : ℕ → A → Trace A) (i e : ℕ) (a : A) where
  pub each_step : i < e → each line i (e - i) a ≡ then (line i a) (λ b. each line (i + 1) (e - (i + 1)) b)
  unfolding each
  each_step l = let n : e - i ≡ suc (e - (i + 1)) = omega arith in let s : i + 1 ≡ suc i = omega arith in rw (n, s)

  pub each_end : e ≤ i → each line i (e - i) a ≡ ends (Ok a)
  unfolding each
  each_end l = let n : e - i ≡ 0 = omega arith in rw n

  module _ {h w : ℕ} {before after : Log} where
    pub follows_went : (b : A) (r : Result A Stop) (mid : Log) → i < e → Follows h w (line i a) (Ok b) before mid
        → Follows h w (each line (i + 1) (e - (i + 1)) b) r mid after → Follows h w (each line i (e - i) a) r before after
    follows_went b r mid l x y = rw (each_step l) (follows_then (line i a) _ b r mid x y)

    pub follows_stopped : (x : Stop) → i < e → Follows h w (line i a) (Err x) before after → Follows h w (each line i (e - i) a) (Err x) before after
    follows_stopped x l s = rw (each_step l) (follows_stop (line i a) _ x s)

  pub follows_ended : {h w : ℕ} (o : Log) → e ≤ i → Follows h w (each line i (e - i) a) (Ok a) o o
  follows_ended o l = rw (each_end l) (follows_ends o (Ok a))
