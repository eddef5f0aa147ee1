-- The four ways in which a turn ends. Assumes nothing.
use Rattle.std.proofs.Common.{◌≡◌, ℕ, ◌-◌, ◌<◌, Bool, true, false, List, [], ◌∷◌, ◌++◌, length, take, set, sym, refl, ap, subst, ⊎_elim, Ok, Err, arith}
use Rattle.std.proofs.lemmas.Bool.{cases_Bool}
use Rattle.std.proofs.lemmas.List.{length-take, get_or-set_same, length_push}
use Rattle.evaluate.specs.declared.value.Value.{Value}
use Rattle.recalc.specs.declared.formulas.Progress.{Progress}
use Rattle.recalc.specs.declared.formulas.Progress.TheVariants.{Waiting, Open, Known}
use Rattle.recalc.specs.Language.{Language}
use Rattle.recalc.specs.Table.{at, Right, Answers, Top}
use Rattle.recalc.proofs.Table.{later_set, open_not, known_not}
use Rattle.recalc.specs.declared.mark.Mark.{Mark}
use Rattle.recalc.specs.declared.mark.Mark.TheVariants as mark
use Rattle.recalc.specs.Marks.{mark_at, flag, worked_out}
use Rattle.recalc.specs.Change.{Change, Dirty, Decided, Good, weight, Kept, Stepped}
use Rattle.recalc.proofs.Marking.{worked_unmarked, unmarked_counts, unmarked_set}
use Rattle.recalc.proofs.Moves.{On, load_set, top_within, noted, popped, pushed, marked}

-- what an attempt at cell k answers, from the table t where k is marked and else from u, where both are right of what the cells show
module _ (l : Language) (k : ℕ) (f : ℕ → Value) (t u : List Progress) (right : Right f t) (kept : Right f u) (d : Bool) where
  pub value_is : (v : Value) → (d ≡ true → (s : ℕ → Value) → Right s t → Answers (l.work s k) (l.looks s k) t (Ok v))
      → (d ≡ false → (s : ℕ → Value) → Right s u → Answers (l.work s k) (l.looks s k) u (Ok v)) → v ≡ l.work f k
  value_is v all same = ⊎_elim (λ e. (all e f right).0) (λ e. (same e f kept).0) (cases_Bool d)

  pub looked_at : (j : ℕ) → (d ≡ true → (s : ℕ → Value) → Right s t → Answers (l.work s k) (l.looks s k) t (Err j))
      → (d ≡ false → (s : ℕ → Value) → Right s u → Answers (l.work s k) (l.looks s k) u (Err j)) → l.looks f k j
  looked_at j all same = ⊎_elim (λ e. (all e f right).0) (λ e. (same e f kept).0) (cases_Bool d)

-- a turn of equal lists
pub equal : {x : Change} {t t₁ t₂ v₁ v₂ : List Progress} {w w₁ w₂ : List Mark} {s s₁ s₂ : List ℕ} → t₂ ≡ t₁ → v₂ ≡ v₁ → w₂ ≡ w₁ → s₂ ≡ s₁
    → Stepped x t w s t₁ v₁ w₁ s₁ → Stepped x t w s t₂ v₂ w₂ s₂
equal p q r e st = rw (p, q, r, e) st

module _ {x : Change} {t v : List Progress} {w : List Mark} {s : List ℕ} (g : Good x t v w s) where
  -- the cell on top is done with
  pub done : (k : ℕ) (c : Value) (v₁ : List Progress) → Top s k → c ≡ x.after k → Kept x.before k c v v₁ → Decided x w k → Stepped x t w s (set t k (Known c)) v₁ (set w k (worked_out (mark_at w k))) (take (length s - 1) s)
  done k c v₁ top r kept dirty =
      let kn = top_within g k top in
      let kt : k < length t = omega (arith, g.t_size) in
      let kw : k < length w = omega (arith, g.w_size) in
      let on : On s k = (length s - 1, omega (arith, top.0), sym top.1) in
      let len : length (take (length s - 1) s) ≡ length s - 1 = simp length-take (omega arith) in
      record {
        good = popped (noted g k c v₁ kn on r kept) k c top (get_or-set_same t k (Known c) Waiting kt) dirty;
        later = later_set t k (Known c) kt (known_not c);
        less = omega (arith, load_set t k (Known c) kt, unmarked_set w k (worked_out (mark_at w k)) kw, worked_unmarked (mark_at w k), len, top.0);
      }

  -- a cell that is waited for comes on top
  pub entered : (k j : ℕ) → Top s k → j < x.n → at t j ≡ Waiting → x.looks k j → Stepped x t w s (set t j (Open (length s))) v w (s ++ (j ∷ []))
  entered k j top jn wt h =
      let jt : j < length t = omega (arith, g.t_size) in
      let old : weight (at t j) ≡ 3 = ap weight wt in
      record {
        good = pushed g j (s ++ (j ∷ [])) jn wt (λ l. subst (λ m. x.looks m j) top.1 h) refl;
        later = later_set t j (Open (length s)) jt (open_not (length s));
        less = omega (arith, load_set t j (Open (length s)) jt, length_push s j, old);
      }

  -- an open cell is found to stand in a cycle
  pub found_cycle : (j i : ℕ) (c : Value) (v₁ : List Progress) → j < x.n → at t j ≡ Open i → c ≡ x.after j → Kept x.before j c v v₁ → Stepped x t w s (set t j (Known c)) v₁ w s
  found_cycle j i c v₁ jn o r kept =
      let jt : j < length t = omega (arith, g.t_size) in
      let on = g.opened j i o in
      let old : weight (at t j) ≡ 1 = ap weight o in
      record {
        good = noted g j c v₁ jn (i, on.0, on.1) r kept;
        later = later_set t j (Known c) jt (known_not c);
        less = omega (arith, load_set t j (Known c) jt, old);
      }

  -- the cell on top is found to be dirty
  pub marks : (k : ℕ) → Top s k → flag w k ≡ false → Dirty x k → Stepped x t w s t v (set w k mark.Dirty) s
  marks k top f d =
      let kn = top_within g k top in
      let kw : k < length w = omega (arith, g.w_size) in
      record {
        good = marked g k kn (length s - 1, omega (arith, top.0), sym top.1) d;
        later = λ i e. e;
        less = omega (arith, unmarked_set w k mark.Dirty kw, unmarked_counts (mark_at w k) f);
      }
