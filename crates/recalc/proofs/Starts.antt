-- How an update starts and ends. Assumes nothing.
use Rattle.std.proofs.Common.{◌≡◌, ℕ, ◌<◌, ◌≤◌, true, List, [], ◌∷◌, ◌++◌, length, set, replicate, sym, refl, ap, ◌∙◌, subst, inl, ⊎_elim, arith}
use Rattle.std.proofs.lemmas.List.{length-replicate, get_or_past}
use Rattle.std.proofs.lemmas.Bool.{cases_lt}
use Rattle.recalc.specs.declared.formulas.Progress.{Progress}
use Rattle.recalc.specs.declared.formulas.Progress.TheVariants.{Waiting, Open, Known}
use Rattle.recalc.specs.Table.{at, waiting}
use Rattle.recalc.proofs.Table.{all_waiting, waiting_all}
use Rattle.recalc.specs.declared.mark.Mark.{Mark}
use Rattle.recalc.specs.declared.mark.Mark.TheVariants as mark
use Rattle.recalc.specs.Marks.{mark_at, mark_if, is_marked, flag}
use Rattle.recalc.specs.Change.{Change, Dirty, Good, Updated}
use Rattle.recalc.proofs.Marking.{marked_done, first_marked, first_undone}
use Rattle.recalc.proofs.Moves.{pushed}

pub start : (x : Change) (m : ℕ) (t v : List Progress) (w : List Mark) (s : List ℕ) → m ≡ x.n → t ≡ replicate m Waiting → v ≡ replicate m Waiting
    → length w ≡ m → ((k : ℕ) → k < m → mark_at w k ≡ mark_if (x.written k)) → s ≡ [] → Good x t v w s
start x m t v w s e pt pv wl pw ps =
    let len : length s ≡ 0 = ap length ps in
    let t_waits : (k : ℕ) → at t k ≡ Waiting = λ k. ap (λ y. at y k) pt ∙ all_waiting m k in
    let v_waits : (k : ℕ) → at v k ≡ Waiting = λ k. ap (λ y. at y k) pv ∙ all_waiting m k in
    let marked_as : (k : ℕ) (P : Mark → Type 0) → P mark.Clean → P (mark_if (x.written k)) → P (mark_at w k) =
    λ k P clean there. ⊎_elim (λ (l : k < m). subst P (sym (pw k l)) there) (λ (l : m ≤ k). subst P (sym (get_or_past w k mark.Clean (omega arith))) clean) (cases_lt k m) in
    record {
      t_size = ap length pt ∙ length-replicate m Waiting ∙ e;
      v_size = ap length pv ∙ length-replicate m Waiting ∙ e;
      w_size = wl ∙ e;
      right = λ k a h. let z = t_waits k in cc;
      kept_right = λ k a h. let z = v_waits k in cc;
      kept_same = λ k a h. let z = v_waits k in cc;
      kept_all = λ k h. let z = t_waits k in cc;
      room = omega (arith, ap waiting pt, waiting_all m, ap length pt, length-replicate m Waiting, len);
      within = λ i l. absurd (omega arith);
      opened = λ k i h. let y = t_waits k in let z : ◌≡◌ {A = ℕ} 0 1 = cc in absurd (omega arith);
      started = λ i l. absurd (omega arith);
      apart = λ i j l h. absurd (omega arith);
      chain = λ i l. absurd (omega arith);
      written_dirty = λ k l h. ap is_marked (pw k (omega arith)) ∙ first_marked (x.written k) ∙ h;
      sound = λ k. marked_as k (λ y. is_marked y ≡ true → Dirty x k) (λ h. absurd (cc)) (λ h. inl (sym (first_marked (x.written k)) ∙ h));
      decided = λ k a off. absurd (a (t_waits k));
      waits = λ k q. marked_as k (λ y. y ≡ mark.Recalculated → ⊥) (λ z. cc) (first_undone (x.written k));
      unfinished = λ i l. absurd (omega arith);
      finished = λ k a off. absurd (a (t_waits k));
    }

-- of equal lists
pub equal_good : {x : Change} {t₁ t₂ v₁ v₂ : List Progress} {w₁ w₂ : List Mark} {s₁ s₂ : List ℕ} → t₂ ≡ t₁ → v₂ ≡ v₁ → w₂ ≡ w₁ → s₂ ≡ s₁ → Good x t₁ v₁ w₁ s₁ → Good x t₂ v₂ w₂ s₂
equal_good p q r e good = rw (p, q, r, e) good

pub equal_updated : {x : Change} {t t₁ : List Progress} {w w₁ : List Mark} → t₁ ≡ t → w₁ ≡ w → Updated x t w → Updated x t₁ w₁
equal_updated p q up = rw (p, q) up

module _ {x : Change} {t v : List Progress} {w : List Mark} {s : List ℕ} (g : Good x t v w s) (none : length s ≡ 0) where
  -- a cell that waits is opened where none is open
  pub opens : (k : ℕ) → k < length t → at t k ≡ Waiting → Good x (set t k (Open (length s))) v w (s ++ (k ∷ []))
  opens k l wt = pushed g k (s ++ (k ∷ [])) (omega (arith, g.t_size)) wt (λ some. absurd (omega arith)) refl

  known_else : (k : ℕ) (p : Progress) → at t k ≡ p → (at t k ≡ Waiting → ⊥) → p ≡ Known (x.after k)
  known_else k Waiting e a = absurd (a e)
  known_else k (Open i) e a = absurd (omega (arith, (g.opened k i e).0))
  known_else k (Known c) e a = ap Known (g.right k c e)

  pub updated : ((k : ℕ) → k < x.n → at t k ≡ Waiting → ⊥) → Updated x t w
  updated a =
      record {
        size = g.t_size;
        known = λ k l. known_else k (at t k) refl (a k l);
        marks = g.w_size;
        only = g.sound;
        all = λ k l d.
            let m : flag w k ≡ true = ⊎_elim (λ m. m) (λ h. absurd (h.0 d)) (g.decided k (a k l) (λ i h q. absurd (omega arith))) in
            marked_done (mark_at w k) m (g.finished k (a k l) (λ i h q. absurd (omega arith)));
        same = λ k l n e. ⊎_elim (λ m. absurd (n (g.sound k m))) (λ h. sym h.1 ∙ e) (g.decided k (a k l) (λ i h q. absurd (omega arith)));
      }
