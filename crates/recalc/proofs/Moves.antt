-- What each move does to the tables and the stack. Assumes nothing.
use Rattle.std.proofs.Common.{◌≡◌, ℕ, zero, suc, ◌+◌, ◌-◌, ◌<◌, ◌≤◌, true, false, ◌≢◌, ◌⊎◌, List, [], ◌∷◌, ◌++◌, length, get_or, take, set, sym, refl, ap, ◌∙◌, subst, inl, ⊎_elim, arith}
use Rattle.std.proofs.lemmas.List.{length-set, length-take, get_or-set_same, get_or-set_other, get_or-take, get_or_append_left, get_or_push, length_push}
use Rattle.std.proofs.lemmas.Bool.{cases_eq, cases_lt, both_ways}
use Rattle.evaluate.specs.declared.value.Value.{Value}
use Rattle.recalc.specs.declared.formulas.Progress.{Progress}
use Rattle.recalc.specs.declared.formulas.Progress.TheVariants.{Waiting, Open, Known}
use Rattle.recalc.specs.Language.{Leads, one, more}
use Rattle.recalc.proofs.Cycles.{leads_on}
use Rattle.recalc.specs.Table.{at, Right, Has, Top}
use Rattle.recalc.proofs.Table.{by_entry, waiting_less, waiting_known, open_not, known_not}
use Rattle.recalc.specs.declared.mark.Mark.{Mark}
use Rattle.recalc.specs.declared.mark.Mark.TheVariants as mark
use Rattle.recalc.specs.Marks.{mark_at, is_marked, flag, worked_out}
use Rattle.recalc.specs.Change.{Change, Dirty, Decided, Good, Kept, weight, load}
use Rattle.recalc.proofs.Marking.{dirty_not, worked_not_dirty, flag_worked}

pub load_set : (t : List Progress) (k : ℕ) (p : Progress) → k < length t → load (set t k p) + weight (at t k) ≡ load t + weight p
unfolding load
load_set [] k p l = omega arith
load_set (q ∷ t) zero p l = omega arith
load_set (q ∷ t) (suc k) p l = omega (arith, load_set t k p (omega arith))

never : {A : Type 0} (i : ℕ) (c : Value) → Open i ≡ Known c → A
never i c e = absurd (let z : ◌≡◌ {A = ℕ} 0 1 = cc in omega arith)

abbrev pub On : List ℕ → ℕ → Type 0
On s k = (i : ℕ) × (i < length s) × (get_or s i 0 ≡ k)

module _ {x : Change} {t v : List Progress} {w : List Mark} {s : List ℕ} (g : Good x t v w s) where
  pub leads : (i d : ℕ) → i + suc d < length s → Leads x.looks (get_or s i 0) (get_or s (i + suc d) 0)
  leads i zero l = one (g.chain i l)
  leads i (suc d) l =
      more (g.chain i (omega arith))
      (subst (λ m. Leads x.looks (get_or s (i + 1) 0) (get_or s m 0)) (omega arith) (leads (i + 1) d (omega arith)))

  -- the cell on top looks at one that is open: a cycle
  pub cycled : (k j i : ℕ) → Top s k → at t j ≡ Open i → x.looks k j → Leads x.looks j j
  cycled k j i (l, e) o h =
      let p = g.opened j i o in
      ⊎_elim
      (λ (q : i ≡ length s - 1).
      let z : k ≡ j = e ∙ ap (λ m. get_or s m 0) (sym q) ∙ p.1 in
      one (subst (λ m. x.looks m j) z h))
      (λ (q : i ≡ length s - 1 → ⊥).
      let d : ℕ = length s - 1 - i - 1 in
      let r : i + suc d ≡ length s - 1 = omega (arith, p.0) in
      let a : Leads x.looks (get_or s i 0) (get_or s (i + suc d) 0) = leads i d (omega (arith, p.0)) in
      let b : Leads x.looks (get_or s i 0) k = subst (λ m. Leads x.looks (get_or s i 0) m) (ap (λ m. get_or s m 0) r ∙ sym e) a in
      leads_on (subst (λ m. Leads x.looks m k) p.1 b) h)
      (cases_eq i (length s - 1))

  pub top_within : (k : ℕ) → Top s k → k < x.n
  top_within k (l, e) = subst (λ m. m < x.n) (sym e) (g.within (length s - 1) (omega arith))

  -- c is noted as what the cell k of the stack shows
  pub noted : (k : ℕ) (c : Value) (v₁ : List Progress) → k < x.n → On s k → c ≡ x.after k → Kept x.before k c v v₁ → Good x (set t k (Known c)) v₁ w s
  noted k c v₁ l on r kept =
      let kt : k < length t = omega (arith, g.t_size) in
      let kv : k < length v = omega (arith, g.v_size) in
      record {
        t_size = length-set t k (Known c) ∙ g.t_size;
        v_size = ⊎_elim (λ h. ap length h.1 ∙ length-set v k (Known c) ∙ g.v_size) (λ h. ap length h.1 ∙ g.v_size) kept;
        w_size = g.w_size;
        right = by_entry Waiting t k (Known c) (λ j y. (a : Value) → y ≡ Known a → a ≡ x.after j) kt (λ a q. cc) (λ j ne. g.right j);
        kept_right = ⊎_elim
            (λ h. subst (Right x.after) (sym h.1) (by_entry Waiting v k (Known c) (λ j y. (a : Value) → y ≡ Known a → a ≡ x.after j) kv (λ a q. cc) (λ j ne. g.kept_right j)))
            (λ h. subst (Right x.after) (sym h.1) g.kept_right) kept;
        kept_same = ⊎_elim
            (λ h. let z = h.0 in subst (Right x.before) (sym h.1) (by_entry Waiting v k (Known c) (λ j y. (a : Value) → y ≡ Known a → a ≡ x.before j) kv (λ a q. cc) (λ j ne. g.kept_same j)))
            (λ h. subst (Right x.before) (sym h.1) g.kept_same) kept;
        kept_all = by_entry Waiting t k (Known c) (λ j y. y ≡ Known (x.before j) → at v₁ j ≡ Known (x.before j)) kt
            (λ q.
            let z : c ≡ x.before k = cc in
            ⊎_elim
            (λ h. ap (λ m. at m k) h.1 ∙ get_or-set_same v k (Known c) Waiting kv ∙ q)
            (λ h. absurd (h.0 z)) kept)
            (λ j ne q.
            ⊎_elim
            (λ h. ap (λ m. at m j) h.1 ∙ get_or-set_other v k j (Known c) Waiting ne ∙ g.kept_all j q)
            (λ h. ap (λ m. at m j) h.1 ∙ g.kept_all j q) kept);
        room = omega (arith, length-set t k (Known c), waiting_known t k c, g.room);
        within = g.within;
        opened = by_entry Waiting t k (Known c) (λ j y. (i : ℕ) → y ≡ Open i → (i < length s) × (get_or s i 0 ≡ j)) kt
            (λ i q. never i c (sym q))
            (λ j ne. g.opened j);
        started = λ i h. by_entry Waiting t k (Known c) (λ j y. get_or s i 0 ≡ j → y ≡ Waiting → ⊥) kt (λ q. known_not c) (λ j ne q e. g.started i h (ap (at t) q ∙ e)) (get_or s i 0) refl;
        apart = g.apart;
        chain = g.chain;
        written_dirty = g.written_dirty;
        sound = g.sound;
        decided = by_entry Waiting t k (Known c) (λ j y. (y ≡ Waiting → ⊥) → ((i : ℕ) → i < length s → get_or s i 0 ≡ j → ⊥) → Decided x w j) kt
            (λ a off. absurd (off on.0 on.1 on.2))
            (λ j ne. g.decided j);
        waits = by_entry Waiting t k (Known c) (λ j y. y ≡ Waiting → mark_at w j ≡ mark.Recalculated → ⊥) kt (λ e. absurd (known_not c e)) (λ j ne. g.waits j);
        unfinished = g.unfinished;
        finished = by_entry Waiting t k (Known c) (λ j y. (y ≡ Waiting → ⊥) → ((i : ℕ) → i < length s → get_or s i 0 ≡ j → ⊥) → mark_at w j ≡ mark.Dirty → ⊥) kt
            (λ a off. absurd (off on.0 on.1 on.2))
            (λ j ne. g.finished j);
      }

  -- the cell on top is known, and worked out if it is marked
  pub popped : (k : ℕ) (c : Value) → Top s k → at t k ≡ Known c → Decided x w k → Good x t v (set w k (worked_out (mark_at w k))) (take (length s - 1) s)
  popped k c (l, e) known dirty =
      let m : Mark = worked_out (mark_at w k) in
      let s₁ : List ℕ = take (length s - 1) s in
      let kw : k < length w = omega (arith, top_within k (l, e), g.w_size) in
      let len : length s₁ ≡ length s - 1 = simp length-take (omega arith) in
      let get : (i : ℕ) → i < length s - 1 → get_or s₁ i 0 ≡ get_or s i 0 = λ i h. get_or-take (length s - 1) s i 0 h in
      let off_then : (j : ℕ) → (j ≡ k → ⊥) → ((i : ℕ) → i < length s₁ → get_or s₁ i 0 ≡ j → ⊥) → (i : ℕ) → i < length s → get_or s i 0 ≡ j → ⊥ =
      λ j ne off i h q.
      ⊎_elim
      (λ (y : i ≡ length s - 1). ne (sym q ∙ ap (λ m. get_or s m 0) y ∙ sym e))
      (λ (y : i ≡ length s - 1 → ⊥). let u : i < length s - 1 = omega arith in off i (omega arith) (get i u ∙ q))
      (cases_eq i (length s - 1)) in
      record {
        t_size = g.t_size;
        v_size = g.v_size;
        w_size = length-set w k m ∙ g.w_size;
        right = g.right;
        kept_right = g.kept_right;
        kept_same = g.kept_same;
        kept_all = g.kept_all;
        room = omega (arith, g.room, len);
        within = λ i h. subst (λ m. m < x.n) (sym (get i (omega arith))) (g.within i (omega arith));
        opened = λ j i q.
            let a = g.opened j i q in
            let b : i ≢ length s - 1 = λ z.
            let y : k ≡ j = e ∙ ap (λ m. get_or s m 0) (sym z) ∙ a.1 in
            never i c (sym q ∙ ap (at t) (sym y) ∙ known) in
            let h : i < length s - 1 = omega (arith, a.0) in
            (omega arith, get i h ∙ a.1);
        started = λ i h q. g.started i (omega arith) (ap (at t) (sym (get i (omega arith))) ∙ q);
        apart = λ i j l h q. g.apart i j l (omega arith) (sym (get i (omega arith)) ∙ q ∙ get j (omega arith));
        chain = λ i h.
            let a = get i (omega arith) in
            let b = get (i + 1) (omega arith) in
            subst (λ m. x.looks m (get_or s₁ (i + 1) 0)) (sym a) (subst (λ m. x.looks (get_or s i 0) m) (sym b) (g.chain i (omega arith)));
        written_dirty = λ j l h. flag_worked w k kw j ∙ g.written_dirty j l h;
        sound = λ j h. g.sound j (sym (flag_worked w k kw j) ∙ h);
        decided = λ j a off.
            subst (λ b. (b ≡ true) ⊎ ((Dirty x j → ⊥) × (x.redone j ≡ x.after j))) (sym (flag_worked w k kw j))
            (⊎_elim
            (λ (z : j ≡ k). subst (Decided x w) (sym z) dirty)
            (λ (ne : j ≡ k → ⊥). g.decided j a (off_then j ne off))
            (cases_eq j k));
        waits = by_entry mark.Clean w k m (λ j y. at t j ≡ Waiting → y ≡ mark.Recalculated → ⊥) kw (λ q. absurd (known_not c (sym known ∙ q))) (λ j ne. g.waits j);
        unfinished = λ i h. by_entry mark.Clean w k m (λ j y. get_or s₁ i 0 ≡ j → y ≡ mark.Recalculated → ⊥) kw
            (λ q. absurd (g.apart i (length s - 1) (omega arith) (omega arith) (sym (get i (omega arith)) ∙ q ∙ e)))
            (λ j ne q z. g.unfinished i (omega arith) (ap (mark_at w) (sym (get i (omega arith)) ∙ q) ∙ z))
            (get_or s₁ i 0) refl;
        finished = by_entry mark.Clean w k m (λ j y. (at t j ≡ Waiting → ⊥) → ((i : ℕ) → i < length s₁ → get_or s₁ i 0 ≡ j → ⊥) → y ≡ mark.Dirty → ⊥) kw
            (λ a off. worked_not_dirty (mark_at w k))
            (λ j ne a off. g.finished j a (off_then j ne off));
      }

  -- a cell that waits goes on top of the one that looks at it, if there is one
  pub pushed : (j : ℕ) (s₁ : List ℕ) → j < x.n → at t j ≡ Waiting → (0 < length s → x.looks (get_or s (length s - 1) 0) j) → s₁ ≡ s ++ (j ∷ []) → Good x (set t j (Open (length s))) v w s₁
  pushed j s₁ jn wt looked p =
      let within = subst (λ m. j < m) (sym g.t_size) jn in
      let len : length s₁ ≡ length s + 1 = ap length p ∙ length_push s j in
      let get : (i : ℕ) → i < length s → get_or s₁ i 0 ≡ get_or s i 0 = λ i q. ap (λ y. get_or y i 0) p ∙ get_or_append_left s (j ∷ []) 0 i q in
      let last : get_or s₁ (length s) 0 ≡ j = ap (λ y. get_or y (length s) 0) p ∙ get_or_push s j 0 (length s) refl in
      record {
        t_size = length-set t j (Open (length s)) ∙ g.t_size;
        v_size = g.v_size;
        w_size = g.w_size;
        right = by_entry Waiting t j (Open (length s)) (λ i y. (a : Value) → y ≡ Known a → a ≡ x.after i) within (λ a q. cc) (λ i ne. g.right i);
        kept_right = g.kept_right;
        kept_same = g.kept_same;
        kept_all = by_entry Waiting t j (Open (length s)) (λ i y. y ≡ Known (x.before i) → at v i ≡ Known (x.before i)) within (λ q. never _ _ q) (λ i ne. g.kept_all i);
        room = omega (arith, length-set t j (Open (length s)), waiting_less t j (Open (length s)) within wt (open_not (length s)), g.room, len);
        within = λ i q.
            ⊎_elim
            (λ (u : i < length s). subst (λ m. m < x.n) (sym (get i u)) (g.within i u))
            (λ (u : length s ≤ i). let y : length s ≡ i = omega arith in subst (λ m. get_or s₁ m 0 < x.n) y (subst (λ m. m < x.n) (sym last) jn))
            (cases_lt i (length s));
        opened = by_entry Waiting t j (Open (length s)) (λ m y. (i : ℕ) → y ≡ Open i → (i < length s₁) × (get_or s₁ i 0 ≡ m)) within
            (λ i q. let z : length s ≡ i = cc in (omega arith, subst (λ m. get_or s₁ m 0 ≡ j) z last))
            (λ m ne i q. let a = g.opened m i q in (omega (arith, a.0), get i a.0 ∙ a.1));
        started = λ i q. by_entry Waiting t j (Open (length s)) (λ m y. get_or s₁ i 0 ≡ m → y ≡ Waiting → ⊥) within
            (λ r. open_not (length s))
            (λ m ne r z.
            ⊎_elim
            (λ (u : i < length s). g.started i u (ap (at t) (sym (get i u) ∙ r) ∙ z))
            (λ (u : length s ≤ i). let y : i ≡ length s = omega arith in ne (sym r ∙ ap (λ n. get_or s₁ n 0) y ∙ last))
            (cases_lt i (length s)))
            (get_or s₁ i 0) refl;
        apart = λ i m u q r.
            let il : i < length s = omega arith in
            ⊎_elim
            (λ (y : m < length s). g.apart i m u y (sym (get i il) ∙ r ∙ get m y))
            (λ (y : length s ≤ m). let z : m ≡ length s = omega arith in g.started i il (ap (at t) (sym (get i il) ∙ r ∙ ap (λ n. get_or s₁ n 0) z ∙ last) ∙ wt))
            (cases_lt m (length s));
        chain = λ i q.
            ⊎_elim
            (λ (u : i + 1 < length s).
            subst (λ m. x.looks m (get_or s₁ (i + 1) 0)) (sym (get i (omega arith))) (subst (λ m. x.looks (get_or s i 0) m) (sym (get (i + 1) u)) (g.chain i u)))
            (λ (u : length s ≤ i + 1).
            let y : i + 1 ≡ length s = omega arith in
            let z : i ≡ length s - 1 = omega arith in
            let a : get_or s₁ i 0 ≡ get_or s (length s - 1) 0 = get i (omega arith) ∙ ap (λ m. get_or s m 0) z in
            let b : get_or s₁ (i + 1) 0 ≡ j = ap (λ m. get_or s₁ m 0) y ∙ last in
            subst (λ m. x.looks m (get_or s₁ (i + 1) 0)) (sym a) (subst (λ m. x.looks (get_or s (length s - 1) 0) m) (sym b) (looked (omega arith))))
            (cases_lt (i + 1) (length s));
        written_dirty = g.written_dirty;
        sound = g.sound;
        decided = by_entry Waiting t j (Open (length s)) (λ m y. (y ≡ Waiting → ⊥) → ((i : ℕ) → i < length s₁ → get_or s₁ i 0 ≡ m → ⊥) → Decided x w m) within
            (λ a off. absurd (off (length s) (omega arith) last))
            (λ m ne a off. g.decided m a (λ i q r. off i (omega arith) (get i q ∙ r)));
        waits = by_entry Waiting t j (Open (length s)) (λ m y. y ≡ Waiting → mark_at w m ≡ mark.Recalculated → ⊥) within (λ z. absurd (open_not (length s) z)) (λ m ne. g.waits m);
        unfinished = λ i q.
            ⊎_elim
            (λ (u : i < length s). λ z. g.unfinished i u (ap (mark_at w) (sym (get i u)) ∙ z))
            (λ (u : length s ≤ i). λ z. let y : i ≡ length s = omega arith in g.waits j wt (ap (mark_at w) (sym (ap (λ n. get_or s₁ n 0) y ∙ last)) ∙ z))
            (cases_lt i (length s));
        finished = by_entry Waiting t j (Open (length s)) (λ m y. (y ≡ Waiting → ⊥) → ((i : ℕ) → i < length s₁ → get_or s₁ i 0 ≡ m → ⊥) → mark_at w m ≡ mark.Dirty → ⊥) within
            (λ a off. absurd (off (length s) (omega arith) last))
            (λ m ne a off. g.finished m a (λ i q r. off i (omega arith) (get i q ∙ r)));
      }

  -- an open cell that is dirty is marked
  pub marked : (k : ℕ) → k < x.n → On s k → Dirty x k → Good x t v (set w k mark.Dirty) s
  marked k l on d =
      let within : k < length w = omega (arith, g.w_size) in
      record {
        t_size = g.t_size;
        v_size = g.v_size;
        w_size = length-set w k mark.Dirty ∙ g.w_size;
        right = g.right;
        kept_right = g.kept_right;
        kept_same = g.kept_same;
        kept_all = g.kept_all;
        room = g.room;
        within = g.within;
        opened = g.opened;
        started = g.started;
        apart = g.apart;
        chain = g.chain;
        written_dirty = by_entry mark.Clean w k mark.Dirty (λ m b. m < x.n → x.written m ≡ true → is_marked b ≡ true) within (λ z u. refl) (λ m ne. g.written_dirty m);
        sound = by_entry mark.Clean w k mark.Dirty (λ m b. is_marked b ≡ true → Dirty x m) within (λ z. d) (λ m ne. g.sound m);
        decided = by_entry mark.Clean w k mark.Dirty (λ m b. (at t m ≡ Waiting → ⊥) → ((i : ℕ) → i < length s → get_or s i 0 ≡ m → ⊥) → (is_marked b ≡ true) ⊎ ((Dirty x m → ⊥) × (x.redone m ≡ x.after m))) within
            (λ a off. inl refl)
            (λ m ne. g.decided m);
        waits = by_entry mark.Clean w k mark.Dirty (λ m b. at t m ≡ Waiting → b ≡ mark.Recalculated → ⊥) within (λ z. dirty_not) (λ m ne. g.waits m);
        unfinished = λ i h. by_entry mark.Clean w k mark.Dirty (λ m b. get_or s i 0 ≡ m → b ≡ mark.Recalculated → ⊥) within (λ q. dirty_not) (λ m ne q z. g.unfinished i h (ap (mark_at w) q ∙ z)) (get_or s i 0) refl;
        finished = by_entry mark.Clean w k mark.Dirty (λ m b. (at t m ≡ Waiting → ⊥) → ((i : ℕ) → i < length s → get_or s i 0 ≡ m → ⊥) → b ≡ mark.Dirty → ⊥) within
            (λ a off. absurd (off on.0 on.1 on.2))
            (λ m ne. g.finished m);
      }

  pub not_written : (k : ℕ) → k < x.n → flag w k ≡ false → x.written k ≡ true → ⊥
  not_written k l f e = both_ways (flag w k) f (g.written_dirty k l e)

  -- a cell all of whose cells show what they showed is not dirty
  pub not_dirty : (k : ℕ) → k < x.n → flag w k ≡ false → ((j : ℕ) → x.looked k j → Has v j) → Dirty x k → ⊥
  not_dirty k l f all d =
      ⊎_elim
      (not_written k l f)
      (λ h. let a = all h.0 h.1 in h.2 (sym (g.kept_right h.0 a.0 a.1) ∙ g.kept_same h.0 a.0 a.1))
      d

  -- what is known and not kept shows something else
  pub differs : (j : ℕ) (a : Value) → at t j ≡ Known a → ((b : Value) → at v j ≡ Known b → ⊥) → x.after j ≡ x.before j → ⊥
  differs j a e lacks q = lacks (x.before j) (g.kept_all j (e ∙ ap Known (g.right j a e ∙ q)))
