-- What the two lists of a write have, and that what is not worked out again shows what it showed. Assumes nothing.
use Rattle.std.proofs.Common.{◌≡◌, ℕ, ◌<◌, Bool, true, false, cond, ◌||◌, eqb, ltb, ◌⊎◌, is_some, Some, None, Option, sym, refl, ap, ◌∙◌, inl, inr, arith}
use Rattle.std.proofs.lemmas.Bool.{and_parts, and_from, or_cases, or_left, or_right, eqb-true, eq-eqb, lt-ltb, cases_Bool}
use Rattle.formula.specs.declared.token.CellRef.{CellRef}
use Rattle.formula.specs.Formula.{Formula}
use Rattle.formula.specs.Tokens.{the_ref}
use Rattle.evaluate.specs.Knowledge.{In}
use Rattle.evaluate.proofs.Places.{in_none}
use Rattle.recalc.specs.Sheets.{Sheet, inside, held, cell_shows, cell_looks, shown}
use Rattle.recalc.specs.Shown.{shown_at, Looks}
use Rattle.recalc.specs.SheetLaws.{inside_is, cell_local}
use Rattle.recalc.proofs.Shown.{shown_is_consistent}
use Rattle.edit.specs.Writes.{Write, target, written}
use Rattle.edit.specs.Changes.{differs, differs_at, any_differs, redone}
use Rattle.edit.specs.Laws.{Recalculated, ToldExactly, WorkedExactly, OneListTold, OneListWorked, NotWorkedStays}
use Rattle.edit.proofs.Differing.{differs_true, does_differ, not_differs}
use Rattle.edit.proofs.Recalculated.{one_differs, differs_in, not_written}
use Rattle.edit.proofs.Listing.{places_listed, listed_as, one_list}

-- a place inside, by its numbers
is_inside : (s : Sheet) (r c : ℕ) → r < s.rows → c < s.cols → inside s r c ≡ true
is_inside s r c a b = and_from (ltb r s.rows) (ltb c s.cols) (lt-ltb r s.rows a) (lt-ltb c s.cols b)

-- a place that holds a formula is inside
holds_inside : (s : Sheet) (r c : ℕ) → is_some (held s r c) ≡ true → inside s r c ≡ true
holds_inside s r c e = go (inside s r c) refl e
  where
    go : (b : Bool) → inside s r c ≡ b → is_some (cond b (s.cells r c) None) ≡ true → inside s r c ≡ true
    go true d e = d
    go false d e = absurd (grind arith)

-- what is told shows something else, and all that does is told
pub told_exactly : ToldExactly
told_exactly s t =
    listed_as
    (λ p (a, b, e). (is_inside t p.row p.col a b, does_differ (shown_at t p) (shown_at s p) e))
    (λ p (i, e). let l = inside_is t p.row p.col i in (l.0, l.1, differs_true (shown_at t p) (shown_at s p) e))
    (places_listed (λ r c. differs (shown t r c) (shown s r c)) t.rows t.cols)

-- the written place
target_place : (w : Write) (p : CellRef) → target w p.row p.col ≡ true → p ≡ the_ref w.row w.col
target_place w p e =
    let t = and_parts (eqb p.row w.row) (eqb p.col w.col) e in
    let r = eqb-true p.row w.row t.0 in
    let c = eqb-true p.col w.col t.1 in
    λ i. record { row = r i; col = c i }

-- and the test for it
place_target : (w : Write) (p : CellRef) → p ≡ the_ref w.row w.col → target w p.row p.col ≡ true
place_target w p e =
    and_from (eqb p.row w.row) (eqb p.col w.col) (eq-eqb p.row w.row (ap (λ (q : CellRef). q.row) e)) (eq-eqb p.col w.col (ap (λ (q : CellRef). q.col) e))

module _ (w : Write) (s : Sheet) (p : CellRef) where
  -- whether the cell looked at a place that shows something else
  abbrev looked : Bool
  looked = any_differs s (written w s) (cell_looks (shown s) (held s p.row p.col))

  -- the test in the subject's words
  redone_is : redone w s (written w s) p.row p.col ≡ true → Recalculated w s p
  redone_is e =
      let h = and_parts (is_some (held (written w s) p.row p.col)) (target w p.row p.col || looked) e in
      (h.0, go (or_cases (target w p.row p.col) looked h.1))
    where
      go : (target w p.row p.col ≡ true) ⊎ (looked ≡ true) → (p ≡ the_ref w.row w.col) ⊎ ((q : CellRef) × Looks s p q × (shown_at (written w s) q ≡ shown_at s q → ⊥))
      go (inl t) = inl (target_place w p t)
      go (inr t) =
          let q = one_differs s (written w s) (cell_looks (shown s) (held s p.row p.col)) t in
          inr (q.0, q.1, does_differ (shown_at (written w s) q.0) (shown_at s q.0) q.2)

  -- and back
  is_redone : Recalculated w s p → redone w s (written w s) p.row p.col ≡ true
  is_redone (h, r) = and_from (is_some (held (written w s) p.row p.col)) (target w p.row p.col || looked) h (go r)
    where
      go : (p ≡ the_ref w.row w.col) ⊎ ((q : CellRef) × Looks s p q × (shown_at (written w s) q ≡ shown_at s q → ⊥)) → (target w p.row p.col || looked) ≡ true
      go (inl e) = or_left (target w p.row p.col) looked (place_target w p e)
      go (inr (q, i, o)) =
          or_right (target w p.row p.col) looked
          (differs_in s (written w s) (cell_looks (shown s) (held s p.row p.col)) q i (differs_true (shown_at (written w s) q) (shown_at s q) o))

-- what is worked out again is written or looked at what shows something else, and all such is worked out again
pub worked_exactly : WorkedExactly
worked_exactly w s =
    listed_as
    (λ p (a, b, e). redone_is w s p e)
    (λ p h. let l = inside_is (written w s) p.row p.col (holds_inside (written w s) p.row p.col h.0) in (l.0, l.1, is_redone w s p h))
    (places_listed (redone w s (written w s)) s.rows s.cols)

-- each list is the only one
pub one_list_told : OneListTold
one_list_told s t ps l = one_list ps _ l (told_exactly s t)

pub one_list_worked : OneListWorked
one_list_worked w s ps l = one_list ps _ l (worked_exactly w s)

-- a place that is not written holds what it held, and looked at what shows the same: so it shows the same
pub not_worked_stays : NotWorkedStays
not_worked_stays w s p other out =
    shown_is_consistent (written w s) p.row p.col
    ∙ ap (cell_shows (shown (written w s))) same
    ∙ (cell_local (shown s) (shown (written w s)) (held s p.row p.col) (λ q i. stays q i (cases_Bool (differs_at s (written w s) q)))).1
    ∙ sym (shown_is_consistent s p.row p.col)
  where
    same : held (written w s) p.row p.col ≡ held s p.row p.col
    same = elim (cases_Bool (target w p.row p.col)) [ inl e ↦ absurd (other (target_place w p e)) | inr e ↦ not_written w s p.row p.col e ]

    -- a cell that looks somewhere holds a formula
    some : (o : Option Formula) (q : CellRef) → In q (cell_looks (shown s) o) → is_some o ≡ true
    some None q i = in_none i
    some (Some f) q i = refl

    stays : (q : CellRef) → Looks s p q → (differs_at s (written w s) q ≡ true) ⊎ (differs_at s (written w s) q ≡ false) → shown_at (written w s) q ≡ shown_at s q
    stays q i (inr e) = not_differs (shown_at (written w s) q) (shown_at s q) e
    stays q i (inl e) =
        absurd (out ((worked_exactly w s).all p (ap is_some same ∙ some (held s p.row p.col) q i, inr (q, i, does_differ (shown_at (written w s) q) (shown_at s q) e))))
