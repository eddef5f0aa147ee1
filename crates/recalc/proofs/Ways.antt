-- Ways of looks from place to place, from those from number to number. Assumes nothing.
use Rattle.std.proofs.Common.{◌≡◌, ℕ, ◌/◌, ◌%◌, Bool, true, false, cond, ◌⊎◌, None, Option, sym, refl, ap, ◌∙◌, subst, inl, inr}
use mathlib.Core.Path.{fun_ext}
use Rattle.std.proofs.lemmas.Nat.{div-mul-add, mod-mul-add}
use Rattle.formula.specs.declared.token.CellRef.{CellRef}
use Rattle.formula.specs.Formula.{Formula}
use Rattle.formula.specs.Tokens.{the_ref}
use Rattle.evaluate.specs.declared.value.CellError.TheVariants.{Cycle}
use Rattle.evaluate.specs.declared.value.Value.{Value}
use Rattle.evaluate.specs.declared.value.Value.TheVariants.{Error}
use Rattle.evaluate.specs.Knowledge.{In}
use Rattle.evaluate.proofs.Places.{in_none}
use Rattle.recalc.specs.Sheets.{Sheet, inside, held, cell_looks}
use Rattle.recalc.specs.Sheets as sheets
use Rattle.recalc.specs.Language.{Leads, one, more, shown}
use Rattle.recalc.specs.Numbered.{number_of, nth_cell, laid, LooksAt, sheet_language}
use Rattle.recalc.specs.Shown.{shown_at, Looks, Way, CycleExactly}
use Rattle.recalc.specs.Shown as places
use Rattle.recalc.specs.SheetLaws.{inside_is, lawful, laid_inside, laid_cycle}
use Rattle.recalc.proofs.Cycles.{leads_to_cycle, leads_back, cycle_leads}
use Rattle.recalc.proofs.Laid.{nth_at, shown_laid}

module _ (s : Sheet) where
  -- one number looks at another
  abbrev Numbers : ℕ → ℕ → Type 0
  Numbers = LooksAt s (shown (sheet_language s))

  -- where number k is
  place : ℕ → CellRef
  place k = the_ref (k / s.cols) (k % s.cols)

  place_of_number : (q : CellRef) → inside s q.row q.col ≡ true → place (number_of s q) ≡ q
  unfolding place
  place_of_number q e =
      let l = (inside_is s q.row q.col e).1 in
      λ i. record { row = div-mul-add q.row s.cols q.col l i; col = mod-mul-add q.row s.cols q.col l i }

  -- what the numbers show, laid out, is what is shown
  all_laid : laid s (shown (sheet_language s)) ≡ sheets.shown s
  all_laid = fun_ext (λ r. fun_ext (λ c. sym (shown_laid s r c)))

  -- a look from number to number is one from place to place, and so is a way
  look_of : (k j : ℕ) → Numbers k j → Looks s (place k) (place j)
  unfolding place
  look_of k j (q, i, within, e) =
      let at = subst (λ (f : ℕ → ℕ → Value). In q (cell_looks f (nth_cell s k))) all_laid i in
      subst (Looks s (place k)) (sym (place_of_number q within) ∙ ap place e) at

  way_of : {k j : ℕ} → Leads Numbers k j → Way s (place k) (place j)
  way_of {k} {j} (one i) = places.one (look_of k j i)
  way_of {k} (more {b = b} i w) = places.more (look_of k b i) (way_of w)

  -- a place that looks at another is inside
  looks_inside : (p q : CellRef) → Looks s p q → inside s p.row p.col ≡ true
  looks_inside p q i = go (inside s p.row p.col) refl i
    where
      go : (b : Bool) → inside s p.row p.col ≡ b → In q (cell_looks (sheets.shown s) (cond b (s.cells p.row p.col) None)) → inside s p.row p.col ≡ true
      go true e i = e
      go false e i = in_none i

  way_inside : {p q : CellRef} → Way s p q → inside s p.row p.col ≡ true
  way_inside {p} {q} (places.one i) = looks_inside p q i
  way_inside {p} (places.more {q = q} i w) = looks_inside p q i

  -- a look from place to place inside is one from number to number, and so is a way
  number_look : (p q : CellRef) → Looks s p q → inside s q.row q.col ≡ true → Numbers (number_of s p) (number_of s q)
  number_look p q i within =
      let o = subst (λ (f : ℕ → ℕ → Value). In q (cell_looks f (held s p.row p.col))) (sym all_laid) i in
      (q, subst (λ (c : Option Formula). In q (cell_looks (laid s (shown (sheet_language s))) c)) (sym (nth_at s p.row p.col (looks_inside p q i))) o, within, refl)

  number_way : {p q : CellRef} → Way s p q → inside s q.row q.col ≡ true → Leads Numbers (number_of s p) (number_of s q)
  number_way {p} {q} (places.one i) within = one (number_look p q i within)
  number_way {p} (places.more {q = z} i w) within = more (number_look p z i (way_inside w)) (number_way w within)

  -- a place inside shows what its number shows
  number_shows : (p : CellRef) → inside s p.row p.col ≡ true → shown_at s p ≡ shown (sheet_language s) (number_of s p)
  number_shows p within = shown_laid s p.row p.col ∙ laid_inside s (shown (sheet_language s)) p within

  -- a place with a way back to itself shows the cycle error, and so does one with a way to it
  round_shows : (q : CellRef) → Way s q q → shown (sheet_language s) (number_of s q) ≡ Error Cycle
  round_shows q w = leads_back (lawful s) (number_of s q) (number_way w (way_inside w))

  to_round_shows : (p q : CellRef) → (p ≡ q) ⊎ Way s p q → Way s q q → shown_at s p ≡ Error Cycle
  to_round_shows p q (inl e) w = ap (shown_at s) e ∙ number_shows q (way_inside w) ∙ round_shows q w
  to_round_shows p q (inr v) w = number_shows p (way_inside v) ∙ leads_to_cycle (lawful s) (number_way v (way_inside w)) (round_shows q w)

  -- and only these do
  cycle_comes_round : (p : CellRef) → shown_at s p ≡ Error Cycle → (q : CellRef) × ((p ≡ q) ⊎ Way s p q) × Way s q q
  cycle_comes_round p e =
      let d = laid_cycle s (shown (sheet_language s)) p (sym (shown_laid s p.row p.col) ∙ e) in
      let t = cycle_leads (lawful s) (number_of s p) d.1 in
      (place t.0, inr (subst (λ (x : CellRef). Way s x (place t.0)) (place_of_number p d.0) (way_of t.1)), way_of t.2)

pub cycle_exact : CycleExactly
cycle_exact s p = (cycle_comes_round s p, to_round_shows s p)
