-- A write that was done, as the state after it. Assumes nothing.
use Rattle.std.proofs.Common.{◌≡◌, ℕ, ◌*◌, ◌++◌, Bool, true, false, List, drop, Some, None, Ok, Err, Option, Result, refl, sym, ap, ◌∙◌, subst}
use Rattle.std.specs.Option.{option_map}
use Rattle.formula.specs.declared.token.CellRef.{CellRef}
use Rattle.formula.specs.Tokens.{the_ref}
use Rattle.formula.specs.Results.{answered}
use Rattle.formula.specs.Formula.{Formula}
use Rattle.formula.specs.Reading.{spelled}
use Rattle.formula.specs.Moving.{moved_row}
use Rattle.formula.proofs.Rewritten.{spelled_moved}
use Rattle.recalc.specs.declared.refusal.Refusal.{Refusal}
use Rattle.recalc.specs.Sheets.{Sheet, sheet_in, Same}
use Rattle.recalc.specs.Numbered.{count}
use Rattle.recalc.specs.Showing.{sheet_values}
use Rattle.shift.specs.declared.shift.Shift.{Shift}
use Rattle.shift.specs.Shifts.{unless, place_lost, row_to, col_to, ref_after, range_after}
use Rattle.shift.specs.Sheets.{shift_formula, shift_cell}
use Rattle.edit.specs.declared.write.Write as code
use Rattle.edit.specs.Writes.{Write, asked, allowed}
use Rattle.edit.specs.Memory.{State, Wrote, Writes}
use Rattle.rebase.specs.declared.rebased.Rebased.{Rebased}
use Rattle.rebase.specs.declared.rebased.Rebased.TheVariants.{Written}
use Rattle.rebase.specs.Rebased.{moved_write, undropped, rebased, answer_of, state_after, Does, state_then, sheet_then, Rebases}
use Rattle.recalc.proofs.Shown.{same_refl}

-- what was written is all that there is
pub after_write : (v : Write) (a b : State) → Wrote v a b → b ≡ state_after v a
after_write v a b w = λ i. record {
  nums = w.memory i;
  values = (w.values ∙ ap (λ ys. sheet_values (sheet_in ys) ++ drop (2 * count (sheet_in a.nums)) a.values) w.memory) i;
  changed = w.changed i;
  recalculated = w.recalculated i;
}

pub does : (w : code.Write) (a b : State) (r : Result (Unit {0}) Refusal) → Writes w a r b → Does (allowed w (sheet_in a.nums)) a r b
does w a b r h = let t = go (allowed w (sheet_in a.nums)) refl in record { answer = h.answer; state = t.0; sheet = t.1 }
  where
    go : (o : Result Write Refusal) → allowed w (sheet_in a.nums) ≡ o → (b ≡ state_then (undropped o) a) × Same (sheet_in b.nums) (sheet_then (undropped o) (sheet_in a.nums))
    go (Ok v) e = (after_write v a b (h.wrote v e), (h.wrote v e).sheet)
    go (Err x) e = (h.refused x e, subst (λ (y : State). Same (sheet_in y.nums) (sheet_in a.nums)) (sym (h.refused x e)) (same_refl (sheet_in a.nums)))

-- what a shift makes of tokens spells what it makes of their formula
pub carried_spelled : (d : Shift) (ts : List ℕ)
    → option_map {T = Formula} {U = Option Formula} Some (spelled (moved_row (ref_after d) (range_after d) ts)) ≡ option_map (shift_cell d) (option_map Some (spelled ts))
carried_spelled d ts = ap (option_map Some) (spelled_moved (ref_after d) (range_after d) ts) ∙ go (spelled ts)
  where
    go : (o : Option Formula) → option_map {T = Formula} {U = Option Formula} Some (option_map (shift_formula d) o) ≡ option_map (shift_cell d) (option_map Some o)
    go None = refl
    go (Some x) = refl

-- what is answered of a carried write that was not dropped
abbrev pub as_rebased : Result (Unit {0}) Refusal → Result Rebased Refusal
as_rebased (Ok u) = Ok Written
as_rebased (Err e) = Err e

-- a write where its cell is after the shift
pub rebases : (d : Shift) (w : code.Write) (a b : State) (r : Result (Unit {0}) Refusal) (p : CellRef) → Some p ≡ ref_after d w.place
    → Does (moved_write d (sheet_in a.nums) p (asked w.formula)) a r b → Rebases d w a (as_rebased r) b
rebases d w a b r p e h = go (place_lost d w.place.row w.place.col) refl e
  where
    t : Sheet
    t = sheet_in a.nums

    q : CellRef
    q = the_ref (row_to d w.place.row) (col_to d w.place.col)

    done : (o : Result Write Refusal) → r ≡ answered o → as_rebased r ≡ answer_of (undropped o)
    done (Ok v) e = ap as_rebased e
    done (Err y) e = ap as_rebased e

    go : (l : Bool) → place_lost d w.place.row w.place.col ≡ l → Some p ≡ unless l q → Rebases d w a (as_rebased r) b
    go true l e = absurd (cc)
    go false l e =
        let z : p ≡ q = cc in
        let o = moved_write d t q (asked w.formula) in
        let x = subst (λ i. Does (moved_write d t i (asked w.formula)) a r b) z h in
        let is : rebased d w t ≡ undropped o = rw l refl in
        record { answer = done o x.answer ∙ ap answer_of (sym is); state = x.state ∙ ap (λ y. state_then y a) (sym is); sheet = subst (λ y. Same (sheet_in b.nums) (sheet_then y t)) (sym is) x.sheet }
