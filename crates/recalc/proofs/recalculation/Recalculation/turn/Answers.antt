use Rattle.std.proofs.Common.{◌≡◌, ◌-◌, ◌<◌, true, false, length, take, set, ap, sym, refl, ◌∙◌, inl, inr, ⊎_elim, arith}
use Rattle.std.proofs.lemmas.Bool.{cases_Bool}
use Rattle.evaluate.specs.declared.value.CellError.TheVariants.{Cycle}
use Rattle.evaluate.specs.declared.value.Value.TheVariants.{Error}
use Rattle.recalc.specs.Language.{shown}
use Rattle.recalc.specs.Marks.{mark_at, flag, worked_out}
use Rattle.recalc.specs.Change.{Decided}
use Rattle.recalc.specs.Turns.{change_of}
use Rattle.recalc.specs.declared.formulas.Progress.TheVariants.{Open}
use Rattle.recalc.proofs.Table.{waiting_less, open_not}
use Rattle.recalc.proofs.Settling.{settles}
use Rattle.recalc.proofs.Cycles.{leads_back}
use Rattle.recalc.proofs.Goings.{same_onward}
use Rattle.recalc.proofs.Moves.{cycled, not_dirty, differs, top_within}
use Rattle.recalc.proofs.Turns.{value_is, looked_at, equal, done, entered, found_cycle, marks}
use Rattle.recalc.proofs.recalculation.Recalculation.turn.Goals as goal

pub open-requires-clause-room : goal.open-requires-clause-room
open-requires-clause-room g c =
    let a = c.args.self.now in
    let j = c.in-Err.j in
    let good = c.requires.going.good in
    let inside : j < length a.table.now = omega (arith, c.in-Err.ensures.within, good.t_size) in
    omega (arith, good.room, good.t_size, waiting_less a.table.now j (Open 0) inside c.in-Waiting.is (open_not 0))

pub returns-in-Ok : goal.returns-in-Ok
returns-in-Ok g c =
    let l = g.F.Formulas.language c.args.self.now.formulas.now in
    let b = g.B.Before.shows c.args.self.now.before.now in
    let a = c.args.self.now in
    let k = c.args.k in
    let v = c.in-Ok.v in
    let good = c.requires.going.good in
    let h = c.in-Ok.ensures in
    let r = value_is l k (shown l) a.table.now a.kept.now good.right good.kept_right (flag a.marks.now k) v h.all h.same ∙ settles (g.met.F.Formulas.lawful a.formulas.now) k in
    let decided : Decided (change_of a) a.marks.now k =
    ⊎_elim
    (λ e. inl e)
    (λ e.
    let m = h.same e b good.kept_same in
    inr (not_dirty good k (top_within good k c.requires.top) e m.1, sym m.0 ∙ r))
    (cases_Bool (flag a.marks.now k)) in
    record {
      same = same_onward c.note.ensures.same c.close.ensures.same;
      stepped = equal (c.close.ensures.table ∙ c.note.ensures.table) c.close.ensures.kept (c.close.ensures.marks ∙ ap (λ y. set y k (worked_out (mark_at y k))) c.note.ensures.marks) (c.close.ensures.stack ∙ ap (λ y. take (length y - 1) y) c.note.ensures.stack)
          (done good k v c.note.new.self.kept.now c.requires.top r c.note.ensures.kept decided);
    }

pub returns-in-Waiting : goal.returns-in-Waiting
returns-in-Waiting g c =
    let a = c.args.self.now in
    let l = g.F.Formulas.language a.formulas.now in
    let good = c.requires.going.good in
    let h = c.in-Err.ensures in
    let looks = looked_at l c.args.k (shown l) a.table.now a.kept.now good.right good.kept_right (flag a.marks.now c.args.k) c.in-Err.j h.all h.same in
    record {
      same = c.open.ensures.same;
      stepped = equal c.open.ensures.table c.open.ensures.kept c.open.ensures.marks c.open.ensures.stack (entered good c.args.k c.in-Err.j c.requires.top h.within c.in-Waiting.is looks);
    }

pub returns-in-Open : goal.returns-in-Open
returns-in-Open g c =
    let a = c.args.self.now in
    let l = g.F.Formulas.language a.formulas.now in
    let good = c.requires.going.good in
    let h = c.in-Err.ensures in
    let j = c.in-Err.j in
    let i = c.in-Open.field-0 in
    let looks = looked_at l c.args.k (shown l) a.table.now a.kept.now good.right good.kept_right (flag a.marks.now c.args.k) j h.all h.same in
    let e = c.note-in-Open.ensures in
    let r = sym (leads_back (g.met.F.Formulas.lawful a.formulas.now) j (cycled good c.args.k j i c.requires.top c.in-Open.is looks)) in
    record {
      same = e.same;
      stepped = equal e.table refl e.marks e.stack (found_cycle good j i (Error Cycle) c.note-in-Open.new.self.kept.now h.within c.in-Open.is r e.kept);
    }

pub returns-in-Known : goal.returns-in-Known
returns-in-Known g c =
    let a = c.args.self.now in
    let l = g.F.Formulas.language a.formulas.now in
    let k = c.args.k in
    let j = c.in-Err.j in
    let good = c.requires.going.good in
    let h = c.in-Err.ensures in
    let e = c.mark.ensures in
    record {
      same = e.same;
      stepped = equal e.table e.kept e.marks e.stack
          (⊎_elim
          (λ (d : flag a.marks.now k ≡ true). absurd ((h.all d (shown l) good.right).1 _ c.in-Known.is))
          (λ (d : flag a.marks.now k ≡ false).
          let b = h.same d (g.B.Before.shows a.before.now) good.kept_same in
          marks good k c.requires.top d (inr (j, b.0, differs good j _ c.in-Known.is b.1)))
          (cases_Bool (flag a.marks.now k)));
    }
