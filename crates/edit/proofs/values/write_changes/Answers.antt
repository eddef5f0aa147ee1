use Rattle.std.proofs.Common.{◌≡◌, List, length, vec_items, sym, ap, ◌∙◌, arith}
use Rattle.formula.specs.declared.token.CellRef.{CellRef}
use Rattle.evaluate.specs.Values.{value_numbers}
use Rattle.recalc.specs.Before.{row_shows}
use Rattle.recalc.specs.Layout.{cols_in}
use Rattle.recalc.proofs.Entries.{filled_none}
use Rattle.recalc.proofs.Rows.{filled_values}
use Rattle.edit.specs.declared.place_list.PlaceList.{PlaceList}
use Rattle.edit.specs.Places.{places_from}
use Rattle.edit.specs.Changes.{differs}
use Rattle.recalc.specs.Showing.{table_shows}
use Rattle.edit.specs.Values.{with_value, table_differs}
use Rattle.edit.proofs.Places.{places_few, places_add, places_pass}
use Rattle.edit.proofs.Differing.{not_differs}
use Rattle.edit.proofs.Rows.{value_written, value_left, still_shows}
use Rattle.edit.proofs.values.write_changes.Goals as goal
use Rattle.edit.proofs.values.write_changes.Goals.{then-is_changed, else-is_changed}

pub loop-k-init : goal.loop-k-init
unfolding places_from
loop-k-init c = (filled_none (λ i. value_numbers (table_shows c.args.table.now i)) 2 c.args.values.now, c.requires.empty)

pub add-requires : goal.add-requires
add-requires c =
    let f = table_differs c.args.table.now (row_shows c.args.values.now) in
    omega (arith, ap length c.loop-k.invariant.1, places_few (cols_in c.args.sheet.now.nums.now) f 0 c.loop-k.k, c.requires.few)

pub loop-k-preserved : goal.loop-k-preserved
loop-k-preserved c =
    let t = c.args.table.now in
    let k = c.loop-k.k in
    let xs = c.args.values.now in
    let old = row_shows xs in
    let f = table_differs t old in
    let n = length t in
    let inv = c.loop-k.invariant in
    let listed : PlaceList → List CellRef = λ x. vec_items x.places in
    let e = c.known_value-value.ensures in
    let here = c.row_value-before.ensures ∙ still_shows t xs k c.loop-k.values n c.loop-k-test.true c.requires.shown inv.0 in
    let tested : f k ≡ differs c.known_value-value.result c.row_value-before.result = ap (λ v. differs v (old k)) (sym e) ∙ ap (differs c.known_value-value.result) (sym here) in
    elim c.if-is_changed.branch [
      | then-is_changed w ↦ (
        value_written t xs k c.loop-k.values _ n c.loop-k-test.true inv.0 (w.values-is ∙ w.write.ensures ∙ ap (with_value c.loop-k.values k) e),
        ap listed w.list-is
            ∙ places_add (cols_in c.args.sheet.now.nums.now) f k _ _ _ inv.1 w.add.ensures w.place.ensures (tested ∙ sym w.if-is_changed.ensures),
      )
      | else-is_changed w ↦ (
        let d = not_differs _ _ (sym w.if-is_changed.ensures) in
            value_left t old xs k c.loop-k.values _ n c.loop-k-test.true c.requires.shown inv.0 (sym e ∙ d ∙ here) w.values-is,
        ap listed w.list-is ∙ places_pass (cols_in c.args.sheet.now.nums.now) f k _ inv.1 (tested ∙ sym w.if-is_changed.ensures),
      )
    ]

pub returns-clause-values : goal.returns-clause-values
returns-clause-values c =
    let t = c.args.table.now in
    let e : c.loop-k.k ≡ length t = omega arith in
    filled_values (table_shows t) c.args.values.now c.loop-k.values c.loop-k.k (length t) e c.loop-k.invariant.0
