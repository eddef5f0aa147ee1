use Rattle.std.proofs.Common.{List, length, vec_items, sym, ap, ◌∙◌, arith}
use Rattle.formula.specs.declared.token.CellRef.{CellRef}
use Rattle.recalc.specs.Layout.{cols_in}
use Rattle.edit.specs.declared.place_list.PlaceList.{PlaceList}
use Rattle.edit.specs.Places.{places_from}
use Rattle.edit.specs.Values.{formula_marked}
use Rattle.edit.proofs.Places.{places_few, places_add, places_pass}
use Rattle.edit.proofs.formulas.list_recalculated.Goals as goal
use Rattle.edit.proofs.formulas.list_recalculated.Goals.{then-is_recalculated, else-is_recalculated}

pub loop-k-init : goal.loop-k-init
unfolding places_from
loop-k-init c = c.requires.empty

pub add-requires : goal.add-requires
add-requires c =
    let f = formula_marked c.args.sheet.now.nums.now c.args.marks.now in
    omega (arith, ap length c.loop-k.invariant, places_few (cols_in c.args.sheet.now.nums.now) f 0 c.loop-k.k, c.requires.few)

pub loop-k-preserved : goal.loop-k-preserved
loop-k-preserved c =
    let f = formula_marked c.args.sheet.now.nums.now c.args.marks.now in
    let cols = cols_in c.args.sheet.now.nums.now in
    let k = c.loop-k.k in
    let at : PlaceList → List CellRef = λ x. vec_items x.places in
    let inv = c.loop-k.invariant in
    elim c.if-is_recalculated.branch [
      | then-is_recalculated w ↦ ap at w.list-is ∙ places_add cols f k _ _ _ inv w.add.ensures w.place.ensures (sym w.if-is_recalculated.ensures)
      | else-is_recalculated w ↦ ap at w.list-is ∙ places_pass cols f k _ inv (sym w.if-is_recalculated.ensures)
    ]
