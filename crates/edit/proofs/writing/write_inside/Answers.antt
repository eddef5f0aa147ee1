use Rattle.std.proofs.Common.{◌≡◌, ◌+◌, ◌*◌, ◌≤◌, eqb, ◌++◌, length, take, drop, is_ok, sym, ap, ◌∙◌, subst}
use Rattle.recalc.specs.Before.{row_shows}
use Rattle.recalc.specs.Layout.{cols_in}
use Rattle.recalc.specs.Numbered.{count, sheet_language}
use Rattle.recalc.specs.Change.{change, Updated}
use Rattle.recalc.specs.Showing.{values_from, table_shows}
use Rattle.recalc.specs.Sheets.{sheet_in}
use Rattle.edit.specs.Writes.{allowed}
use Rattle.edit.specs.Places.{places_from}
use Rattle.edit.specs.Values.{table_differs, formula_marked}
use Rattle.edit.proofs.Inside.{allowed_is, ok_is, values_room, cell_room, still_ok, count_now, values_read, wrote}
use Rattle.edit.proofs.writing.write_inside.Goals as goal

pub put_cell-requires : goal.put_cell-requires
put_cell-requires c = cell_room c.args.write c.args.nums.now c.args.values.now c.number-cell.result c.requires.sheet (c.number-cell.ensures ∙ ap (λ ys. c.args.write.place.row * cols_in ys + c.args.write.place.col) c.of.ensures) c.requires.allowed

pub of-after-requires : goal.of-after-requires
of-after-requires c =
    let w = c.args.write in
    let xs = c.args.nums.now in
    let v = ok_is (allowed w (sheet_in xs)) c.requires.allowed in
    let a = allowed_is w (sheet_in xs) v.0 v.1 in
    still_ok w xs c.args.values.now c.number-cell.result c.requires.sheet (c.number-cell.ensures ∙ ap (λ ys. c.args.write.place.row * cols_in ys + c.args.write.place.col) c.of.ensures) v.0 a c.put_cell.new.nums c.put_cell.ensures

pub tell-requires-clause-room : goal.tell-requires-clause-room
tell-requires-clause-room c =
    let w = c.args.write in
    let xs = c.args.nums.now in
    let vs = c.args.values.now in
    let k = c.number-cell.result in
    let at = (c.number-cell.ensures ∙ ap (λ ys. c.args.write.place.row * cols_in ys + c.args.write.place.col) c.of.ensures) in
    let v = ok_is (allowed w (sheet_in xs)) c.requires.allowed in
    let a = allowed_is w (sheet_in xs) v.0 v.1 in
    let same = count_now w xs vs k c.requires.sheet at v.0 a c.put_cell.new.nums c.put_cell.ensures ∙ ap (λ ys. count (sheet_in ys)) (sym c.of-after.ensures) in
    subst (λ n. 2 * n ≤ length vs) same (values_room w xs vs k c.requires.sheet at c.requires.shown)

pub tell-requires-clause-shown : goal.tell-requires-clause-shown
tell-requires-clause-shown c =
    let w = c.args.write in
    let xs = c.args.nums.now in
    let vs = c.args.values.now in
    let k = c.number-cell.result in
    let at = (c.number-cell.ensures ∙ ap (λ ys. c.args.write.place.row * cols_in ys + c.args.write.place.col) c.of.ensures) in
    let v = ok_is (allowed w (sheet_in xs)) c.requires.allowed in
    let a = allowed_is w (sheet_in xs) v.0 v.1 in
    let same = count_now w xs vs k c.requires.sheet at v.0 a c.put_cell.new.nums c.put_cell.ensures ∙ ap (λ ys. count (sheet_in ys)) (sym c.of-after.ensures) in
    subst (λ n. vs ≡ values_from (row_shows vs) 0 n ++ drop (2 * n) vs) same (values_read w xs vs k c.requires.sheet at v.0 a c.put_cell.new.nums c.put_cell.ensures c.requires.shown)

-- whichever write is asked for
pub returns-clause-wrote : goal.returns-clause-wrote
returns-clause-wrote c v e =
    let w = c.args.write in
    let xs = c.args.nums.now in
    let vs = c.args.values.now in
    let k = c.number-cell.result in
    let at = (c.number-cell.ensures ∙ ap (λ ys. c.args.write.place.row * cols_in ys + c.args.write.place.col) c.of.ensures) in
    let ys = c.put_cell.new.nums in
    let zs = c.of-after.result.nums.now in
    let a = allowed_is w (sheet_in xs) v e in
    let n = count (sheet_in zs) in
    let same : n ≡ count (sheet_in xs) = ap (λ q. count (sheet_in q)) c.of-after.ensures ∙ sym (count_now w xs vs k c.requires.sheet at v a ys c.put_cell.ensures) in
    let t = take n c.recalculate.new.self.table in
    let d = take n c.recalculate.new.self.marks in
    let old = row_shows vs in
    wrote w xs vs k c.requires.sheet at v a ys c.put_cell.ensures c.requires.shown t d
    (subst (λ q. Updated (change (sheet_language (sheet_in q)) old (λ i. eqb i k)) t d) c.of-after.ensures c.recalculate.ensures)
    c.tell.new.values _ _ _ _
    (c.tell.ensures.values ∙ ap (λ m. values_from (table_shows t) 0 m ++ drop (2 * m) vs) same)
    (c.tell.ensures.changed ∙ ap (λ q. places_from (cols_in q) (table_differs t old) 0 n) c.of-after.ensures ∙ ap (places_from (cols_in ys) (table_differs t old) 0) same)
    (c.tell.ensures.recalculated ∙ ap (λ q. places_from (cols_in q) (formula_marked q d) 0 n) c.of-after.ensures ∙ ap (places_from (cols_in ys) (formula_marked ys d) 0) same)

pub returns-clause-ready : goal.returns-clause-ready
returns-clause-ready c =
    let v = ok_is (allowed c.args.write (sheet_in c.args.nums.now)) c.requires.allowed in
    let done = returns-clause-wrote c v.0 v.1 in
    (ap is_ok done.formed, done.shown)
