use Rattle.std.proofs.Common.{◌*◌, ◌++◌, ◌≤◌, length, take, drop, ap, ◌∙◌, arith, length-drop, length-take}
use Rattle.std.proofs.lemmas.List.{take_rest}
use Rattle.shift.specs.Entries.{left_behind, origin_behind, placed}
use Rattle.shift.proofs.Behind.{cut}
use Rattle.shift.proofs.Grids.{put_behind, whole_grid}
use Rattle.shift.proofs.entries.move_entries.Goals as goal
use Rattle.shift.proofs.entries.move_entries.Goals.{After-first_entry}

begins : (g : _) (c : After-first_entry g) → g.row.LEN * c.first_entry.result ≤ length c.args.entries.now
begins g c = (cut c.args.reshape g.row.LEN (length c.args.entries.now) c.first_entry.result c.requires.room c.first_entry.ensures).0

pub overflow_mul-first_entry : goal.overflow_mul-first_entry
overflow_mul-first_entry g c = let l = begins g c in omega arith

pub offset_bounds-entries-first_entry : goal.offset_bounds-entries-first_entry
offset_bounds-entries-first_entry g c = let l = begins g c in omega arith

pub slice_bounds-move_behind-count : goal.slice_bounds-move_behind-count
slice_bounds-move_behind-count g c = begins g c

pub slice_bounds-move_behind-start : goal.slice_bounds-move_behind-start
slice_bounds-move_behind-start g c = begins g c

pub move_behind-requires : goal.move_behind-requires
move_behind-requires g c =
    let t = cut c.args.reshape g.row.LEN (length c.args.entries.now) c.first_entry.result c.requires.room c.first_entry.ensures in
    record { room = simp (length-take, length-drop) (omega (arith, t.0, t.1)) }

pub returns : goal.returns
returns g c =
    let len = g.row.LEN in
    let d = c.args.reshape.shift in
    let size = c.args.reshape.size in
    let xs = c.args.entries.now in
    let f = c.first_entry.result in
    let t = cut c.args.reshape len (length xs) f c.requires.room c.first_entry.ensures in
    put_behind (len * f) xs c.move_behind.new.part t.0
    ∙ ap (λ ys. take (len * f) xs ++ ys) (c.move_behind.ensures ∙ ap (placed len (origin_behind d size) (left_behind d size)) (take_rest xs (len * f)))
    ∙ ap (λ i. take (len * i) xs ++ placed len (origin_behind d size) (left_behind d size) (drop (len * i) xs)) c.first_entry.ensures
    ∙ whole_grid len d size xs c.args.reshape.shiftable
