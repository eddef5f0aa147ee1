use Rattle.std.proofs.Common.{◌*◌, ◌++◌, ◌≤◌, max, length, drop, ap, ◌∙◌, mul-le-mul_left, arith}
use Rattle.formula.specs.Layout.{cell_len}
use Rattle.shift.specs.Entries.{cells_of, size_after}
use Rattle.shift.proofs.Memories.{front_shifted, moved_then_shifted}
use Rattle.shift.proofs.memory.shift_grid.Goals as goal

pub returns : goal.returns
returns c =
    let d = c.args.reshape.shift in
    let size = c.args.reshape.size in
    let xs = c.args.cells.now in
    let now = c.shift_entries.new.entries in
    let n = c.entries_after.result in
    let before : cells_of size ≤ max (cells_of size) (cells_of (size_after d size)) = omega arith in
    let after : n ≤ max (cells_of size) (cells_of (size_after d size)) = omega (arith, c.entries_after.ensures.0) in
    let fits : cell_len * cells_of size ≤ length xs = omega (arith, mul-le-mul_left cell_len before) in
    let room : cell_len * n ≤ length now = omega (arith, mul-le-mul_left cell_len after) in
    moved_then_shifted d size xs c.args.reshape.shiftable fits now _ n c.entries_after.ensures.0 c.shift_entries.ensures
    (ap (λ ys. ys ++ drop (cell_len * n) now) c.shift_cells.ensures ∙ front_shifted d n now room)
