use Rattle.std.proofs.Common.{◌∙◌}
use Rattle.shift.proofs.Grids.{cleared_grid}
use Rattle.shift.proofs.entries.shift_entries.Goals as goal

pub returns : goal.returns
returns g c =
    c.clear.ensures
    ∙ cleared_grid g.row.LEN c.args.reshape.shift c.args.reshape.size c.args.entries.now c.args.reshape.shiftable c.move_entries.new.entries c.entries_after.result c.most_entries.result
    c.entries_after.ensures.0 c.most_entries.ensures.0 c.requires.room c.move_entries.ensures
