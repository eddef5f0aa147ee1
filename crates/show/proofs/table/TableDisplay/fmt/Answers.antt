-- The widths that were worked out are those of the columns.
use Rattle.std.proofs.Common.{◌+◌, get_or, arith}
use Rattle.std.proofs.Output.{has_written_of_eq}
use Rattle.show.specs.Table.{column_width}
use Rattle.show.proofs.Widths.{widths_alike}
use Rattle.show.proofs.table.TableDisplay.fmt.Goals as goal

pub returns-clause-writes : goal.returns-clause-writes
returns-clause-writes g c plain ok =
    let xs = c.args.self.now.values.numbers.now in
    let size = c.args.self.now.values.size in
    let widths = c.in_ok-column_widths.field-0 in
    let same = widths_alike xs size.cols (λ col. get_or widths.items col 0) (column_width xs size) (size.rows + 1) (size.cols + 1) (λ col l. c.in_ok-column_widths.ensures col (omega arith)) in
    has_written_of_eq _ _ _ _ _ same (c.fmt.ensures.writes plain ok)
