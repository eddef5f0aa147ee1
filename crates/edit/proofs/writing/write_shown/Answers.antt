use Rattle.edit.proofs.Rows.{shown_first}
use Rattle.edit.proofs.writing.write_shown.Goals as goal

pub write_cell-requires : goal.write_cell-requires
write_cell-requires c =
    let h = shown_first c.args.nums.now c.args.values.now c.show_sheet.new.out c.show_sheet.result
    c.in_ok-show_sheet.was c.show_sheet.ensures in
    record { sheet = h.0; shown = h.1 }
