use Rattle.std.proofs.Common.{◌*◌, ◌++◌, length, take, drop, ap, ◌∙◌, arith}
use Rattle.recalc.specs.Sheets.{sheet_in}
use Rattle.recalc.specs.Numbered.{count}
use Rattle.recalc.specs.Showing.{table_numbers}
use Rattle.recalc.proofs.Rows.{row_shown}
use Rattle.recalc.proofs.lent.LentSheet.show.Goals as goal

pub write_values-requires : goal.write_values-requires
write_values-requires c =
    let t = c.recalculate.new.self.table in
    omega (arith, c.requires, ap length c.table.ensures ∙ c.recalculate.ensures.size)

pub returns : goal.returns
returns c =
    let u = c.recalculate.ensures in
    let s = sheet_in c.args.self.now.nums.now in
    let t = c.recalculate.new.self.table in
    row_shown s (take (count s) t) c.args.out.now c.write_values.new.out u.size u.known
    (c.write_values.ensures ∙ ap (λ ps. table_numbers ps ++ drop (2 * length ps) c.args.out.now) c.table.ensures)
