-- One entry more, and the end.
use Rattle.std.proofs.Common.{max, length, sym, ap, ◌∙◌}
use Rattle.show.specs.Entries.{entry_text}
use Rattle.show.specs.Table.{largest, width_at}
use Rattle.show.proofs.Widths.{largest_none, largest_more}
use Rattle.show.proofs.table.Table.column_width.Goals as goal

pub loop-line-init : goal.loop-line-init
loop-line-init c = largest_none (width_at c.args.self.now.values.numbers.now c.args.self.now.values.size.cols c.args.col)

pub loop-line-preserved : goal.loop-line-preserved
loop-line-preserved c =
    let f = width_at c.args.self.now.values.numbers.now c.args.self.now.values.size.cols c.args.col in
    let here = c.in_ok-width_of.ensures ∙ ap (λ e. length (entry_text e)) c.entry.ensures in
    c.max-width.ensures ∙ ap (λ w. max w c.in_ok-width_of.field-0) c.loop-line.invariant ∙ ap (max (largest f c.loop-line.line)) here ∙ sym (largest_more f c.loop-line.line)
