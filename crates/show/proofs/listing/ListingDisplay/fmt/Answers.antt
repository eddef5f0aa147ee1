-- One line more.
use Rattle.std.proofs.Common.{Some, ap, ◌∙◌}
use Rattle.formula.specs.declared.token.CellRef.{CellRef}
use Rattle.formula.specs.Cells.{content}
use Rattle.recalc.specs.Layout.{cell_numbers}
use Rattle.show.specs.Listing.{line_of}
use Rattle.show.proofs.Texts.{none_written, one_more}
use Rattle.show.proofs.listing.ListingDisplay.fmt.Goals as goal

pub loop-k-init : goal.loop-k-init
loop-k-init g c = none_written _ _ _

pub loop-k-preserved : goal.loop-k-preserved
loop-k-preserved g c =
    let place = c.place-place.result in
    one_more _ _ _ _ _ _ _ c.loop-k.invariant c.in_ok-fmt.ensures.writes
    (ap (λ x. Some (line_of place.row place.col x)) c.cell-cell.ensures
    ∙ ap (λ (p : CellRef). Some (line_of p.row p.col (content (cell_numbers c.loop-k.k c.args.self.now.sheet.nums.now)))) c.place-place.ensures)
