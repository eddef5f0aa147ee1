use Rattle.std.proofs.Common.{◌<◌, Some, None, sym, ap, ◌∙◌, subst}
use Rattle.formula.specs.declared.token.CellRef.{CellRef}
use Rattle.formula.specs.Tokens.{the_ref}
use Rattle.recalc.specs.declared.size.Size.{Size}
use Rattle.recalc.specs.Entries.{by_number}
use Rattle.shift.specs.Shifts.{rows_after, cols_after, place_from}
use Rattle.shift.proofs.Origins.{place_within, before_number}
use Rattle.shift.proofs.reshape.Reshape.origin.Goals as goal

pub place_before-requires : goal.place_before-requires
place_before-requires c =
    let d = c.args.self.shift in
    let size = c.args.self.size in
    let there = c.place.ensures ∙ ap (λ (z : Size). by_number z.cols the_ref c.args.k) c.size_after.ensures in
    subst (λ (p : CellRef). (p.row < rows_after d size.rows) × (p.col < cols_after d size.cols)) (sym there) (place_within d size c.args.k c.args.self.shiftable c.requires)

pub number-requires : goal.number-requires
number-requires c =
    let d = c.args.self.shift in
    before_number d c.args.self.size c.args.k c.size_after.result.cols c.in_ok-from.from c.args.self.shiftable c.requires
    (ap (λ (z : Size). z.cols) c.size_after.ensures)
    (sym c.in_ok-from.was ∙ c.place_before.ensures ∙ ap (λ (p : CellRef). place_from None d (λ i j. Some (the_ref i j)) p.row p.col) c.place.ensures)
