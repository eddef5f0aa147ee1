use Rattle.std.proofs.Common.{None, sym, ◌∙◌, arith}
use Rattle.std.proofs.lemmas.Nat.{mul-le}
use Rattle.recalc.specs.SheetLaws.{number_inside}
use Rattle.recalc.proofs.filling.FilledCells.at.Goals as goal

pub number-requires : goal.number-requires
number-requires c =
    let s = c.args.self.now in
    let h = number_inside (record { rows = s.size.rows; cols = s.size.cols; cells = λ i j. None }) c.args.place (sym c.contains.ensures ∙ c.if-not-contains.false) in
    omega (arith, h, mul-le s.size.rows s.size.cols _ _ s.few.0 s.few.1)

pub bounds-self-number : goal.bounds-self-number
bounds-self-number c =
    let s = c.args.self.now in
    let h = number_inside (record { rows = s.size.rows; cols = s.size.cols; cells = λ i j. None }) c.args.place (sym c.contains.ensures ∙ c.if-not-contains.false) in
    omega (arith, h, s.few.2)
