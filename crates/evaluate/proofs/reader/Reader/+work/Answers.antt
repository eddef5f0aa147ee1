use Rattle.std.proofs.Common.{ap, ◌∙◌}
use Rattle.formula.specs.Expressions.{formula_of}
use Rattle.evaluate.specs.Evaluation.{applied}
use Rattle.evaluate.proofs.Reading.{passed_on, reads_same, reads_ends}
use Rattle.evaluate.proofs.Operands.{operation, choice, comes_number, left_stops, right_stops, goes_on, takes_less, takes_other}
use Rattle.evaluate.proofs.reader.Reader.+work.Goals as goal
use Rattle.evaluate.proofs.reader.Reader.+work.Goals.{then-a-b, else-a-b}

pub returns-in_err-a-in-Binary : goal.returns-in_err-a-in-Binary
returns-in_err-a-in-Binary g t c z d =
    let k = operation c.in-Binary.operator z _ _ c.in-Binary.ensures.is d in
    let x = c.in_err-a-in-Binary.field-0.0 in
    left_stops g.C.Cells.sheet g.T.Trail.log k _ x (passed_on _ x c.from_residual.ensures.1) c.in_err-a-in-Binary.ensures

pub returns-in_err-b-in-Binary : goal.returns-in_err-b-in-Binary
returns-in_err-b-in-Binary g t c z d =
    let k = operation c.in-Binary.operator z _ _ c.in-Binary.ensures.is d in
    let x = c.in_err-b-in-Binary.field-0.0 in
    right_stops g.C.Cells.sheet g.T.Trail.log k c.in_ok-a-in-Binary.a c.in_ok-a-in-Binary.ensures _ x (passed_on _ x c.from_residual-in_err-b-in-Binary.ensures.1)
    c.in_err-b-in-Binary.ensures

pub returns-in_err-a-in-IfLess : goal.returns-in_err-a-in-IfLess
returns-in_err-a-in-IfLess g t c z d =
    let k = choice z _ _ _ _ c.in-IfLess.ensures.is d in
    let x = c.in_err-a-in-IfLess.field-0.0 in
    left_stops g.C.Cells.sheet g.T.Trail.log k.begins _ x (passed_on _ x c.from_residual-in_err-a-in-IfLess.ensures.1) c.in_err-a-in-IfLess.ensures

pub returns-in_err-b-in-IfLess : goal.returns-in_err-b-in-IfLess
returns-in_err-b-in-IfLess g t c z d =
    let k = choice z _ _ _ _ c.in-IfLess.ensures.is d in
    let x = c.in_err-b-in-IfLess.field-0.0 in
    right_stops g.C.Cells.sheet g.T.Trail.log k.begins c.in_ok-a-in-IfLess.a c.in_ok-a-in-IfLess.ensures _ x (passed_on _ x c.from_residual-in_err-b-in-IfLess.ensures.1)
    c.in_err-b-in-IfLess.ensures

pub returns-in-Number : goal.returns-in-Number
returns-in-Number g t c = comes_number g.C.Cells.sheet g.T.Trail.log _ _ _ c.in-Number.ensures.is

pub returns-in_ok-b-in-Binary : goal.returns-in_ok-b-in-Binary
returns-in_ok-b-in-Binary g t c z d =
    let op = c.in-Binary.operator in
    let a = c.in_ok-a-in-Binary.a in
    let b = c.in_ok-b-in-Binary.b in
    let k = operation op z _ _ c.in-Binary.ensures.is d in
    goes_on g.C.Cells.sheet g.T.Trail.log k a c.in_ok-a-in-Binary.ensures b _ _ c.in_ok-b-in-Binary.ensures (reads_same _ c.apply.ensures (reads_ends _ (applied op a b)))

pub returns-after-a-b : goal.returns-after-a-b
returns-after-a-b g t c z d =
    let a = c.in_ok-a-in-IfLess.a in
    let b = c.in_ok-b-in-IfLess.b in
    let k = choice z _ _ _ _ c.in-IfLess.ensures.is d in
    goes_on g.C.Cells.sheet g.T.Trail.log k.begins a c.in_ok-a-in-IfLess.ensures b _ _ c.in_ok-b-in-IfLess.ensures
    (elim c.if-a-b.branch [
      | then-a-b w ↦ takes_less g.C.Cells.sheet g.T.Trail.log a b k.less k.other _ c.work-in-IfLess-3.ensures w.if-a-b.true (ap formula_of w.work-is ∙ k.is_less)
      | else-a-b w ↦ takes_other g.C.Cells.sheet g.T.Trail.log a b k.less k.other _ c.work-in-IfLess-3.ensures w.if-a-b.false (ap formula_of w.work-is ∙ k.is_other)
    ])
