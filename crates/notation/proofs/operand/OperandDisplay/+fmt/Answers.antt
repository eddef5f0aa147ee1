-- What the operands write stands one after another.
use Rattle.formula.specs.Expressions.{formula_of}
use Rattle.notation.proofs.Pieces.{operation, conditional}
use Rattle.notation.proofs.operand.OperandDisplay.+fmt.Goals as goal

pub returns-in_ok-fmt-in-Binary-2-clause-writes : goal.returns-in_ok-fmt-in-Binary-2-clause-writes
returns-in_ok-fmt-in-Binary-2-clause-writes g t c =
    rw (c.node.ensures.is, c.in-Binary.is)
    (operation g.W.Write.write_str_gives c.args.self.now.inside c.in-Binary.operator (formula_of c.in-Binary.left) (formula_of c.in-Binary.right) _ _ _ _ _ _ _ _ _ _
    c.parentheses.ensures.open c.sign.ensures c.parentheses.ensures.close
    c.in_ok-write_str-in-Binary.ensures.writes (rw (c.inside.ensures.0, c.inside.ensures.1) at c.in_ok-fmt-in-Binary.ensures.writes)
    c.in_ok-write_str-in-Binary-2.ensures.writes (rw (c.inside-in-Binary.ensures.0, c.inside-in-Binary.ensures.1) at c.in_ok-fmt-in-Binary-2.ensures.writes)
    c.write_str-in-Binary-2.ensures.writes)

pub returns-in_ok-fmt-in-IfLess-4-clause-writes : goal.returns-in_ok-fmt-in-IfLess-4-clause-writes
returns-in_ok-fmt-in-IfLess-4-clause-writes g t c =
    rw (c.node.ensures.is, c.in-IfLess.is)
    (conditional g.W.Write.write_str_gives c.args.self.now.inside (formula_of c.in-IfLess.left) (formula_of c.in-IfLess.right) (formula_of c.in-IfLess.less) (formula_of c.in-IfLess.other)
    _ _ _ _ _ _ _ _ _ _ _ _ _
    c.parentheses.ensures.open c.parentheses.ensures.close
    c.in_ok-write-in-IfLess.ensures.writes (rw (c.inside-in-IfLess.ensures.0, c.inside-in-IfLess.ensures.1) at c.in_ok-fmt-in-IfLess.ensures.writes)
    c.in_ok-write_str-in-IfLess.ensures.writes (rw (c.inside-in-IfLess-2.ensures.0, c.inside-in-IfLess-2.ensures.1) at c.in_ok-fmt-in-IfLess-2.ensures.writes)
    c.in_ok-write_str-in-IfLess-2.ensures.writes (rw (c.inside-in-IfLess-3.ensures.0, c.inside-in-IfLess-3.ensures.1) at c.in_ok-fmt-in-IfLess-3.ensures.writes)
    c.in_ok-write_str-in-IfLess-3.ensures.writes (rw (c.inside-in-IfLess-4.ensures.0, c.inside-in-IfLess-4.ensures.1) at c.in_ok-fmt-in-IfLess-4.ensures.writes)
    c.write_str-in-IfLess-4.ensures.writes)
