use Rattle.std.proofs.Common.{◌≡◌, suc, ◌-◌, sym, ap, ◌∙◌, arith}
use Rattle.formula.specs.Reading.{rest_at}
use Rattle.formula.proofs.Steps.{after_step, reads_none}
use Rattle.formula.proofs.Operands.{after_short}
use Rattle.formula.proofs.reading.+skip.Goals as goal

pub returns-then-formulas-tokens : goal.returns-then-formulas-tokens
returns-then-formulas-tokens t c = sym (after_short c.args.formulas c.args.tokens.now (omega arith))

pub returns-in_err-token : goal.returns-in_err-token
returns-in_err-token t c =
    let n = c.args.formulas - 1 in
    let e : c.args.formulas ≡ suc n = omega arith in
    rw (c.from_residual.ensures, e) (sym (ap (rest_at n) (reads_none c.args.tokens.now (sym c.in_err-token.ensures))))

pub returns : goal.returns
returns t c =
    let n = c.args.formulas - 1 in
    let e : c.args.formulas ≡ suc n = omega arith in
    let k = after_step n c.args.tokens.now c.in_ok-token.rest.now c.in_ok-token.token (sym c.in_ok-token.ensures) in
    rw e (c.skip.ensures ∙ rw c.needs.ensures (sym k))
