use Rattle.std.proofs.Common.{◌≡◌, ℕ, true, List, is_some, IfSome, Some, None, Option, sym, refl, ap, ◌∙◌, Bor}
use Rattle.std.specs.Option.{option_map}
use Rattle.formula.specs.declared.token.Token.{Token}
use Rattle.formula.specs.Reading.{begun, reads, formula_at, operand_of, Operand}
use Rattle.formula.proofs.Operands.{operand, operand_there}
use Rattle.formula.proofs.reading.read_operand.Goals as goal

-- what the code found is the operand, and it finds it where there is one
there : (n : ℕ) (xs : List ℕ) (r : Option (Token × Bor (List ℕ))) → option_map {U = Token × List ℕ} (λ p. (p.0, p.1.now)) r ≡ operand_of n xs
    → is_some (formula_at n (reads xs)) ≡ true → is_some r ≡ true
there n xs None e h = ap is_some e ∙ operand_there n xs h
there n xs (Some p) e h = refl

is_operand : (n : ℕ) (xs : List ℕ) (r : Option (Token × Bor (List ℕ))) → option_map {U = Token × List ℕ} (λ p. (p.0, p.1.now)) r ≡ operand_of n xs
    → IfSome r (λ p. Operand n xs p.0 p.1.now)
is_operand n xs None e = tt
is_operand n xs (Some p) e = operand n xs p.0 p.1.now (sym e)

pub returns-in_err-skip : goal.returns-in_err-skip
returns-in_err-skip c =
    let e = ap (option_map {U = Token × List ℕ} (λ p. (p.0, p.1.now))) c.from_residual.ensures ∙ ap begun c.in_err-skip.ensures in
    record { is = e; there = there c.args.nth c.args.tokens.now _ e; operand = is_operand c.args.nth c.args.tokens.now _ e }

pub returns : goal.returns
returns c =
    let e = c.read_token.ensures ∙ ap begun c.in_ok-skip.ensures in
    record { is = e; there = there c.args.nth c.args.tokens.now _ e; operand = is_operand c.args.nth c.args.tokens.now _ e }
