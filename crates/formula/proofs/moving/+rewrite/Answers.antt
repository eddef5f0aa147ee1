use Rattle.std.proofs.Common.{◌≡◌, ℕ, List, ◌++◌, length, drop, Option, sym, ap, ◌∙◌}
use Rattle.std.specs.Option.{option_map}
use Rattle.formula.specs.declared.token.CellRef.{CellRef}
use Rattle.formula.specs.declared.token.Range.{Range}
use Rattle.formula.specs.Layout.{token_len}
use Rattle.formula.specs.Tokens.{numbers}
use Rattle.formula.specs.Reading.{spelled}
use Rattle.formula.specs.Moving.{moved_token, moved_formula, moved_row}
use Rattle.formula.proofs.Steps.{begins}
use Rattle.formula.proofs.Rewritten.{row_none, row_some, spelled_moved, put_front, rest_front, length_numbers}
use Rattle.formula.proofs.moving.+rewrite.Goals as goal

-- with the row, what it spells is rewritten
both : (m : CellRef → Option CellRef) (n : Range → Option Range) (xs ys : List ℕ) → ys ≡ moved_row m n xs → spelled ys ≡ option_map (moved_formula m n) (spelled xs)
both m n xs ys e = ap spelled e ∙ spelled_moved m n xs

pub returns-in_default : goal.returns-in_default
returns-in_default g t c =
    let m = g.M.Moves.moved c.args.moves.now in
    let n = g.M.Moves.resized c.args.moves.now in
    let xs = c.args.tokens.now in
    let is = sym (row_none m n xs (sym c.in_default.ensures)) in
    record { row = is; formula = both m n xs xs is }

pub returns : goal.returns
returns g t c =
    let m = g.M.Moves.moved c.args.moves.now in
    let n = g.M.Moves.resized c.args.moves.now in
    let xs = c.args.tokens.now in
    let front = c.copy_from_slice.new.self in
    let d = sym c.in-Some.ensures in
    let is : front ≡ numbers (moved_token m n c.in-Some.token) = c.copy_from_slice.ensures.after ∙ c.from-numbers.ensures.0 ∙ ap numbers c.move_token.ensures in
    let five : length front ≡ token_len = ap length is ∙ length_numbers (moved_token m n c.in-Some.token) in
    let rest : c.rewrite.new.tokens ≡ moved_row m n (drop token_len xs) = c.rewrite.ensures.row ∙ ap (moved_row m n) (rest_front xs front five) in
    let all =
    put_front xs front c.rewrite.new.tokens five
    ∙ ap (λ a. a ++ c.rewrite.new.tokens) is
    ∙ ap (λ r. numbers (moved_token m n c.in-Some.token) ++ r) (rest ∙ ap (moved_row m n) (begins xs _ _ d).rest)
    ∙ sym (row_some m n xs c.in-Some.field-0-1.now c.in-Some.token d) in
    record { row = all; formula = both m n xs _ all }
