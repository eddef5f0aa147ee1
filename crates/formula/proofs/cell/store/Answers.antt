use Rattle.std.proofs.Common.{◌≡◌, ℕ, true, List, ◌++◌, drop, is_some, Some, None, Option, ap, arith}
use Rattle.std.specs.Option.{option_map}
use Rattle.formula.specs.Layout.{cell_len}
use Rattle.formula.specs.Formula.{Formula}
use Rattle.formula.specs.Reading.{spelled}
use Rattle.formula.specs.Cells.{stored}
use Rattle.formula.proofs.Contents.{filled}
use Rattle.formula.proofs.cell.store.Goals as goal

-- what holds at each formula that the tokens may spell holds, since they spell one
at_spelled : (ys rest : List ℕ) (o : Option Formula) → is_some o ≡ true → ((f : Formula) → o ≡ Some f → ys ≡ stored f ++ rest)
    → Some ys ≡ option_map (λ f. stored f ++ rest) o
at_spelled ys rest None h k = absurd (grind arith)
at_spelled ys rest (Some f) h k = ap Some (k f (λ i. Some f))

pub returns : goal.returns
returns c =
    let xs = c.args.numbers.now in
    let ts = c.args.tokens.now in
    at_spelled _ (drop cell_len xs) (spelled ts) c.requires.formula
    (λ f e. filled xs ts c.copy_from_slice.new.self c.rewrite.new.tokens c.fill.new.self f c.requires.room e
    c.copy_from_slice.ensures.after c.rewrite.ensures.row (c.fill.ensures.after (λ y same. same)))
