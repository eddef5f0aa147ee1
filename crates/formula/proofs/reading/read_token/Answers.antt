use Rattle.std.proofs.Common.{drop, sym, ap, ◌∙◌, arith, ltb-false}
use Rattle.std.specs.Option.{option_map}
use Rattle.std.specs.Result.{result_ok}
use Rattle.std.proofs.lemmas.List.{take_rest}
use Rattle.formula.specs.Layout.{token_len}
use Rattle.formula.proofs.Steps.{decoded_long, ok_again}
use Rattle.formula.proofs.reading.read_token.Goals as goal

pub returns : goal.returns
returns c =
    let xs = c.args.tokens.now in
    let is = c.in_ok-token.ensures.value ∙ ap result_ok c.try_from.ensures ∙ ok_again _ _ in
    rw take_rest (sym (decoded_long xs (omega (arith, ltb-false)) ∙ ap (option_map (λ t. (t, drop token_len xs))) (sym is)))
