use Rattle.std.proofs.Common.{◌≡◌, ◌+◌, ◌-◌, ◌*◌, ◌++◌, take, ap, ◌∙◌, arith}
use borrow.Rule.Slice.PartMut.{put_mid}
use Rattle.std.proofs.lemmas.List.{drop-drop}
use Rattle.evaluate.specs.Values.{value_numbers}
use Rattle.evaluate.proofs.value.Value.write.Goals as goal

pub returns : goal.returns
returns c =
    let xs = c.args.values.now in
    let at = 2 * c.args.k in
    let n : at + 2 - at ≡ 2 = omega arith in
    ap (put_mid at (at + 2 - at) xs) (c.copy_from_slice.ensures.after ∙ c.from-numbers.ensures.is)
    ∙ ap (λ m. put_mid at m xs (value_numbers c.args.self)) n
    ∙ ap (λ ys. take at xs ++ (value_numbers c.args.self ++ ys)) (drop-drop 2 at xs)
