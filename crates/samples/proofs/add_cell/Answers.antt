use Rattle.std.proofs.Common.{◌≡◌, ℕ, ◌-◌, min, length, take, drop, replicate, refl, ap, ◌∙◌, arith, append_assoc}
use Rattle.std.proofs.lemmas.List.{drop-replicate, take-replicate, take_min}
use Rattle.formula.specs.Layout.{formula_len}
use Rattle.samples.proofs.add_cell.Goals as goal

-- what is left of a blank cell behind the tokens
left_blank : (n : ℕ) → take {A = ℕ} (formula_len - min formula_len n) (drop (min formula_len n) (replicate formula_len 0)) ≡ replicate (formula_len - n) 0
left_blank n =
    let e : formula_len - min formula_len n ≡ formula_len - n = omega arith in
    ap (take (formula_len - min formula_len n)) (drop-replicate (min formula_len n) formula_len 0)
    ∙ take-replicate _ (formula_len - min formula_len n) 0 (omega arith)
    ∙ ap (λ k. replicate k 0) e

pub returns : goal.returns
returns c =
    let ts = c.args.tokens.now in
    rw (c.in_ok-extend_from_slice-2.ensures.items, c.in_ok-extend_from_slice.ensures.items, c.in_ok-push.ensures.items, c.min-used.ensures, take_min formula_len ts, left_blank (length ts))
    (simp append_assoc refl)
