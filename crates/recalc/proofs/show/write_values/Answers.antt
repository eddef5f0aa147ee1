use Rattle.std.proofs.Common.{◌≡◌, ℕ, suc, ◌+◌, ◌*◌, List, ◌++◌, length, drop, sym, ap, ◌∙◌, subst, arith}
use Rattle.evaluate.specs.Values.{value_numbers}
use Rattle.evaluate.specs.Rows.{with_value}
use Rattle.recalc.specs.Showing.{table_shows}
use Rattle.recalc.proofs.Entries.{FilledTo, filled_none, filled_more}
use Rattle.recalc.proofs.Rows.{two_numbers, filled_values, table_values}
use Rattle.recalc.proofs.show.write_values.Goals as goal

pub loop-k-init : goal.loop-k-init
loop-k-init c = filled_none (λ k. value_numbers (table_shows c.args.table.now k)) 2 c.args.out.now

pub loop-k-preserved : goal.loop-k-preserved
loop-k-preserved c =
    let t = c.args.table.now in
    let k = c.loop-k.k in
    let xs = c.loop-k.out in
    let f : ℕ → List ℕ = λ i. value_numbers (table_shows t i) in
    let e : suc k ≡ k + 1 = omega arith in
    subst (λ i. FilledTo f 2 c.args.out.now i c.write.new.values) e
    (filled_more f 2 (length t) (λ i l. two_numbers (table_shows t i)) c.args.out.now k xs c.write.new.values c.loop-k-test.true c.loop-k.invariant
    (c.write.ensures ∙ ap (with_value xs k) c.known_value.ensures))

pub returns : goal.returns
returns c =
    let t = c.args.table.now in
    let e : c.loop-k.k ≡ length t = omega arith in
    filled_values (table_shows t) c.args.out.now c.loop-k.out c.loop-k.k (length t) e c.loop-k.invariant
    ∙ ap (λ ys. ys ++ drop (2 * length t) c.args.out.now) (sym (table_values t))
