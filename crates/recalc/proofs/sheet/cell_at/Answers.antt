use Rattle.std.proofs.Common.{◌≡◌, ℕ, ◌+◌, ◌-◌, ◌<◌, List, length, take, drop, ap, ◌∙◌, arith, length-drop, length-take}
use Rattle.std.proofs.lemmas.Bool.{lt-ltb}
use Rattle.formula.specs.Layout.{cell_len}
use Rattle.formula.specs.Cells.{malformed, content}
use Rattle.recalc.specs.Layout.{sheet_len, cell_numbers}
use Rattle.recalc.proofs.sheet.cell_at.Goals as goal

short : (xs : List ℕ) → length xs < cell_len → malformed ≡ content xs
short xs h = rw (lt-ltb (length xs) cell_len h)

pub returns-then-index-cells : goal.returns-then-index-cells
returns-then-index-cells c = short (cell_numbers c.args.index c.args.nums.now) (simp (length-take, length-drop) (omega arith))

pub returns : goal.returns
returns c =
    let from = sheet_len c.args.index in
    c.read.ensures ∙ ap (λ n. content (take n (drop from c.args.nums.now))) (part from)
  where
    part : (n : ℕ) → n + cell_len - n ≡ cell_len
    part n = omega arith
