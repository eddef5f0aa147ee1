use Rattle.std.proofs.Common.{◌≡◌, ℕ, Err, sym, subst}
use Rattle.evaluate.specs.declared.value.Value.{Value}
use Rattle.recalc.specs.Layout.{size_in}
use Rattle.recalc.specs.Table.{Right, Answers, NeedsWithin}
use Rattle.recalc.specs.Sheets.{sheet_in}
use Rattle.recalc.specs.Numbered.{count, worked, LooksAt}
use Rattle.recalc.proofs.Numbered.{wanted_there, lent_answers}
use Rattle.recalc.proofs.lent.LentSheetFormulas.attempt.Goals as goal

pub number-requires : goal.number-requires
number-requires c =
    let s = c.args.self.now in
    let same : s.size ≡ size_in s.nums.now = λ i. record { rows = s.rows i; cols = s.cols i } in
    wanted_there s.nums.now s.size c.args.table.now c.args.k c.in-Err.place same (sym c.in-Err.ensures)

pub returns-in-Ok : goal.returns-in-Ok
returns-in-Ok c =
    let s = c.args.self.now in
    let same : s.size ≡ size_in s.nums.now = λ i. record { rows = s.rows i; cols = s.cols i } in
    let h = lent_answers s.nums.now s.size c.args.table.now c.args.k same _ c.in-Ok.ensures in
    record { within = h.0; answers = h.1 }

pub returns-in-Err : goal.returns-in-Err
returns-in-Err c =
    let s = c.args.self.now in
    let t = c.args.table.now in
    let l = sheet_in s.nums.now in
    let same : s.size ≡ size_in s.nums.now = λ i. record { rows = s.rows i; cols = s.cols i } in
    let h = subst (λ n. NeedsWithin (count l) (Err n) × ((f : ℕ → Value) → Right f t → Answers (worked l f c.args.k) (LooksAt l f c.args.k) t (Err n)))
    (sym c.number.ensures) (lent_answers s.nums.now s.size t c.args.k same _ c.in-Err.ensures) in
    record { within = h.0; answers = h.1 }
