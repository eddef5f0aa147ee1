use Rattle.std.proofs.Common.{inl, inr, arith}
use Rattle.evaluate.proofs.Trails.{noted_inside, noted_outside}
use Rattle.evaluate.proofs.reader.Reader.note.Goals as goal
use Rattle.evaluate.proofs.reader.Reader.note.Goals.{else-place-rows-via-then-place-rows+else-place-cols, else-place-rows-via-else-place-rows}

pub returns-then-place-cols-clause-noted : goal.returns-then-place-cols-clause-noted
returns-then-place-cols-clause-noted g c =
    let high = c.rows.ensures.is in
    let wide = c.cols.ensures.is in
    noted_inside _ _ c.args.place _ _ (omega arith) (omega arith) c.note.ensures

pub returns-else-place-rows-clause-noted : goal.returns-else-place-rows-clause-noted
returns-else-place-rows-clause-noted g c =
    let high = c.rows.ensures.is in
    elim c.else-place-rows.branch [
      | else-place-rows-via-then-place-rows+else-place-cols w ↦ let wide = w.cols.ensures.is in noted_outside _ _ c.args.place _ (inr (omega arith))
      | else-place-rows-via-else-place-rows w ↦ noted_outside _ _ c.args.place _ (inl (omega arith))
    ]
