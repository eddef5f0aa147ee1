use Rattle.std.proofs.Common.{◌+◌, length, drop, ap, sym, subst, ◌∙◌, ◌++◌, arith}
use Rattle.std.proofs.lemmas.List.{append-nil, length_push}
use Rattle.recalc.specs.Sheets.{sheet_in, Same}
use Rattle.edit.specs.States.{state}
use Rattle.rebase.specs.Rebased.{answers_rebased}
use Rattle.recalc.proofs.Shown.{same_trans}
use Rattle.rebase.proofs.InRow.{sheet_rebased, state_more, answers_more, sheet_more, state_done, answers_done, sheet_done}
use Rattle.rebase.proofs.Both.{brought_together}
use Rattle.rebase.proofs.all.rebase_all.Goals as goal

pub loop-write-preserved : goal.loop-write-preserved
loop-write-preserved c =
    let d = c.args.shift in
    let ws = c.args.writes.now in
    let i = c.loop-write.write-index in
    let l = c.loop-write-test.true in
    let a = state c.loop-write.sheet.nums.now c.loop-write.sheet.values.now c.loop-write.changes in
    let b = state c.rebase_write-answer.new.sheet.nums.now c.rebase_write-answer.new.sheet.values.now c.rebase_write-answer.new.changes in
    let r = c.rebase_write-answer.result in
    let h = c.rebase_write-answer.ensures.rebases in
    let inv = c.loop-write.invariant in
    let e = c.push_reserved.ensures in (
      c.rebase_write-answer.ensures.same.0 ∙ inv.0,
      c.rebase_write-answer.ensures.same.1 ∙ inv.1,
      state_more d ws i _ l a b r h ∙ inv.2,
      ap (λ xs. xs ++ answers_rebased d (drop (i + 1) ws) b) e.items ∙ answers_more d ws i _ l a b r h c.loop-write.answers.items ∙ inv.3,
      same_trans (sheet_more d ws i _ l a b r h) inv.4,
      omega (arith, inv.5, e.capacity, ap length e.items, length_push c.loop-write.answers.items r),
    )

pub returns-clause-all : goal.returns-clause-all
returns-clause-all c =
    let d = c.args.shift in
    let ws = c.args.writes.now in
    let i = c.loop-write.write-index in
    let l = c.loop-write-test.false in
    let b = state c.loop-write.sheet.nums.now c.loop-write.sheet.values.now c.loop-write.changes in
    let inv = c.loop-write.invariant in
    record {
      state = sym (state_done d ws i l b) ∙ inv.2;
      answers = sym (answers_done d ws i l c.loop-write.answers.items b ∙ append-nil c.loop-write.answers.items) ∙ inv.3 ∙ ap (λ xs. xs ++ answers_rebased d ws (state c.args.sheet.now.nums.now c.args.sheet.now.values.now c.args.changes.now)) c.reserve.ensures.items;
    }

pub returns-clause-together : goal.returns-clause-together
returns-clause-together c u =
    let d = c.args.shift in
    let ws = c.args.writes.now in
    let xs = c.args.sheet.now.nums.now in
    let ys = c.loop-write.sheet.nums.now in
    brought_together d ws xs ys (subst (λ s. Same s (sheet_rebased d ws (sheet_in xs))) (sheet_done d ws c.loop-write.write-index c.loop-write-test.false (sheet_in ys)) c.loop-write.invariant.4)
