use Rattle.std.proofs.Common.{◌≡◌, ◌+◌, ◌≤◌, ◌++◌, length, drop, vec_capacity}
use Rattle.recalc.specs.Sheets.{sheet_in, Same}
use Rattle.edit.specs.States.{state}
use Rattle.rebase.specs.Rebased.{state_rebased, answers_rebased}
use Rattle.rebase.proofs.InRow.{sheet_rebased}
use Rattle.rebase.proofs.all.rebase_all.Given as goal

-- what is left to be done comes to what the whole row does
abbrev pub invariant-loop-write : goal.invariant-loop-write
invariant-loop-write l =
    let was = state l.initial.sheet.nums.now l.initial.sheet.values.now l.initial.changes in
    let is = state l.sheet.nums.now l.sheet.values.now l.changes in
    let left = drop l.write-index l.writes in
    (l.sheet.nums.ghost_name ≡ l.initial.sheet.nums.ghost_name)
    × (l.sheet.values.ghost_name ≡ l.initial.sheet.values.ghost_name)
    × (state_rebased l.shift left is ≡ state_rebased l.shift l.writes was)
    × (l.answers.items ++ answers_rebased l.shift left is ≡ l.initial.answers.items ++ answers_rebased l.shift l.writes was)
    × Same (sheet_rebased l.shift left (sheet_in is.nums)) (sheet_rebased l.shift l.writes (sheet_in was.nums))
    × (length l.answers.items + length l.writes ≤ vec_capacity l.answers + l.write-index)
