-- Writes carried over a shift and done, in lent memory. Assumes nothing: these are definitions.
use Rattle.std.specs.Prelude.{◌≡◌, ◌*◌, cond, List, [], ◌∷◌, ◌++◌, drop, is_ok, Some, None, Ok, Err, Option, Result}
use Rattle.std.specs.Option.{option_map}
use Rattle.formula.specs.declared.token.CellRef.{CellRef}
use Rattle.formula.specs.Tokens.{the_ref}
use Rattle.formula.specs.Formula.{Formula}
use Rattle.formula.specs.Results.{answered, and_then}
use Rattle.recalc.specs.declared.refusal.Refusal.{Refusal}
use Rattle.std.specs.declared.alloc.AllocError.{AllocError}
use Rattle.recalc.specs.Sheets.{Sheet, sheet_in, Same}
use Rattle.recalc.specs.Numbered.{count}
use Rattle.recalc.specs.Showing.{sheet_values}
use Rattle.shift.specs.declared.shift.Shift.{Shift}
use Rattle.shift.specs.Shifts.{place_lost, row_to, col_to}
use Rattle.shift.specs.Sheets.{shift_cell}
use Rattle.edit.specs.declared.write.Write as code
use Rattle.edit.specs.Writes.{Write, written, asked, put_inside}
use Rattle.edit.specs.Changes.{told, worked}
use Rattle.edit.specs.Memory.{State, written_memory}
use Rattle.rebase.specs.declared.rebased.Rebased.{Rebased}
use Rattle.rebase.specs.declared.rebased.Rebased.TheVariants.{Written, Dropped}

-- a write to this place of the sheet t, of what a shift makes of what was asked for; or the first refusal that applies
abbrev pub moved_write : Shift → Sheet → CellRef → Option (Option Formula) → Result Write Refusal
moved_write d t p x = put_inside t p.row p.col (option_map (shift_cell d) x)

-- a write that is not dropped
abbrev pub undropped : Result Write Refusal → Result (Option Write) Refusal
undropped r = and_then r (λ v. Ok (Some v))

-- the write that the code asks for, carried over a shift to the sheet t after it: None if its line was deleted
abbrev pub rebased : Shift → code.Write → Sheet → Result (Option Write) Refusal
rebased d w t =
    cond (place_lost d w.place.row w.place.col) (Ok None)
    (undropped (moved_write d t (the_ref (row_to d w.place.row) (col_to d w.place.col)) (asked w.formula)))

abbrev pub became : Option Write → Rebased
became None = Dropped
became (Some v) = Written

-- what is answered
abbrev pub answer_of : Result (Option Write) Refusal → Result Rebased Refusal
answer_of (Ok o) = Ok (became o)
answer_of (Err e) = Err e

-- what there is after a write that was asked for
abbrev pub state_after : Write → State → State
state_after v a =
    record {
      nums = written_memory v a.nums;
      values = sheet_values (sheet_in (written_memory v a.nums)) ++ drop (2 * count (sheet_in a.nums)) a.values;
      changed = told (sheet_in a.nums) (written v (sheet_in a.nums));
      recalculated = worked v (sheet_in a.nums);
    }

-- dropped or refused, it leaves what there was
abbrev pub state_then : Result (Option Write) Refusal → State → State
state_then (Ok None) a = a
state_then (Ok (Some v)) a = state_after v a
state_then (Err e) a = a

abbrev pub sheet_then : Result (Option Write) Refusal → Sheet → Sheet
sheet_then (Ok None) s = s
sheet_then (Ok (Some v)) s = written v s
sheet_then (Err e) s = s

-- what a write promises where r is what is asked for
pub record Does (r : Result Write Refusal) (a : State) (result : Result (Unit {0}) Refusal) (b : State) : Type 0 where
  pub answer : result ≡ answered r
  pub state : b ≡ state_then (undropped r) a
  pub sheet : Same (sheet_in b.nums) (sheet_then (undropped r) (sheet_in a.nums))

-- what one carried write promises
pub record Rebases (d : Shift) (w : code.Write) (a : State) (r : Result Rebased Refusal) (b : State) : Type 0 where
  pub answer : r ≡ answer_of (rebased d w (sheet_in a.nums))
  pub state : b ≡ state_then (rebased d w (sheet_in a.nums)) a
  pub sheet : Same (sheet_in b.nums) (sheet_then (rebased d w (sheet_in a.nums)) (sheet_in a.nums))

-- a row of them, each on what the one before has left
unfoldable pub state_rebased : Shift → List code.Write → State → State
state_rebased d [] a = a
state_rebased d (w ∷ ws) a = state_rebased d ws (state_then (rebased d w (sheet_in a.nums)) a)

unfoldable pub answers_rebased : Shift → List code.Write → State → List (Result Rebased Refusal)
answers_rebased d [] a = []
answers_rebased d (w ∷ ws) a = answer_of (rebased d w (sheet_in a.nums)) ∷ answers_rebased d ws (state_then (rebased d w (sheet_in a.nums)) a)

-- what a row of carried writes promises of the state and of the answers, which are added to those that were there; or there was no memory for these, and nothing has changed
pub record RebasesAll (d : Shift) (ws : List code.Write) (a : State) (before : List (Result Rebased Refusal)) (result : Result (Unit {0}) AllocError) (b : State) (after : List (Result Rebased Refusal))
    : Type 0 where
  pub state : b ≡ cond (is_ok result) (state_rebased d ws a) a
  pub answers : after ≡ cond (is_ok result) (before ++ answers_rebased d ws a) before
