-- A sheet after a shift, when a shift is refused, and a sheet of which a line is blank and no longer named. Assumes nothing: these are definitions.
use Rattle.std.specs.Prelude.{◌≡◌, ℕ, cond, ◌&&◌, None, Ok, Err, Option, Result, ◌==◌, nat_lt}
use Rattle.std.specs.Option.{option_map}
use Rattle.formula.specs.declared.token.CellRef.{CellRef}
use Rattle.formula.specs.declared.token.Range.{Range}
use Rattle.formula.specs.Formula.{Formula}
use Rattle.formula.specs.Moving.{moved_formula}
use Rattle.recalc.specs.declared.size.Size.{Size}
use Rattle.recalc.specs.declared.refusal.Refusal.{Refusal}
use Rattle.recalc.specs.declared.refusal.Refusal.TheVariants.{NoLine, Full, OnlyLine}
use Rattle.recalc.specs.Sheets.{Sheet}
use Rattle.shift.specs.declared.shift.Axis.{Axis}
use Rattle.shift.specs.declared.shift.Change.{Change}
use Rattle.shift.specs.declared.shift.Change.TheVariants.{Insert, Delete}
use Rattle.shift.specs.declared.shift.Shift.{Shift}
use Rattle.shift.specs.Shifts.{by_axis, unless, ref_after, range_after, rows_after, cols_after, place_from}

abbrev pub shift_formula : Shift → Formula → Formula
shift_formula d x = moved_formula (ref_after d) (range_after d) x

-- a cell that is None is blank
abbrev pub shift_cell : Shift → Option Formula → Option Formula
shift_cell d x = option_map (shift_formula d) x

-- each cell goes along with its line, each formula with what it names; a new line is blank
unfoldable pub shifted : Shift → Sheet → Sheet
shifted d s = record { rows = rows_after d s.rows; cols = cols_after d s.cols; cells = place_from None d (λ r c. shift_cell d (s.cells r c)) }

-- the first refusal that applies to a change at line p of n lines, where there may be m
abbrev pub line_allowed : Change → ℕ → ℕ → ℕ → Result (Unit {0}) Refusal
line_allowed Insert p n m = cond (nat_lt n p) (Err NoLine) (cond (nat_lt n m) (Ok tt) (Err Full))
line_allowed Delete p n m = cond (nat_lt p n) (cond (nat_lt 1 n) (Ok tt) (Err OnlyLine)) (Err NoLine)

-- and to a shift of a sheet
abbrev pub shift_allowed : Shift → Size → Size → Result (Unit {0}) Refusal
shift_allowed d size most = line_allowed d.change d.line (by_axis d.axis size.rows size.cols) (by_axis d.axis most.rows most.cols)

abbrev pub Allowed : Shift → Sheet → Size → Type 0
Allowed d s most = shift_allowed d (record { rows = s.rows; cols = s.cols }) most ≡ Ok tt

-- a reference to a cell of the line is lost
abbrev pub cut_ref : Axis → ℕ → CellRef → Option CellRef
cut_ref a p x = unless (by_axis a x.row x.col == p) x

-- and so is a range of that line alone
abbrev pub cut_range : Axis → ℕ → Range → Option Range
cut_range a p b = unless (by_axis a b.row b.col == p && by_axis a b.rows b.cols == 1) b

-- the line blank, and what named a cell of it, or a range of it alone, lost
unfoldable pub without : Axis → ℕ → Sheet → Sheet
without a p s = record {
  rows = s.rows;
  cols = s.cols;
  cells = λ r c. cond (by_axis a r c == p) None (option_map (moved_formula (cut_ref a p) (cut_range a p)) (s.cells r c));
}
