-- What is promised of a shift. Assumes nothing: each is a definition or a statement.
use Rattle.std.specs.Prelude.{◌≡◌, ℕ, ◌+◌, ◌-◌, ◌^◌, ◌<◌, ◌≤◌, Some, None, ◌≢◌}
use Rattle.formula.specs.declared.token.Range.{Range}
use Rattle.evaluate.specs.declared.value.Value.TheVariants.{Empty}
use Rattle.recalc.specs.declared.size.Size.{Size}
use Rattle.recalc.specs.Sheets.{Sheet, shown}
use Rattle.shift.specs.declared.shift.Axis.{Axis}
use Rattle.shift.specs.declared.shift.Axis.TheVariants.{Row, Column}
use Rattle.shift.specs.declared.shift.Change.TheVariants.{Insert, Delete}
use Rattle.shift.specs.declared.shift.Shift.{Shift}
use Rattle.shift.specs.declared.shift.Span.{Span}
use Rattle.shift.specs.Lines.{line_to}
use Rattle.shift.specs.Shifts.{by_axis, range_after, row_to, col_to}
use Rattle.shift.specs.Sheets.{shifted, Allowed, without}

-- an insertion changes nothing that is shown, and the new line is empty
abbrev pub InsertionKeeps : Type 0
InsertionKeeps =
    (most : Size) → most.rows < 2 ^ 64 → most.cols < 2 ^ 64 → (s : Sheet) (d : Shift) → d.change ≡ Insert → Allowed d s most →
    ((r c : ℕ) → shown (shifted d s) (row_to d r) (col_to d c) ≡ shown s r c)
    × ((r c : ℕ) → by_axis d.axis r c ≡ d.line → shown (shifted d s) r c ≡ Empty)

-- after a deletion each other cell shows what it would if the line were blank and what named a cell of it, or a range of it alone, were lost
abbrev pub DeletionBlanks : Type 0
DeletionBlanks =
    (most : Size) (s : Sheet) (d : Shift) → d.change ≡ Delete → Allowed d s most →
    (r c : ℕ) → (by_axis d.axis r c ≢ d.line) → shown (shifted d s) (row_to d r) (col_to d c) ≡ shown (without d.axis d.line s) r c

-- a change of rows and a change of columns come to the same in either order
abbrev pub EitherOrder : Type 0
EitherOrder = (s : Sheet) (d e : Shift) → d.axis ≡ Row → e.axis ≡ Column → shifted d (shifted e s) ≡ shifted e (shifted d s)

abbrev pub Iff : Type 0 → Type 0 → Type 0
Iff A B = (A → B) × (B → A)

-- the lines of a range along an axis, and the other axis
abbrev pub span_of : Axis → Range → Span
span_of a b = record { first = by_axis a b.row b.col; count = by_axis a b.rows b.cols }

abbrev pub crossing : Axis → Axis
crossing Row = Column
crossing Column = Row

-- line i is one of a span's
abbrev pub Has : Span → ℕ → Type 0
Has s i = (s.first ≤ i) × (i < s.first + s.count)

-- a line inserted before line p stands between two lines of a span
abbrev pub Between : ℕ → Span → Type 0
Between p s = ((i : ℕ) × Has s i × (i < p)) × ((i : ℕ) × Has s i × (p ≤ i))

-- after an insertion a range has the moved line of exactly each line that it had, and the new line exactly if that stands between two lines that it had
abbrev pub RangeInserted : Type 0
RangeInserted =
    (d : Shift) (b : Range) → d.change ≡ Insert → (span_of d.axis b).first + (span_of d.axis b).count < 2 ^ 64 - 1 →
    (t : Range) × (range_after d b ≡ Some t)
    × (span_of (crossing d.axis) t ≡ span_of (crossing d.axis) b)
    × ((i : ℕ) → Iff (Has (span_of d.axis b) i) (Has (span_of d.axis t) (line_to Insert d.line i)))
    × Iff (Between d.line (span_of d.axis b)) (Has (span_of d.axis t) d.line)

-- a deletion loses a range exactly if it had the deleted line and no other; any other range has the moved line of exactly each other line that it had
abbrev pub RangeDeleted : Type 0
RangeDeleted =
    (d : Shift) (b : Range) → d.change ≡ Delete →
    Iff (range_after d b ≡ None) ((i : ℕ) → Iff (Has (span_of d.axis b) i) (i ≡ d.line))
    × ((t : Range) → range_after d b ≡ Some t →
    (span_of (crossing d.axis) t ≡ span_of (crossing d.axis) b)
    × ((i : ℕ) → (i ≢ d.line) → Iff (Has (span_of d.axis b) i) (Has (span_of d.axis t) (line_to Delete d.line i))))

-- a sheet of 2 ^ 64 - 1 rows in which an insertion changes what is shown: the number 2 ^ 64 - 1 stays, and the last row comes to stand there
abbrev pub BoundIsNeeded : Type 0
BoundIsNeeded =
    (s : Sheet) × (d : Shift) × (s.rows ≡ 2 ^ 64 - 1) × (d.change ≡ Insert) × Allowed d s (record { rows = 2 ^ 64; cols = 1 })
    × (shown (shifted d s) (row_to d 0) (col_to d 0) ≢ shown s 0 0)
