-- Where places, references and ranges are after a shift: lines along its axis. Assumes nothing: these are definitions.
use Rattle.std.specs.Prelude.{ℕ, Bool, cond, Some, None, Option}
use Rattle.formula.specs.declared.token.CellRef.{CellRef}
use Rattle.formula.specs.declared.token.Range.{Range}
use Rattle.formula.specs.Tokens.{the_ref, the_range}
use Rattle.shift.specs.declared.shift.Axis.{Axis}
use Rattle.shift.specs.declared.shift.Axis.TheVariants.{Row, Column}
use Rattle.shift.specs.declared.shift.Change.{Change}
use Rattle.shift.specs.declared.shift.Shift.{Shift}
use Rattle.shift.specs.declared.shift.Span.{Span}
use Rattle.shift.specs.Lines.{line_lost, line_to, lines_lost, lines_to, count_to, line_from}

abbrev pub the_shift : Axis → Change → ℕ → Shift
the_shift a h p = record { axis = a; change = h; line = p }

-- the first for rows, the second for columns
abbrev pub by_axis : {A : Type 0} → Axis → A → A → A
by_axis Row x y = x
by_axis Column x y = y

-- the line comes first and then the place in it: rows and columns are exchanged where the lines are columns
abbrev pub by_line : {A : Type 0} → Axis → (ℕ → ℕ → A) → ℕ → ℕ → A
by_line Row f i j = f i j
by_line Column f i j = f j i

abbrev pub unless : {A : Type 0} → Bool → A → Option A
unless b x = cond b None (Some x)

abbrev pub line_after : Shift → ℕ → Option ℕ
line_after d n = unless (line_lost d.change d.line n) (line_to d.change d.line n)

abbrev pub span_after : Shift → Span → Option Span
span_after d s =
    unless (lines_lost d.change d.line s.first s.count)
    (record { first = line_to d.change d.line s.first; count = lines_to d.change d.line s.first s.count })

-- a place whose line is deleted, and where a row and a column are afterwards
abbrev pub place_lost : Shift → ℕ → ℕ → Bool
place_lost d r c = line_lost d.change d.line (by_axis d.axis r c)

abbrev pub row_to : Shift → ℕ → ℕ
row_to d r = by_axis d.axis (line_to d.change d.line r) r

abbrev pub col_to : Shift → ℕ → ℕ
col_to d c = by_axis d.axis c (line_to d.change d.line c)

abbrev pub ref_after : Shift → CellRef → Option CellRef
ref_after d x = unless (place_lost d x.row x.col) (the_ref (row_to d x.row) (col_to d x.col))

-- a range of the deleted line alone
abbrev pub range_lost : Shift → Range → Bool
range_lost d b = by_axis d.axis (lines_lost d.change d.line b.row b.rows) (lines_lost d.change d.line b.col b.cols)

abbrev pub rows_to : Shift → Range → ℕ
rows_to d b = by_axis d.axis (lines_to d.change d.line b.row b.rows) b.rows

abbrev pub cols_to : Shift → Range → ℕ
cols_to d b = by_axis d.axis b.cols (lines_to d.change d.line b.col b.cols)

abbrev pub range_after : Shift → Range → Option Range
range_after d b = unless (range_lost d b) (the_range (row_to d b.row) (rows_to d b) (col_to d b.col) (cols_to d b))

-- how many rows and how many columns there are afterwards
abbrev pub rows_after : Shift → ℕ → ℕ
rows_after d n = by_axis d.axis (count_to d.change n) n

abbrev pub cols_after : Shift → ℕ → ℕ
cols_after d n = by_axis d.axis n (count_to d.change n)

-- what is at a place afterwards: what came there, or what a new line has
abbrev pub place_from : {A : Type 0} → A → Shift → (ℕ → ℕ → A) → ℕ → ℕ → A
place_from new d f = by_line d.axis (λ i j. line_from new d.change d.line (λ n. by_line d.axis f n j) i)
