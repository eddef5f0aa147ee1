-- What is gathered from a range before a change and after it. Assumes nothing.
use Rattle.std.proofs.Common.{◌≡◌, ℕ, zero, suc, Some, Ok, Err, Option, Result, sym, refl, ◌∙◌}
use Rattle.formula.specs.declared.token.CellRef.{CellRef}
use Rattle.formula.specs.declared.token.Range.{Range}
use Rattle.formula.specs.Tokens.{the_ref, the_range}
use Rattle.evaluate.specs.declared.value.Value.{Value}
use Rattle.evaluate.specs.declared.value.Value.TheVariants.{Empty, Number, Error}
use Rattle.evaluate.specs.declared.stop.Stop.{Stop}
use Rattle.evaluate.specs.Tallies.{Tally}
use Rattle.evaluate.specs.Traces.{Trace, seen, look, bind, each}
use Rattle.evaluate.specs.Evaluation.{none_yet, counted, gathered_row, gathered, known}
use Rattle.shift.specs.declared.shift.Axis.{Axis}
use Rattle.shift.specs.declared.shift.Axis.TheVariants.{Row, Column}
use Rattle.shift.specs.declared.shift.Change.{Change}
use Rattle.shift.specs.declared.shift.Change.TheVariants.{Insert, Delete}
use Rattle.shift.specs.declared.shift.Shift.{Shift}
use Rattle.shift.specs.Lines.{lines_lost}
use Rattle.shift.specs.Shifts.{the_shift, by_axis, by_line, unless, row_to, col_to, rows_to, cols_to, range_after}
use Rattle.shift.proofs.Gaps.{Beside, made, bare_made}
use Rattle.shift.proofs.Through.{through, idle, same, still, kept_lines}

-- a cell that is known is seen alike wherever it stands
pub seen_alike : {A : Type 0} (p q : CellRef) (v : Value) (go : Option ℕ → A) → seen p (Some v) go ≡ seen q (Some v) go
seen_alike p q Empty go = refl
seen_alike p q (Number n) go = refl
seen_alike p q (Error e) go = refl

-- what lines make of what came before, which may have ended the work
each_through : {A : Type 0} (line : ℕ → A → Trace A) (i n : ℕ) (o : Result A Stop)
    → bind o (λ a. (each line i n a).end) ≡ through (λ k q. bind q (λ a. (line k a).end)) i n o
unfolding each through
each_through line i zero (Ok a) = refl
each_through line i zero (Err e) = refl
each_through line i (suc n) (Ok a) = each_through line (suc i) n (line i a).end
each_through line i (suc n) (Err e) = each_through line (suc i) n (Err e)

-- what a cell makes of what was gathered before it
abbrev take : Value → Result Tally Stop → Result Tally Stop
take v o = bind o (λ t. seen (the_ref 0 0) (Some v) (counted t))

-- what some cells of a row make of it
abbrev take_row : ℕ → ℕ → (ℕ → Value) → Result Tally Stop → Result Tally Stop
take_row c m l o = through (λ j. take (l j)) c m o

-- an empty cell changes nothing
take_empty : (o : Result Tally Stop) → take Empty o ≡ o
take_empty (Ok t) = refl
take_empty (Err e) = refl

-- what is gathered from the rows of a range, one after the other
abbrev take_range : (ℕ → ℕ → Value) → Range → Result Tally Stop
take_range f b = through (λ i. take_row b.col b.cols (f i)) b.row b.rows (Ok none_yet)

-- that is what is gathered from the range
gathered_through : (f : ℕ → ℕ → Value) (b : Range) → (gathered (known f) b).end ≡ take_range f b
gathered_through f b =
    each_through (gathered_row (known f) b.col b.cols) b.row b.rows (Ok none_yet)
    ∙ same _ _ b.row b.rows (Ok none_yet) (λ i _ o. row i o)
  where
    cell : (i j : ℕ) (o : Result Tally Stop) → bind o (λ t. (look (known f) (the_ref i j) (counted t)).end) ≡ take (f i j) o
    cell i j (Ok t) = seen_alike (the_ref i j) (the_ref 0 0) (f i j) (counted t)
    cell i j (Err e) = refl

    row : (i : ℕ) (o : Result Tally Stop) → bind o (λ t. (gathered_row (known f) b.col b.cols i t).end) ≡ take_row b.col b.cols (f i) o
    row i o = each_through (λ j t. look (known f) (the_ref i j) (counted t)) b.col b.cols o ∙ same _ _ b.col b.cols o (λ j _ q. cell i j q)

-- a line of values that is empty
abbrev pub empty : ℕ → Value
empty j = Empty

-- what the cells show before a shift and after it, line by line
abbrev pub ShowsBeside : Shift → (ℕ → ℕ → Value) → (ℕ → ℕ → Value) → Type 0
ShowsBeside d f g = Beside empty d.change d.line (by_line d.axis f) (by_line d.axis g)

-- what the lines make of what was gathered before them; an empty line changes nothing
line_works : (work : (ℕ → Value) → Result Tally Stop → Result Tally Stop) → ((o : Result Tally Stop) → work empty o ≡ o)
    → (h : Change) (p : ℕ) (f g : ℕ → ℕ → Value) → Beside empty h p f g → Beside idle h p (λ i. work (f i)) (λ i. work (g i))
line_works work none Insert p f g b = (made work work (λ l o. refl) none b.0, bare_made work none b.1, bare_made work none b.2)
line_works work none Delete p f g b = made work work (λ l o. refl) none b

-- a range that is not lost
abbrev pub range_to : Shift → Range → Range
range_to d b = the_range (row_to d b.row) (rows_to d b) (col_to d b.col) (cols_to d b)

-- a range is lost if its lines are
pub lost_or_moved : (a : Axis) (h : Change) (p : ℕ) (b : Range)
    → range_after (the_shift a h p) b ≡ unless (lines_lost h p (by_axis a b.row b.col) (by_axis a b.rows b.cols)) (range_to (the_shift a h p) b)
lost_or_moved Row h p b = refl
lost_or_moved Column h p b = refl

-- from a range the same is gathered: its lines are its rows, or the cells of each row
pub kept_range : (d : Shift) (f g : ℕ → ℕ → Value) → ShowsBeside d f g → (b : Range) → (gathered (known g) (range_to d b)).end ≡ (gathered (known f) b).end
kept_range d f g k b = gathered_through g (range_to d b) ∙ go d.axis d.change d.line k ∙ sym (gathered_through f b)
  where
    go : (a : Axis) (h : Change) (p : ℕ) → ShowsBeside (the_shift a h p) f g → take_range g (range_to (the_shift a h p) b) ≡ take_range f b
    go Row h p k =
        let none : (o : Result Tally Stop) → take_row b.col b.cols empty o ≡ o = λ o. still _ b.col b.cols o (λ j _ q. take_empty q) in
        kept_lines h p _ _ (line_works (take_row b.col b.cols) none h p f g k) b.row b.rows (Ok none_yet)
    go Column h p k =
        same _ _ b.row b.rows (Ok none_yet)
        (λ i _ o. kept_lines h p _ _ (line_works (λ l. take (l i)) take_empty h p (by_line Column f) (by_line Column g) k) b.col b.cols o)
