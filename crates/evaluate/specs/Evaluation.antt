-- What a formula comes to, worked out from left to right. Assumes nothing: these are definitions.
use Rattle.std.specs.Prelude.{ℕ, ◌+◌, ◌-◌, ◌*◌, ◌/◌, ◌^◌, max, cond, List, Some, None, Ok, Err, Option, Result, ◌==◌, nat_lt}
use Rattle.std.specs.Option.{unwrap_or}
use Rattle.formula.specs.declared.token.CellRef.{CellRef}
use Rattle.formula.specs.declared.token.Range.{Range}
use Rattle.formula.specs.declared.token.Aggregate.{Aggregate}
use Rattle.formula.specs.declared.token.Aggregate.TheVariants.{Sum, Count, Max}
use Rattle.formula.specs.declared.token.Operator.{Operator}
use Rattle.formula.specs.declared.token.Operator.TheVariants.{Add, Subtract, Multiply, Divide}
use Rattle.formula.specs.Tokens.{the_ref}
use Rattle.formula.specs.Formula.{Formula, number, cell, fold, binary, if_less}
use Rattle.evaluate.specs.declared.value.CellError.TheVariants.{DivideByZero, OutOfRange, Lost}
use Rattle.evaluate.specs.declared.value.Value.{Value}
use Rattle.evaluate.specs.declared.value.Value.TheVariants.{Empty, Number, Error}
use Rattle.evaluate.specs.declared.stop.Stop.{Stop}
use Rattle.evaluate.specs.declared.stop.Stop.TheVariants as stop
use Rattle.evaluate.specs.Tallies.{Tally}
use Rattle.evaluate.specs.Traces.{Trace, ends, look, then, each}

-- a number of 64 bits
abbrev pub fits : ℕ → Result ℕ Stop
fits n = cond (nat_lt n (2 ^ 64)) (Ok n) (Err (stop.Error OutOfRange))

abbrev pub applied : Operator → ℕ → ℕ → Result ℕ Stop
applied Add a b = fits (a + b)
applied Subtract a b = cond (nat_lt a b) (Err (stop.Error OutOfRange)) (Ok (a - b))
applied Multiply a b = fits (a * b)
applied Divide a b = cond (b == 0) (Err (stop.Error DivideByZero)) (Ok (a / b))

abbrev pub none_yet : Tally
none_yet = record { count = 0; total = 0; largest = 0 }

-- an empty cell is passed over
abbrev pub counted : Tally → Option ℕ → Tally
counted t None = t
counted t (Some n) = record { count = t.count + 1; total = t.total + n; largest = max t.largest n }

module _ (f : ℕ → ℕ → Option Value) where
  -- k cells of row r, from column c on
  abbrev pub gathered_row : ℕ → ℕ → ℕ → Tally → Trace Tally
  gathered_row c k r t = each (λ j u. look f (the_ref r j) (counted u)) c k t

  -- a range, in reading order
  abbrev pub gathered : Range → Trace Tally
  gathered b = each (gathered_row b.col b.cols) b.row b.rows none_yet

abbrev pub finished : Aggregate → Tally → Result ℕ Stop
finished Sum t = fits t.total
finished Count t = Ok t.count
finished Max t = Ok t.largest

-- from what the cells show so far; of a choice only the branch that is taken is worked out
abbrev pub trace : (ℕ → ℕ → Option Value) → Formula → Trace ℕ
trace f (number n) = ends (Ok n)
trace f (cell None) = ends (Err (stop.Error Lost))
trace f (cell (Some p)) = look f p (λ n. unwrap_or n 0)
trace f (fold g None) = ends (Err (stop.Error Lost))
trace f (fold g (Some b)) = then (gathered f b) (λ t. ends (finished g t))
trace f (binary op x y) = then (trace f x) (λ a. then (trace f y) (λ b. ends (applied op a b)))
trace f (if_less x y u v) = then (trace f x) (λ a. then (trace f y) (λ b. cond (nat_lt a b) (trace f u) (trace f v)))

-- its end alone
abbrev pub attempt : (ℕ → ℕ → Option Value) → Formula → Result ℕ Stop
attempt f x = (trace f x).end

-- it is known of every cell what it shows
abbrev pub known : (ℕ → ℕ → Value) → ℕ → ℕ → Option Value
known f r c = Some (f r c)

-- the places that a formula looks at, in order, up to the first error
abbrev pub looked_at : (ℕ → ℕ → Value) → Formula → List CellRef
looked_at f x = (trace (known f) x).looks

-- where nothing is wanting, an end is a value; nothing is wanting where every cell is known
abbrev pub value_of : Result ℕ Stop → Value
value_of (Ok n) = Number n
value_of (Err (stop.Error e)) = Error e
value_of (Err (stop.Needs p)) = Empty

-- what a formula shows
abbrev pub evaluated : (ℕ → ℕ → Value) → Formula → Value
evaluated f x = value_of (attempt (known f) x)
