-- One way to prove a law of a formula: show it of each piece of work of which formulas are made. Assumes nothing.
use Rattle.std.proofs.Common.{ℕ, zero, suc, ◌+◌, ◌-◌, ◌*◌, ◌/◌, ◌^◌, Bool, true, false, cond, eqb, ltb, Some, None, Ok, Err, Option, Result, unwrap_or}
use Rattle.formula.specs.declared.token.CellRef.{CellRef}
use Rattle.formula.specs.declared.token.Aggregate.{Aggregate}
use Rattle.formula.specs.declared.token.Aggregate.TheVariants.{Sum, Count, Max}
use Rattle.formula.specs.declared.token.Operator.{Operator}
use Rattle.formula.specs.declared.token.Operator.TheVariants.{Add, Subtract, Multiply, Divide}
use Rattle.formula.specs.Tokens.{the_ref}
use Rattle.formula.specs.Formula.{Formula, number, cell, fold, binary, if_less}
use Rattle.evaluate.specs.declared.value.CellError.TheVariants.{DivideByZero, OutOfRange, Lost, Cycle}
use Rattle.evaluate.specs.declared.value.Value.{Value}
use Rattle.evaluate.specs.declared.stop.Stop.{Stop}
use Rattle.evaluate.specs.declared.stop.Stop.TheVariants as stop
use Rattle.evaluate.specs.Tallies.{Tally}
use Rattle.evaluate.specs.Traces.{Trace, ends, look, then, each}
use Rattle.evaluate.specs.Evaluation.{fits, applied, none_yet, counted, gathered_row, gathered, finished, trace}

-- what work that looks at nothing may end with: a number, or an error of its own
abbrev pub Plain : {A : Type 0} → Result A Stop → Type 0
Plain (Err (stop.Error Cycle)) = ⊥
Plain (Err (stop.Needs p)) = ⊥
Plain o = Unit {0}

plain_cond : {A : Type 0} (b : Bool) (o q : Result A Stop) → Plain o → Plain q → Plain (cond b o q)
plain_cond true o q h k = h
plain_cond false o q h k = k

plain_fits : (n : ℕ) → Plain (fits n)
plain_fits n = plain_cond (ltb n (2 ^ 64)) (Ok n) (Err (stop.Error OutOfRange)) tt tt

plain_applied : (op : Operator) (a b : ℕ) → Plain (applied op a b)
plain_applied Add a b = plain_fits (a + b)
plain_applied Subtract a b = plain_cond (ltb a b) (Err (stop.Error OutOfRange)) (Ok (a - b)) tt tt
plain_applied Multiply a b = plain_fits (a * b)
plain_applied Divide a b = plain_cond (eqb b 0) (Err (stop.Error DivideByZero)) (Ok (a / b)) tt tt

plain_finished : (g : Aggregate) (t : Tally) → Plain (finished g t)
plain_finished Sum t = plain_fits t.total
plain_finished Count t = tt
plain_finished Max t = tt

-- a relation of two pieces of work, over two tables of what the cells show
module _ (f g : ℕ → ℕ → Option Value) (R : (A : Type 0) → Trace A → Trace A → Type 0)
    (at_end : (A : Type 0) (o : Result A Stop) → Plain o → R A (ends o) (ends o))
    (at_look : (A : Type 0) (p : CellRef) (go : Option ℕ → A) → R A (look f p go) (look g p go))
    (at_then : (A B : Type 0) (t u : Trace A) (go on : A → Trace B) → R A t u → ((a : A) → R B (go a) (on a)) → R B (then t go) (then u on)) where
  at_each : (A : Type 0) (line other : ℕ → A → Trace A) → ((i : ℕ) (a : A) → R A (line i a) (other i a)) → (i n : ℕ) (a : A) → R A (each line i n a) (each other i n a)
  unfolding each
  at_each A line other r i zero a = at_end A (Ok a) tt
  at_each A line other r i (suc n) a = at_then A A (line i a) (other i a) _ _ (r i a) (λ b. at_each A line other r (suc i) n b)

  at_choice : (b : Bool) (t u t₁ u₁ : Trace ℕ) → R ℕ t u → R ℕ t₁ u₁ → R ℕ (cond b t t₁) (cond b u u₁)
  at_choice true t u t₁ u₁ r s = r
  at_choice false t u t₁ u₁ r s = s

  pub related : (x : Formula) → R ℕ (trace f x) (trace g x)
  related (number n) = at_end ℕ (Ok n) tt
  related (cell None) = at_end ℕ (Err (stop.Error Lost)) tt
  related (cell (Some p)) = at_look ℕ p (λ n. unwrap_or n 0)
  related (fold a None) = at_end ℕ (Err (stop.Error Lost)) tt
  related (fold a (Some b)) =
      at_then Tally ℕ (gathered f b) (gathered g b) _ _
      (at_each Tally (gathered_row f b.col b.cols) (gathered_row g b.col b.cols)
      (λ r t. at_each Tally (λ j u. look f (the_ref r j) (counted u)) (λ j u. look g (the_ref r j) (counted u)) (λ j u. at_look Tally (the_ref r j) (counted u)) b.col b.cols t)
      b.row b.rows none_yet)
      (λ t. at_end ℕ (finished a t) (plain_finished a t))
  related (binary op x y) =
      at_then ℕ ℕ (trace f x) (trace g x) _ _ (related x) (λ a. at_then ℕ ℕ (trace f y) (trace g y) _ _ (related y) (λ b. at_end ℕ (applied op a b) (plain_applied op a b)))
  related (if_less x y u v) =
      at_then ℕ ℕ (trace f x) (trace g x) _ _ (related x)
      (λ a. at_then ℕ ℕ (trace f y) (trace g y) _ _ (related y) (λ b. at_choice (ltb a b) (trace f u) (trace g u) (trace f v) (trace g v) (related u) (related v)))
