-- A formula worked out by way of its operands. Assumes nothing.
use Rattle.std.proofs.Common.{◌≡◌, ℕ, ◌<◌, ◌≤◌, cond, ltb, Some, None, Ok, Err, Option, Result, refl, ap}
use Rattle.std.proofs.lemmas.Bool.{lt-ltb, le-ltb}
use Rattle.formula.specs.declared.token.Operator.{Operator}
use Rattle.formula.specs.Formula.{Formula, number, binary, if_less}
use Rattle.formula.specs.Expressions.{of_two, of_four}
use Rattle.evaluate.specs.declared.value.Value.{Value}
use Rattle.evaluate.specs.declared.stop.Stop.{Stop}
use Rattle.evaluate.specs.declared.reader.Reader.{Reader}
use Rattle.evaluate.specs.Sheets.{Sheet}
use Rattle.evaluate.specs.Traces.{ends, then}
use Rattle.evaluate.specs.Evaluation.{applied, trace}
use Rattle.evaluate.specs.Trails.{Log}
use Rattle.evaluate.specs.Reads.{Reads}
use Rattle.evaluate.proofs.Trails.{follows_at}
use Rattle.evaluate.proofs.Reading.{Work, reads_then, reads_stop, reads_same, reads_ends}

-- a formula whose first operands are these, and the work that comes after them
pub record Begins (z : Formula) (p q : Option Formula) (last : ℕ → ℕ → Work ℕ) : Type 0 where
  pub left : Formula
  pub right : Formula
  pub is_left : p ≡ Some left
  pub is_right : q ≡ Some right
  pub is : (f : ℕ → ℕ → Option Value) → trace f z ≡ then (trace f left) (λ a. then (trace f right) (λ b. last a b f))

pub operation : (op : Operator) {o : Option Formula} (z : Formula) (p q : Option Formula) → o ≡ of_two (binary op) p q → o ≡ Some z → Begins z p q (λ a b f. ends (applied op a b))
operation op z None q e d = absurd (cc)
operation op z (Some x) None e d = absurd (cc)
operation op z (Some x) (Some y) e d =
    let same : z ≡ binary op x y = cc in record { left = x; right = y; is_left = refl; is_right = refl; is = λ f. ap (λ w. trace f w) same }

-- a choice, of which the third or the fourth operand is worked out
pub record Choice (z : Formula) (p q u v : Option Formula) : Type 0 where
  pub less : Formula
  pub other : Formula
  pub is_less : u ≡ Some less
  pub is_other : v ≡ Some other
  pub begins : Begins z p q (λ a b f. cond (ltb a b) (trace f less) (trace f other))

pub choice : {o : Option Formula} (z : Formula) (p q u v : Option Formula) → o ≡ of_four if_less p q u v → o ≡ Some z → Choice z p q u v
choice z None q u v e d = absurd (cc)
choice z (Some x) None u v e d = absurd (cc)
choice z (Some x) (Some y) None v e d = absurd (cc)
choice z (Some x) (Some y) (Some l) None e d = absurd (cc)
choice z (Some x) (Some y) (Some l) (Some m) e d =
    let same : z ≡ if_less x y l m = cc in
    record {
      less = l;
      other = m;
      is_less = refl;
      is_other = refl;
      begins = record { left = x; right = y; is_left = refl; is_right = refl; is = λ f. ap (λ w. trace f w) same };
    }

module _ {C T : Type 0} (sheet : C → Sheet) (log : T → Log) where
  -- the formula is worked out, if there is one
  abbrev pub Comes : Option Formula → Result ℕ Stop → Reader C T → Reader C T → Type 0
  Comes o r before after = (x : Formula) → o ≡ Some x → Reads sheet log (λ f. trace f x) r before after

  pub comes_number : (o : Option Formula) (n : ℕ) (k : Reader C T) → o ≡ Some (number n) → Comes o (Ok n) k k
  comes_number o n k e z d = let same : number n ≡ z = cc in rw (← same) (reads_ends k (Ok n))

  module _ {before after : Reader C T} {z : Formula} {p q : Option Formula} {last : ℕ → ℕ → Work ℕ} (k : Begins z p q last) where
    worked : {r : Result ℕ Stop} → Reads sheet log (λ f. then (trace f k.left) (λ a. then (trace f k.right) (λ b. last a b f))) r before after → Reads sheet log (λ f. trace f z) r before after
    worked x = record { same = x.same; follows = follows_at (trace (sheet before.cells.now).shown z) (k.is (sheet before.cells.now).shown) x.follows }

    pub left_stops : (r : Result ℕ Stop) (x : Stop) → r ≡ Err x → Comes p (Err x) before after → Reads sheet log (λ f. trace f z) r before after
    left_stops r x e left =
        worked (reads_same r e (reads_stop (λ f. trace f k.left) (λ a f. then (trace f k.right) (λ b. last a b f)) x (left k.left k.is_left)))

    module _ {mid : Reader C T} (a : ℕ) (left : Comes p (Ok a) before mid) where
      pub right_stops : (r : Result ℕ Stop) (x : Stop) → r ≡ Err x → Comes q (Err x) mid after → Reads sheet log (λ f. trace f z) r before after
      right_stops r x e right =
          worked
          (reads_then (λ f. trace f k.left) (λ c f. then (trace f k.right) (λ b. last c b f)) a r mid (left k.left k.is_left)
          (reads_same r e (reads_stop (λ f. trace f k.right) (λ b f. last a b f) x (right k.right k.is_right))))

      -- both came to a number
      pub goes_on : (b : ℕ) (r : Result ℕ Stop) (far : Reader C T) → Comes q (Ok b) mid far → Reads sheet log (last a b) r far after → Reads sheet log (λ f. trace f z) r before after
      goes_on b r far right rest =
          worked
          (reads_then (λ f. trace f k.left) (λ c f. then (trace f k.right) (λ b. last c b f)) a r mid (left k.left k.is_left)
          (reads_then (λ f. trace f k.right) (λ c f. last a c f) b r far (right k.right k.is_right) rest))

  -- the operand that the choice takes is worked out
  module _ {before after : Reader C T} {r : Result ℕ Stop} (a b : ℕ) (less other : Formula) (u : Option Formula) (c : Comes u r before after) where
    pub takes_less : a < b → u ≡ Some less → Reads sheet log (λ f. cond (ltb a b) (trace f less) (trace f other)) r before after
    takes_less h e = rw (lt-ltb a b h) (c less e)

    pub takes_other : b ≤ a → u ≡ Some other → Reads sheet log (λ f. cond (ltb a b) (trace f less) (trace f other)) r before after
    takes_other h e = rw (le-ltb a b h) (c other e)
