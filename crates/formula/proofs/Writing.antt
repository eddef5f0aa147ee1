-- What is written is spelled. Assumes nothing.
use Rattle.std.proofs.Common.{◌≡◌, ℕ, ◌+◌, ◌*◌, ◌≤◌, List, [], ◌++◌, length, Some, None, refl, arith}
use Rattle.formula.specs.declared.token.Aggregate.TheVariants.{Sum, Count, Max}
use Rattle.formula.specs.declared.token.Operator.TheVariants.{Add, Subtract, Multiply, Divide}
use Rattle.formula.specs.declared.token.Token.{Token}
use Rattle.formula.specs.declared.token.Token.TheVariants.{Number, Cell, Fold, Binary, IfLess}
use Rattle.formula.specs.Layout.{token_len, max_tokens}
use Rattle.formula.specs.Tokens.{decoded, numbers}
use Rattle.formula.specs.Formula.{Formula, number, cell, fold, binary, if_less}
use Rattle.formula.specs.Spelling.{Spells, a_number, a_cell, a_fold, an_operation, a_choice}
use Rattle.formula.specs.Reading.{spelled}
use Rattle.formula.specs.Writing.{writes, token_count}
use Rattle.formula.proofs.Steps.{begins}
use Rattle.formula.proofs.Spelling.{spelled_whole}

-- a token that was written is read
pub decoded_numbers : (t : Token) (rest : List ℕ) → decoded (numbers t ++ rest) ≡ Some (t, rest)
decoded_numbers (Number n) rest = refl
decoded_numbers (Cell None) rest = refl
decoded_numbers (Cell (Some p)) rest = refl
decoded_numbers (Fold Sum None) rest = refl
decoded_numbers (Fold Count None) rest = refl
decoded_numbers (Fold Max None) rest = refl
decoded_numbers (Fold Sum (Some b)) rest = refl
decoded_numbers (Fold Count (Some b)) rest = refl
decoded_numbers (Fold Max (Some b)) rest = refl
decoded_numbers (Binary Add) rest = refl
decoded_numbers (Binary Subtract) rest = refl
decoded_numbers (Binary Multiply) rest = refl
decoded_numbers (Binary Divide) rest = refl
decoded_numbers IfLess rest = refl

pub spells_written : (x : Formula) (rest : List ℕ) → Spells (writes x rest) x rest
unfolding writes
spells_written (number n) rest = a_number (decoded_numbers (Number n) rest)
spells_written (cell p) rest = a_cell (decoded_numbers (Cell p) rest)
spells_written (fold g b) rest = a_fold (decoded_numbers (Fold g b) rest)
spells_written (binary op x y) rest = an_operation (decoded_numbers (Binary op) _) (spells_written x (writes y rest)) (spells_written y rest)
spells_written (if_less x y u v) rest =
    a_choice (decoded_numbers IfLess _) (spells_written x _) (spells_written y _) (spells_written u (writes v rest)) (spells_written v rest)

-- a formula takes five numbers a token
pub spells_count : {ws bs : List ℕ} {f : Formula} → Spells ws f bs → length ws ≡ token_len * token_count f + length bs
unfolding token_count
spells_count (a_number {ws = ws} {bs = bs} d) = let l = (begins ws bs _ d).longer in omega arith
spells_count (a_cell {ws = ws} {bs = bs} d) = let l = (begins ws bs _ d).longer in omega arith
spells_count (a_fold {ws = ws} {bs = bs} d) = let l = (begins ws bs _ d).longer in omega arith
spells_count (an_operation {ws = ws} {bs = bs} d s t) = let l = (begins ws bs _ d).longer in let i = spells_count s in let j = spells_count t in omega arith
spells_count (a_choice {ws = ws} {bs = bs} d s t p q) =
    let l = (begins ws bs _ d).longer in
    let i = spells_count s in
    let j = spells_count t in
    let k = spells_count p in
    let m = spells_count q in
    omega arith

pub written_length : (f : Formula) → length (writes f []) ≡ token_len * token_count f
written_length f = let e = spells_count (spells_written f []) in omega arith

pub written_read : (f : Formula) → token_count f ≤ max_tokens → spelled (writes f []) ≡ Some f
written_read f h = let l = written_length f in spelled_whole (writes f []) f (omega arith) (spells_written f [])
