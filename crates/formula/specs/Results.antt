-- What a change to a lent row answers, and what it leaves. Assumes nothing: these are definitions.
use Rattle.std.specs.Prelude.{ℕ, List, Ok, Err, Result}

-- what is answered
abbrev pub answered : {A E : Type 0} → Result A E → Result (Unit {0}) E
answered (Ok x) = Ok tt
answered (Err e) = Err e

-- what the row then holds: a refusal leaves it as it was
abbrev pub kept : {E : Type 0} → List ℕ → Result (List ℕ) E → List ℕ
kept xs (Ok ys) = ys
kept xs (Err e) = xs

-- a step that is taken unless an earlier one is refused
abbrev pub and_then : {A B E : Type 0} → Result A E → (A → Result B E) → Result B E
and_then (Ok x) go = go x
and_then (Err e) go = Err e
