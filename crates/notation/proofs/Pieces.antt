-- A text that is written piece by piece. Assumes nothing.
use Rattle.std.proofs.Common.{◌≡◌, ℕ, Bool, true, false, cond, List, [], ◌++◌, Some, None, Ok, codes, Option, Result, refl, append_assoc, append-nil}
use Rattle.std.specs.declared.fmt.Error.{Error}
use Rattle.std.specs.declared.fmt.Formatter.{Formatter}
use Rattle.std.specs.Option.{option_map}
use Rattle.std.specs.Fmt.{HasWritten, WritesOnOk, DisplaysOnOk}
use Rattle.std.proofs.Output.{has_written_append, has_written_of_eq}
use Rattle.formula.specs.declared.token.Operator.{Operator}
use Rattle.formula.specs.Formula.{Formula, binary, if_less}
use Rattle.formula.specs.Expressions.{of_two, of_four}
use Rattle.notation.specs.Notation.{sign, enclosed, text_in}

abbrev opening : Bool → List ℕ
opening inside = cond inside (codes "(") []

abbrev closing : Bool → List ℕ
closing inside = cond inside (codes ")") []

surrounded : (inside : Bool) (t : List ℕ) → opening inside ++ t ++ closing inside ≡ enclosed inside t
surrounded true t = refl
surrounded false t = append-nil t

-- the text of an operand
abbrev nested : Option Formula → Option (List ℕ)
nested x = option_map (text_in true) x

module _ {W : Type 0} (took : W → List ℕ → W → Type 0) where
  -- one piece more
  next : {f g h : Formatter W} {a b : List ℕ} → HasWritten took f a g → WritesOnOk took g (Ok tt) b h → HasWritten took f (a ++ b) h
  next q y = has_written_append took _ _ _ _ _ q (y q.plain refl)

  -- an operation
  pub operation : (inside : Bool) (op : Operator) (x y : Option Formula) (r : Result (Unit {0}) Error) (f f₁ f₂ f₃ f₄ f₅ : Formatter W) (a b z : List ℕ)
      → a ≡ opening inside → b ≡ sign op → z ≡ closing inside
      → WritesOnOk took f (Ok tt) a f₁ → DisplaysOnOk took f₁ (Ok tt) (nested x) f₂ → WritesOnOk took f₂ (Ok tt) b f₃ → DisplaysOnOk took f₃ (Ok tt) (nested y) f₄ → WritesOnOk took f₄ r z f₅
      → DisplaysOnOk took f r (option_map (text_in inside) (of_two (binary op) x y)) f₅
  operation inside op None y r f f₁ f₂ f₃ f₄ f₅ a b z ea eb ez pa px pb py pz = tt
  operation inside op (Some x) None r f f₁ f₂ f₃ f₄ f₅ a b z ea eb ez pa px pb py pz = tt
  operation inside op (Some x) (Some y) r f f₁ f₂ f₃ f₄ f₅ a b z ea eb ez pa px pb py pz = λ plain ok.
      let t : List ℕ = text_in true x ++ sign op ++ text_in true y in
      has_written_of_eq took _ _ _ _ (rw (ea, eb, ez, ← surrounded inside t) (simp append_assoc)) (let q = next (next (next (pa plain refl) px) pb) py in has_written_append took _ _ _ _ _ q (pz q.plain ok))

  -- a conditional
  pub conditional : (inside : Bool) (x y u v : Option Formula) (r : Result (Unit {0}) Error) (f f₁ f₂ f₃ f₄ f₅ f₆ f₇ f₈ f₉ : Formatter W) (a z : List ℕ)
      → a ≡ opening inside → z ≡ closing inside
      → WritesOnOk took f (Ok tt) (a ++ codes "if ") f₁ → DisplaysOnOk took f₁ (Ok tt) (nested x) f₂ → WritesOnOk took f₂ (Ok tt) (codes " < ") f₃ → DisplaysOnOk took f₃ (Ok tt) (nested y) f₄
      → WritesOnOk took f₄ (Ok tt) (codes " then ") f₅ → DisplaysOnOk took f₅ (Ok tt) (nested u) f₆ → WritesOnOk took f₆ (Ok tt) (codes " else ") f₇ → DisplaysOnOk took f₇ (Ok tt) (nested v) f₈ → WritesOnOk took f₈ r z f₉
      → DisplaysOnOk took f r (option_map (text_in inside) (of_four if_less x y u v)) f₉
  conditional inside None y u v r f f₁ f₂ f₃ f₄ f₅ f₆ f₇ f₈ f₉ a z ea ez pa px pb py pc pu pd pv pz = tt
  conditional inside (Some x) None u v r f f₁ f₂ f₃ f₄ f₅ f₆ f₇ f₈ f₉ a z ea ez pa px pb py pc pu pd pv pz = tt
  conditional inside (Some x) (Some y) None v r f f₁ f₂ f₃ f₄ f₅ f₆ f₇ f₈ f₉ a z ea ez pa px pb py pc pu pd pv pz = tt
  conditional inside (Some x) (Some y) (Some u) None r f f₁ f₂ f₃ f₄ f₅ f₆ f₇ f₈ f₉ a z ea ez pa px pb py pc pu pd pv pz = tt
  conditional inside (Some x) (Some y) (Some u) (Some v) r f f₁ f₂ f₃ f₄ f₅ f₆ f₇ f₈ f₉ a z ea ez pa px pb py pc pu pd pv pz = λ plain ok.
      let t : List ℕ =
      codes "if " ++ text_in true x ++ codes " < " ++ text_in true y ++ codes " then " ++ text_in true u ++ codes " else " ++ text_in true v
      in
      has_written_of_eq took _ _ _ _ (rw (ea, ez, ← surrounded inside t) (simp append_assoc))
      (let q = next (next (next (next (next (next (next (pa plain refl) px) pb) py) pc) pu) pd) pv in has_written_append took _ _ _ _ _ q (pz q.plain ok))
