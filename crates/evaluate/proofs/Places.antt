-- Lists of places. Assumes nothing.
use Rattle.std.proofs.Common.{◌≡◌, ◌⊎◌, List, [], ◌∷◌, ◌++◌, refl, inl, inr}
use Rattle.formula.specs.declared.token.CellRef.{CellRef}
use Rattle.evaluate.specs.Knowledge.{In, here, there}

pub in_first : {q p : CellRef} {ps : List CellRef} → In q (p ∷ ps) → (q ≡ p) ⊎ In q ps
in_first here = inl refl
in_first (there i) = inr i

pub in_none : {q : CellRef} {Z : Type 0} → In q [] → Z
in_none i = elim i [ ]

pub in_left : {q : CellRef} (ps qs : List CellRef) → In q ps → In q (ps ++ qs)
in_left [] qs i = in_none i
in_left (p ∷ ps) qs here = here
in_left (p ∷ ps) qs (there i) = there (in_left ps qs i)

pub in_right : {q : CellRef} (ps qs : List CellRef) → In q qs → In q (ps ++ qs)
in_right [] qs i = i
in_right (p ∷ ps) qs i = there (in_right ps qs i)

pub in_either : {q : CellRef} (ps qs : List CellRef) → In q (ps ++ qs) → In q ps ⊎ In q qs
in_either [] qs i = inr i
in_either (p ∷ ps) qs here = inl here
in_either (p ∷ ps) qs (there i) = elim (in_either ps qs i) [ inl j ↦ inl (there j) | inr j ↦ inr j ]
