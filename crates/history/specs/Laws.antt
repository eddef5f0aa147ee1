-- What is promised of undoing and redoing. Assumes nothing: each is a definition or a statement.
use Rattle.std.specs.Prelude.{◌≡◌, ℕ, zero, suc, ◌-◌, ◌≤◌, List, [], ◌∷◌, length, take}
use Rattle.history.specs.Kept.{Kept, advanced, undone, redone}

-- one change after the other
abbrev pub advanced_all : Kept → List (List ℕ) → Kept
advanced_all b [] = b
advanced_all b (s ∷ ss) = advanced_all (advanced b s) ss

unfoldable pub undone_times : ℕ → Kept → Kept
undone_times zero b = b
undone_times (suc n) b = undone (undone_times n b)

unfoldable pub redone_times : ℕ → Kept → Kept
redone_times zero b = b
redone_times (suc n) b = redone_times n (redone b)

-- after some changes, no more than are kept, as many undos bring the first sheet back, and what was kept before it but for what was forgotten
abbrev pub FirstComesBack : Type 0
FirstComesBack =
    (b : Kept) (s : List ℕ) (ss : List (List ℕ)) → length (s ∷ ss) ≤ b.steps →
    undone_times (length (s ∷ ss)) (advanced_all b (s ∷ ss)) ≡ record { current = b.current; past = take (b.steps - length (s ∷ ss)) b.past; to_come = s ∷ ss; steps = b.steps }

-- and as many redos bring back all that there was, from any state; so do undos after redos
abbrev pub LastComesBack : Type 0
LastComesBack = (b : Kept) (n : ℕ) → n ≤ length b.past → redone_times n (undone_times n b) ≡ b

abbrev pub UndoneAgain : Type 0
UndoneAgain = (b : Kept) (n : ℕ) → n ≤ length b.to_come → undone_times n (redone_times n b) ≡ b
