-- The sheets that are kept, whatever a sheet is. Assumes nothing: these are definitions.
use Rattle.std.specs.Prelude.{◌≡◌, ℕ, ◌+◌, ◌*◌, ◌≤◌, List, [], ◌∷◌, length, take}
use Rattle.recalc.specs.Entries.{entry}
use Rattle.history.specs.declared.history.History.{History}
use Rattle.history.specs.Ring.{before, after, with_slot, slot_after}

-- the current one, and those that undoing and redoing go to, the nearest first; at most `steps` earlier ones are kept
pub record Kept : Type 0 where
  pub current : List ℕ
  pub past : List (List ℕ)
  pub to_come : List (List ℕ)
  pub steps : ℕ

-- a change keeps the sheet before it, forgets the oldest past the count, and ends what could be redone
abbrev pub advanced : Kept → List ℕ → Kept
advanced b s = record { current = s; past = take b.steps (b.current ∷ b.past); to_come = []; steps = b.steps }

-- where there is nothing to undo or to redo, nothing changes
abbrev pub undone_to : List (List ℕ) → Kept → Kept
undone_to [] b = b
undone_to (s ∷ ss) b = record { current = s; past = ss; to_come = b.current ∷ b.to_come; steps = b.steps }

abbrev pub undone : Kept → Kept
undone b = undone_to b.past b

abbrev pub redone_to : List (List ℕ) → Kept → Kept
redone_to [] b = b
redone_to (s ∷ ss) b = record { current = s; past = b.current ∷ b.past; to_come = ss; steps = b.steps }

abbrev pub redone : Kept → Kept
redone b = redone_to b.to_come b

-- what is kept in a memory
abbrev pub kept : History → List ℕ → Kept
kept h m =
    record {
      current = entry h.width h.at m;
      past = before (λ k. entry h.width k m) (1 + h.steps) h.at h.past;
      to_come = after (λ k. entry h.width k m) (1 + h.steps) h.at h.to_come;
      steps = h.steps;
    }

-- a memory that has room for all slots
abbrev pub Roomy : History → List ℕ → Type 0
Roomy h m = h.width * (1 + h.steps) ≤ length m

-- whatever has come to stand in the slot after the current one, it is the current one now
abbrev pub Advances : History → History → Type 0
Advances h h₁ = (m xs : List ℕ) → Roomy h m → length xs ≡ h.width → kept h₁ (with_slot h.width (slot_after (1 + h.steps) h.at 1) xs m) ≡ advanced (kept h m) xs
