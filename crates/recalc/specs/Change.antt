-- What a change to one cell makes dirty, and the tables by which that is found. Assumes nothing: these are definitions.
use Rattle.std.specs.Prelude.{◌≡◌, ℕ, ◌+◌, ◌<◌, ◌≤◌, Bool, true, ◌⊎◌, List, [], ◌∷◌, length, ◌≢◌, slice_index, slice_set}
use Rattle.evaluate.specs.declared.value.Value.{Value}
use Rattle.recalc.specs.declared.mark.Mark.{Mark}
use Rattle.recalc.specs.declared.mark.Mark.TheVariants as mark
use Rattle.recalc.specs.declared.formulas.Progress.{Progress}
use Rattle.recalc.specs.declared.formulas.Progress.TheVariants.{Waiting, Open, Known}
use Rattle.recalc.specs.Language.{Language, shown}
use Rattle.recalc.specs.Table.{at, Right, Later, waiting}
use Rattle.recalc.specs.Marks.{mark_at, flag}

-- what the cells showed, what they show, what each comes to by what was shown, which cells each looks at by the one and by the other, and which were written
pub record Change : Type 1 where
  pub n : ℕ
  pub before : ℕ → Value
  pub after : ℕ → Value
  pub redone : ℕ → Value
  pub looked : ℕ → ℕ → Type 0
  pub looks : ℕ → ℕ → Type 0
  pub written : ℕ → Bool

abbrev pub change : Language → (ℕ → Value) → (ℕ → Bool) → Change
change l before written =
    record { n = l.count; before = before; after = shown l; redone = l.work before; looked = l.looks before; looks = l.looks (shown l); written = written }

-- a cell is dirty if it is written, or a cell that it looked at shows something else now
abbrev pub Dirty : Change → ℕ → Type 0
Dirty x k = (x.written k ≡ true) ⊎ ((j : ℕ) × (x.looked k j) × (x.after j ≢ x.before j))

-- cell k is marked, or it is not dirty and comes to the same by what was shown and by what is
abbrev pub Decided : Change → List Mark → ℕ → Type 0
Decided x w k = (flag w k ≡ true) ⊎ ((Dirty x k → ⊥) × (x.redone k ≡ x.after k))

-- t has what is known, v those of it that show what they showed, w marks what is dirty, and s is the stack
pub record Good (x : Change) (t v : List Progress) (w : List Mark) (s : List ℕ) : Type 0 where
  pub t_size : length t ≡ x.n
  pub v_size : length v ≡ x.n
  pub w_size : length w ≡ x.n
  pub right : Right x.after t
  pub kept_right : Right x.after v
  pub kept_same : Right x.before v
  pub kept_all : (k : ℕ) → at t k ≡ Known (x.before k) → at v k ≡ Known (x.before k)
  -- there is room on the stack for each cell that waits
  pub room : waiting t + length s ≤ length t
  pub within : (i : ℕ) → i < length s → slice_index s i < x.n
  pub opened : (k i : ℕ) → at t k ≡ Open i → (i < length s) × (slice_index s i ≡ k)
  pub started : (i : ℕ) → i < length s → at t (slice_index s i) ≢ Waiting
  pub apart : (i j : ℕ) → i < j → j < length s → slice_index s i ≢ slice_index s j
  pub chain : (i : ℕ) → i + 1 < length s → x.looks (slice_index s i) (slice_index s (i + 1))
  pub written_dirty : (k : ℕ) → k < x.n → x.written k ≡ true → flag w k ≡ true
  pub sound : (k : ℕ) → flag w k ≡ true → Dirty x k
  pub decided : (k : ℕ) → (at t k ≢ Waiting) → ((i : ℕ) → i < length s → slice_index s i ≢ k) → Decided x w k
  -- a cell is worked out again only once, and before it leaves the stack
  pub waits : (k : ℕ) → at t k ≡ Waiting → mark_at w k ≢ mark.Recalculated
  pub unfinished : (i : ℕ) → i < length s → mark_at w (slice_index s i) ≢ mark.Recalculated
  pub finished : (k : ℕ) → (at t k ≢ Waiting) → ((i : ℕ) → i < length s → slice_index s i ≢ k) → mark_at w k ≢ mark.Dirty

-- c noted as what cell k shows, where the cells showed before: kept if that is what it showed
abbrev pub Kept : (ℕ → Value) → ℕ → Value → List Progress → List Progress → Type 0
Kept before k c v v₁ = ((c ≡ before k) × (v₁ ≡ slice_set v k (Known c))) ⊎ ((c ≢ before k) × (v₁ ≡ v))

abbrev pub weight : Progress → ℕ
weight Waiting = 3
weight (Open i) = 1
weight (Known v) = 0

unfoldable pub load : List Progress → ℕ
load [] = 0
load (p ∷ t) = weight p + load t

abbrev pub unmarked_one : Mark → ℕ
unmarked_one mark.Clean = 1
unmarked_one mark.Dirty = 0
unmarked_one mark.Recalculated = 0

unfoldable pub unmarked : List Mark → ℕ
unmarked [] = 0
unmarked (m ∷ w) = unmarked_one m + unmarked w

-- falls with each step
abbrev pub toil : List Progress → List Mark → List ℕ → ℕ
toil t w s = load t + unmarked w + length s

pub record Stepped (x : Change) (t : List Progress) (w : List Mark) (s : List ℕ) (t₁ v₁ : List Progress) (w₁ : List Mark) (s₁ : List ℕ) : Type 0 where
  pub good : Good x t₁ v₁ w₁ s₁
  pub later : Later t t₁
  pub less : toil t₁ w₁ s₁ < toil t w s

-- every cell is known as it is shown, and those were worked out again that are dirty
pub record Updated (x : Change) (t : List Progress) (w : List Mark) : Type 0 where
  pub size : length t ≡ x.n
  pub known : (k : ℕ) → k < x.n → at t k ≡ Known (x.after k)
  pub marks : length w ≡ x.n
  pub only : (k : ℕ) → flag w k ≡ true → Dirty x k
  pub all : (k : ℕ) → k < x.n → Dirty x k → mark_at w k ≡ mark.Recalculated
  pub same : (k : ℕ) → k < x.n → (Dirty x k → ⊥) → x.redone k ≡ x.before k → x.after k ≡ x.before k
