-- Two sheets, one of which has a blank line more: if their cells show the same wherever they may, they show the same. Assumes nothing.
use Rattle.std.proofs.Common.{◌≡◌, ℕ, suc, ◌≤◌, ◌⊎◌, None, Option, sym, refl, ap, ◌∙◌, subst, inl, inr, arith}
use Rattle.formula.specs.Formula.{Formula}
use Rattle.evaluate.specs.declared.value.CellError.TheVariants.{Cycle}
use Rattle.evaluate.specs.declared.value.Value.{Value}
use Rattle.evaluate.specs.declared.value.Value.TheVariants.{Empty, Error}
use Rattle.recalc.specs.Sheets.{Sheet, held, cell_shows, shown}
use Rattle.recalc.proofs.Settling.{cycle_or_not}
use Rattle.recalc.proofs.Shown.{shown_is_consistent, only_one}
use Rattle.shift.specs.declared.shift.Axis.{Axis}
use Rattle.shift.specs.declared.shift.Axis.TheVariants.{Row, Column}
use Rattle.shift.specs.declared.shift.Change.TheVariants.{Insert, Delete}
use Rattle.shift.specs.Shifts.{the_shift, by_line, place_from}
use Rattle.shift.proofs.Gaps.{Gap, Bare, with_it, without_it, inserted, deleted, bare_with, bare_without}
use Rattle.shift.proofs.Ranges.{empty}

-- a line of cells that is blank
abbrev pub blank : ℕ → Option Formula
blank j = None

-- what a sheet holds, line by line
abbrev pub lines_of : Axis → Sheet → ℕ → ℕ → Option Formula
lines_of a s = by_line a (held s)

-- big has one line more than small, line p, which is blank; from line n on small is blank; and where all shows the same but for line p, all comes to the same
pub record Twins (a : Axis) (p n : ℕ) (big small : ℕ → ℕ → Option Formula) : Type 0 where
  pub within : p ≤ n
  pub big_ends : Bare blank (suc n) big
  pub small_ends : Bare blank n small
  pub new : (j : ℕ) → big p j ≡ None
  pub alike : (f g : ℕ → ℕ → Value) → Bare empty (suc n) (by_line a f) → Bare empty (suc n) (by_line a g)
      → Gap empty p (by_line a f) (by_line a g) → Gap empty p (λ i j. cell_shows f (big i j)) (λ i j. cell_shows g (small i j))

-- rows and columns exchanged twice are as they were
twice : {A : Type 0} (a : Axis) (f : ℕ → ℕ → A) → by_line a (by_line a f) ≡ f
twice Row f = refl
twice Column f = refl

-- what is shown is what the cells come to
settled : (a : Axis) (s : Sheet) (i j : ℕ) → by_line a (shown s) i j ≡ cell_shows (shown s) (lines_of a s i j)
settled Row s i j = shown_is_consistent s i j
settled Column s i j = shown_is_consistent s j i

-- nothing else is, unless it is a cycle
only : (a : Axis) (s : Sheet) (f : ℕ → ℕ → Value) → ((i j : ℕ) → by_line a f i j ≡ cell_shows f (lines_of a s i j))
    → (i j : ℕ) → (by_line a (shown s) i j ≡ Error Cycle → ⊥) → by_line a f i j ≡ by_line a (shown s) i j
only Row s f e i j = only_one s f e i j
only Column s f e i j = only_one s f (λ r c. e c r) j i

-- a blank cell shows nothing
shows_nothing : (a : Axis) (s : Sheet) (i j : ℕ) → lines_of a s i j ≡ None → by_line a (shown s) i j ≡ Empty
shows_nothing a s i j e = settled a s i j ∙ ap (cell_shows (shown s)) e

-- so do blank lines
pub bare_shown : (a : Axis) (s : Sheet) (m n : ℕ) → Bare blank m (lines_of a s) → m ≤ n → Bare empty n (by_line a (shown s))
bare_shown a s m n b h i j u = shows_nothing a s i j (b i j (omega arith))

-- what big shows at a place and what small shows there: what each would show by the other is what it shows, unless it shows a cycle
same_value : (b s by_s by_b : Value) → by_s ≡ s → b ≡ by_b → ((b ≡ Error Cycle → ⊥) → by_s ≡ b) → ((s ≡ Error Cycle → ⊥) → by_b ≡ s) → b ≡ s
same_value b s by_s by_b e q u v = go (cycle_or_not b) (cycle_or_not s)
  where
    go : (b ≡ Error Cycle) ⊎ (b ≡ Error Cycle → ⊥) → (s ≡ Error Cycle) ⊎ (s ≡ Error Cycle → ⊥) → b ≡ s
    go (inr x) y = sym (u x) ∙ e
    go (inl x) (inl y) = x ∙ sym y
    go (inl x) (inr y) = q ∙ v y

-- each sheet may show what the other shows, with the line inserted or deleted, and so it does
pub show_alike : (a : Axis) (p n : ℕ) (big small : Sheet) → Twins a p n (lines_of a big) (lines_of a small)
    → Gap empty p (by_line a (shown big)) (by_line a (shown small))
show_alike a p n big small t = record {
  below = λ i j u. same_value _ _ _ _ (from_small.below i j u) (from_big.below i j u) (only a big by_small big_may i j) (only a small by_big small_may i j);
  above = λ i j u. same_value _ _ _ _ (from_small.above i j u) (from_big.above i j u) (only a big by_small big_may (suc i) j) (only a small by_big small_may i j);
  here = λ j. shows_nothing a big p j (t.new j);
}
  where
    by_small : ℕ → ℕ → Value
    by_small = place_from Empty (the_shift a Insert p) (shown small)

    by_big : ℕ → ℕ → Value
    by_big = place_from Empty (the_shift a Delete p) (shown big)

    from_small : Gap empty p (by_line a by_small) (by_line a (shown small))
    from_small = subst (λ f. Gap empty p f (by_line a (shown small))) (sym (twice a _)) (inserted (by_line a (shown small)))

    from_big : Gap empty p (by_line a (shown big)) (by_line a by_big)
    from_big = subst (λ g. Gap empty p (by_line a (shown big)) g) (sym (twice a _)) (deleted (by_line a (shown big)) (λ j. shows_nothing a big p j (t.new j)))

    big_bare : Bare empty (suc n) (by_line a (shown big))
    big_bare = bare_shown a big (suc n) (suc n) t.big_ends (omega arith)

    small_bare : (m : ℕ) → n ≤ m → Bare empty m (by_line a (shown small))
    small_bare m = bare_shown a small n m t.small_ends

    big_may : (i j : ℕ) → by_line a by_small i j ≡ cell_shows by_small (lines_of a big i j)
    big_may =
        let bare = bare_with from_small t.within (small_bare n (omega arith)) in
        with_it from_small (t.alike by_small (shown small) bare (small_bare (suc n) (omega arith)) from_small) (settled a small)

    small_may : (i j : ℕ) → by_line a by_big i j ≡ cell_shows by_big (lines_of a small i j)
    small_may =
        let bare = bare_without from_big t.within big_bare in
        without_it from_big (t.alike (shown big) by_big big_bare (λ i j u. bare i j (omega arith)) from_big) (settled a big)
