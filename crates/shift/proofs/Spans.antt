-- Which lines a range has after a change. Assumes nothing.
use Rattle.std.proofs.Common.{◌≡◌, ℕ, ◌+◌, ◌<◌, Bool, true, false, Some, None, sym, refl, ap, ◌∙◌, subst, inl, inr, arith}
use Rattle.std.proofs.lemmas.Bool.Decides.{nat_tests}
use Rattle.std.proofs.lemmas.Bool.{cases_lt}
use Rattle.formula.specs.declared.token.Range.{Range}
use Rattle.shift.specs.declared.shift.Axis.{Axis}
use Rattle.shift.specs.declared.shift.Axis.TheVariants.{Row, Column}
use Rattle.shift.specs.declared.shift.Change.{Change}
use Rattle.shift.specs.declared.shift.Change.TheVariants.{Insert, Delete}
use Rattle.shift.specs.declared.shift.Shift.{Shift}
use Rattle.shift.specs.declared.shift.Span.{Span}
use Rattle.shift.specs.Lines.{line_to, lines_lost, lines_to}
use Rattle.shift.specs.Shifts.{the_shift, unless, range_after}
use Rattle.shift.specs.Laws.{Iff, span_of, crossing, Has, Between, RangeInserted, RangeDeleted}
use Rattle.shift.proofs.Gaps.{far}
use Rattle.shift.proofs.Ranges.{range_to, lost_or_moved}

-- a span afterwards, if it is not lost
abbrev span_to : Change → ℕ → Span → Span
span_to h p s = record { first = line_to h p s.first; count = lines_to h p s.first s.count }

-- after an insertion it has the moved lines and no other of the old ones
has_inserted : (p : ℕ) (s : Span) → s.first + s.count < far → (i : ℕ) → Iff (Has s i) (Has (span_to Insert p s) (line_to Insert p i))
has_inserted p s h i = ((λ q. (grind (arith, nat_tests), grind (arith, nat_tests))), (λ q. (grind (arith, nat_tests), grind (arith, nat_tests))))

-- and the new line if that stands between two of them
has_new : (p : ℕ) (s : Span) → s.first + s.count < far → Iff (Between p s) (Has (span_to Insert p s) p)
has_new p s h = (forth, back)
  where
    forth : Between p s → Has (span_to Insert p s) p
    forth q = (grind (arith, nat_tests), grind (arith, nat_tests))

    back : Has (span_to Insert p s) p → Between p s
    back q =
        let u : s.first < p = grind (arith, nat_tests) in
        let v : p < s.first + s.count = grind (arith, nat_tests) in
        ((s.first, (omega arith, omega arith), u), (p, (omega arith, v), omega arith))

-- after a deletion it has the moved lines and no other
has_deleted : (p : ℕ) (s : Span) (i : ℕ) → (i ≡ p → ⊥) → Iff (Has s i) (Has (span_to Delete p s) (line_to Delete p i))
has_deleted p s i e = ((λ q. (grind (arith, nat_tests), grind (arith, nat_tests))), (λ q. (grind (arith, nat_tests), grind (arith, nat_tests))))

-- it is lost if it had that line alone
alone : (p : ℕ) (s : Span) → Iff (lines_lost Delete p s.first s.count ≡ true) ((i : ℕ) → Iff (Has s i) (i ≡ p))
alone p s = (forth, back)
  where
    forth : lines_lost Delete p s.first s.count ≡ true → (i : ℕ) → Iff (Has s i) (i ≡ p)
    forth e i =
        let u : s.first ≡ p = grind (arith, nat_tests) in
        let v : s.count ≡ 1 = grind (arith, nat_tests) in
        ((λ q. omega arith), (λ q. (omega arith, omega arith)))

    back : ((i : ℕ) → Iff (Has s i) (i ≡ p)) → lines_lost Delete p s.first s.count ≡ true
    back q =
        let has : Has s p = (q p).1 refl in
        let first : s.first ≡ p = (q s.first).0 (omega arith, omega arith) in
        let second : 1 < s.count → s.first + 1 ≡ p = λ h. (q (s.first + 1)).0 (omega arith, omega arith) in
        elim (cases_lt 1 s.count) [ inl h ↦ absurd (omega (arith, second h)) | inr h ↦ grind (arith, nat_tests) ]

-- what is lost is None
unless_none : {A : Type 0} (b : Bool) (x : A) → Iff (unless b x ≡ None) (b ≡ true)
unless_none true x = ((λ e. refl), (λ e. refl))
unless_none false x = ((λ e. absurd (grind arith)), (λ e. absurd (grind arith)))

-- and what is not lost is there
unless_some : {A : Type 0} (b : Bool) (x y : A) → unless b x ≡ Some y → x ≡ y
unless_some true x y e = absurd (grind arith)
unless_some false x y e = cc

-- a range afterwards: its lines along the axis and across it
spans : (a : Axis) (h : Change) (p : ℕ) (b : Range)
    → (span_of a (range_to (the_shift a h p) b) ≡ span_to h p (span_of a b)) × (span_of (crossing a) (range_to (the_shift a h p) b) ≡ span_of (crossing a) b)
spans Row h p b = (refl, refl)
spans Column h p b = (refl, refl)

-- whether the lines of a range are lost, if the change is h
abbrev lost : Shift → Range → Change → Bool
lost d b h = lines_lost h d.line (span_of d.axis b).first (span_of d.axis b).count

-- and what they are afterwards
abbrev now : Shift → Range → Change → Span
now d b h = span_to h d.line (span_of d.axis b)

-- a range afterwards, where it is known what the change is
range_now : (d : Shift) (b : Range) (h : Change) → d.change ≡ h
    → (range_after d b ≡ unless (lost d b h) (range_to d b))
    × (span_of d.axis (range_to d b) ≡ now d b h)
    × (span_of (crossing d.axis) (range_to d b) ≡ span_of (crossing d.axis) b)
range_now d b h e =
    let lines = spans d.axis d.change d.line b in
    (lost_or_moved d.axis d.change d.line b ∙ ap (λ g. unless (lost d b g) (range_to d b)) e, lines.0 ∙ ap (now d b) e, lines.1)

-- the lines of a range after an insertion
pub range_inserted : RangeInserted
range_inserted d b e h =
    let t = range_now d b Insert e in
    let s = span_of d.axis b in (
      range_to d b,
      t.0,
      t.2,
      (λ i. subst (λ x. Iff (Has s i) (Has x (line_to Insert d.line i))) (sym t.1) (has_inserted d.line s h i)),
      subst (λ x. Iff (Between d.line s) (Has x d.line)) (sym t.1) (has_new d.line s h),
    )

-- and after a deletion
pub range_deleted : RangeDeleted
range_deleted d b e =
    let t = range_now d b Delete e in
    let s = span_of d.axis b in
    let none = unless_none (lost d b Delete) (range_to d b) in
    let only = alone d.line s in
    let there : (x : Range) → range_after d b ≡ Some x → range_to d b ≡ x = λ x q. unless_some (lost d b Delete) (range_to d b) x (sym t.0 ∙ q) in
    let lines : (x : Range) → range_to d b ≡ x → now d b Delete ≡ span_of d.axis x = λ x q. sym t.1 ∙ ap (span_of d.axis) q in (
      ((λ q. only.0 (none.0 (sym t.0 ∙ q))), (λ q. t.0 ∙ none.1 (only.1 q))),
      (λ x q. (
        sym (ap (span_of (crossing d.axis)) (there x q)) ∙ t.2,
        (λ i k. subst (λ y. Iff (Has s i) (Has y (line_to Delete d.line i))) (lines x (there x q)) (has_deleted d.line s i k)),
      )),
    )
