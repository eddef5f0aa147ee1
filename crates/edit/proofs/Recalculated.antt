-- What an update says of the places of a sheet into which was written. Assumes nothing.
use Rattle.std.proofs.Common.{◌≡◌, ℕ, ◌+◌, ◌*◌, ◌/◌, ◌%◌, ◌<◌, Bool, true, false, cond, ◌&&◌, ◌||◌, eqb, ◌⊎◌, List, [], ◌∷◌, is_some, Option, sym, refl, ap, ◌∙◌, subst, inl, inr, arith}
use mathlib.Core.Path.{fun_ext}
use Rattle.std.proofs.lemmas.Nat.{div-mul-add, mod-mul-add, div-add-mod'}
use Rattle.std.proofs.lemmas.Bool.{and_parts, and_from, eqb-true, eq-eqb, or_cases, or_left, or_right}
use Rattle.formula.specs.declared.token.CellRef.{CellRef}
use Rattle.formula.specs.Formula.{Formula}
use Rattle.formula.specs.Tokens.{the_ref}
use Rattle.evaluate.specs.declared.value.Value.{Value}
use Rattle.evaluate.specs.declared.value.Value.TheVariants.{Empty}
use Rattle.evaluate.specs.Knowledge.{In, here, there}
use Rattle.evaluate.proofs.Places.{in_none}
use Rattle.recalc.specs.declared.formulas.Progress.{Progress}
use Rattle.recalc.specs.Sheets.{Sheet, inside, held, Same, cell_looks}
use Rattle.recalc.specs.Sheets as sheets
use Rattle.recalc.specs.Language.{shown}
use Rattle.recalc.specs.Numbered.{count, number_of, nth_cell, laid, sheet_language}
use Rattle.recalc.specs.Change.{Change, change, Dirty, Updated}
use Rattle.recalc.specs.declared.mark.Mark.{Mark}
use Rattle.recalc.specs.Marks.{is_marked, flag}
use Rattle.recalc.specs.Entries.{by_number}
use Rattle.recalc.specs.Showing.{nth_shown, value_known, values_from, sheet_values, table_shows}
use Rattle.recalc.specs.Shown.{shown_at}
use Rattle.recalc.proofs.Rows.{same_values}
use Rattle.recalc.specs.SheetLaws.{inside_is, number_inside, laid_inside, laid_same}
use Rattle.recalc.proofs.Laid.{shown_laid, nth_shown_is}
use Rattle.recalc.proofs.Shown.{shown_is_consistent, same_shown, laid_by_number}
use Rattle.edit.specs.Writes.{Write, target, written}
use Rattle.edit.specs.Places.{places_from}
use Rattle.edit.specs.Changes.{differs, differs_at, any_differs, told, redone, worked}
use Rattle.edit.specs.Values.{table_differs}
use Rattle.edit.proofs.Places.{same_places}
use Rattle.edit.proofs.Differing.{differs_true, does_differ}

-- one place of a list that shows something else
pub one_differs : (s t : Sheet) (ps : List CellRef) → any_differs s t ps ≡ true → (q : CellRef) × In q ps × (differs_at s t q ≡ true)
one_differs s t [] e = absurd (let z : ◌≡◌ {A = ℕ} 0 1 = cc in omega arith)
one_differs s t (p ∷ ps) e = go (or_cases (differs_at s t p) (any_differs s t ps) e) (one_differs s t ps)
  where
    go : (differs_at s t p ≡ true) ⊎ (any_differs s t ps ≡ true) → (any_differs s t ps ≡ true → (q : CellRef) × In q ps × (differs_at s t q ≡ true))
        → (q : CellRef) × In q (p ∷ ps) × (differs_at s t q ≡ true)
    go (inl e) later = (p, here, e)
    go (inr e) later = let h = later e in (h.0, there h.1, h.2)

-- and a list with such a place
pub differs_in : (s t : Sheet) (ps : List CellRef) (q : CellRef) → In q ps → differs_at s t q ≡ true → any_differs s t ps ≡ true
differs_in s t [] q i e = in_none i
differs_in s t (p ∷ ps) q here e = or_left (differs_at s t p) (any_differs s t ps) e
differs_in s t (p ∷ ps) q (there i) e = or_right (differs_at s t p) (any_differs s t ps) (differs_in s t ps q i e)

-- any other place than the written one holds what it held
pub not_written : (w : Write) (s : Sheet) (r c : ℕ) → target w r c ≡ false → held (written w s) r c ≡ held s r c
not_written w s r c e = rw e

-- two tests that hold together
same_test : (a b : Bool) → (a ≡ true → b ≡ true) → (b ≡ true → a ≡ true) → a ≡ b
same_test true b f g = sym (f refl)
same_test false true f g = g refl
same_test false false f g = refl

-- two tests in the other order
swap : (a b c : Bool) → a ≡ c → (a && b) ≡ (b && c)
swap true true c e = e
swap true false c e = refl
swap false true c e = e
swap false false c e = refl

-- what the cells showed is known, and which one was written
pub record Noted (w : Write) (s : Sheet) (old : ℕ → Value) (hit : ℕ → Bool) : Type 0 where
  pub was : (k : ℕ) → k < count s → old k ≡ nth_shown s k
  pub at_most : (k : ℕ) → hit k ≡ true → k ≡ w.row * s.cols + w.col
  pub at_least : hit (w.row * s.cols + w.col) ≡ true
  pub within : inside s w.row w.col ≡ true

-- a sheet of the same size that holds at each place what the written one holds
module _ (w : Write) (s : Sheet) (cells : ℕ → ℕ → Option Formula) where
  -- that sheet
  abbrev pub sheet_now : Sheet
  sheet_now = record { rows = s.rows; cols = s.cols; cells = cells }

  module _ (holds : (r c : ℕ) → held sheet_now r c ≡ held (written w s) r c) where
    -- the two are the same
    pub same : Same sheet_now (written w s)
    same = record { rows = refl; cols = refl; cells = holds }

    -- what a place shows, by its number
    place_shows : (q : CellRef) → inside s q.row q.col ≡ true → shown (sheet_language sheet_now) (number_of s q) ≡ shown_at (written w s) q
    place_shows q i =
        sym (shown_laid sheet_now q.row q.col ∙ laid_inside sheet_now (shown (sheet_language sheet_now)) q i)
        ∙ same_shown sheet_now (written w s) same q.row q.col

    module _ (old : ℕ → Value) (hit : ℕ → Bool) (noted : Noted w s old hit) where
      -- what was noted is what the places showed
      was_laid : laid sheet_now old ≡ sheets.shown s
      was_laid =
          fun_ext (λ r. fun_ext (λ c. laid_same s (nth_shown s) old (the_ref r c) (λ i. noted.was (r * s.cols + c) (number_inside s (the_ref r c) i))))
          ∙ laid_by_number s (sheets.shown s) (shown_is_consistent s)

      -- so it is place by place
      place_showed : (q : CellRef) → inside s q.row q.col ≡ true → old (number_of s q) ≡ shown_at s q
      place_showed q i = sym (laid_inside s old q i) ∙ ap (λ (f : ℕ → ℕ → Value). f q.row q.col) was_laid

      -- a place that shows something else is inside
      differs_inside : (q : CellRef) → differs_at s (written w s) q ≡ true → inside s q.row q.col ≡ true
      differs_inside q e = go (inside s q.row q.col) refl
        where
          empty : (x : Sheet) → inside x q.row q.col ≡ false → shown_at x q ≡ Empty
          empty x d = shown_laid x q.row q.col ∙ ap (λ b. cond b (shown (sheet_language x) (number_of x q)) Empty) d

          go : (b : Bool) → inside s q.row q.col ≡ b → inside s q.row q.col ≡ true
          go true d = d
          go false d = absurd (does_differ (shown_at (written w s) q) (shown_at s q) e (empty (written w s) d ∙ sym (empty s d)))

      -- where a cell that was not written looked
      looked_is : (k : ℕ) → target w (k / s.cols) (k % s.cols) ≡ false
          → cell_looks (laid sheet_now old) (nth_cell sheet_now k) ≡ cell_looks (sheets.shown s) (nth_cell s k)
      looked_is k e =
          ap (λ (f : ℕ → ℕ → Value). cell_looks f (nth_cell sheet_now k)) was_laid
          ∙ ap (cell_looks (sheets.shown s)) (holds (k / s.cols) (k % s.cols) ∙ not_written w s (k / s.cols) (k % s.cols) e)

      -- the number of the written place
      target_is : (k : ℕ) → k ≡ w.row * s.cols + w.col → target w (k / s.cols) (k % s.cols) ≡ true
      target_is k e =
          let l = (inside_is s w.row w.col noted.within).1 in
          let row = ap (λ i. i / s.cols) e ∙ div-mul-add w.row s.cols w.col l in
          let col = ap (λ i. i % s.cols) e ∙ mod-mul-add w.row s.cols w.col l in
          and_from (eqb (k / s.cols) w.row) (eqb (k % s.cols) w.col) (eq-eqb (k / s.cols) w.row row) (eq-eqb (k % s.cols) w.col col)

      -- and the other way round
      is_target : (k : ℕ) → target w (k / s.cols) (k % s.cols) ≡ true → k ≡ w.row * s.cols + w.col
      is_target k e =
          let t = and_parts (eqb (k / s.cols) w.row) (eqb (k % s.cols) w.col) e in
          sym (div-add-mod' k s.cols)
          ∙ ap (λ i. i * s.cols + k % s.cols) (eqb-true (k / s.cols) w.row t.0)
          ∙ ap (λ i. w.row * s.cols + i) (eqb-true (k % s.cols) w.col t.1)

      -- a cell that is written, or that looked at a place that shows something else
      abbrev again : ℕ → Bool
      again k = target w (k / s.cols) (k % s.cols) || any_differs s (written w s) (cell_looks (sheets.shown s) (nth_cell s k))

      -- the change as the engine has it
      abbrev the_change : Change
      the_change = change (sheet_language sheet_now) old hit

      -- what is dirty is worked out again
      dirty_again : (k : ℕ) → Dirty the_change k → again k ≡ true
      dirty_again k (inl e) = or_left (target w (k / s.cols) (k % s.cols)) _ (target_is k (noted.at_most k e))
      dirty_again k (inr (j, (q, i, within, e), other)) = go (target w (k / s.cols) (k % s.cols)) refl
        where
          go : (b : Bool) → target w (k / s.cols) (k % s.cols) ≡ b → again k ≡ true
          go true d = or_left (target w (k / s.cols) (k % s.cols)) _ d
          go false d =
              or_right (target w (k / s.cols) (k % s.cols)) (any_differs s (written w s) (cell_looks (sheets.shown s) (nth_cell s k)))
              (differs_in s (written w s) (cell_looks (sheets.shown s) (nth_cell s k)) q (subst (In q) (looked_is k d) i)
              (differs_true (shown_at (written w s) q) (shown_at s q)
              (λ z. other (ap (shown (sheet_language sheet_now)) (sym e) ∙ place_shows q within ∙ z ∙ sym (place_showed q within) ∙ ap old e))))

      -- and what is worked out again is dirty
      again_dirty : (k : ℕ) → again k ≡ true → Dirty the_change k
      again_dirty k e = go (target w (k / s.cols) (k % s.cols)) refl
        where
          looked : target w (k / s.cols) (k % s.cols) ≡ false → (q : CellRef) × In q (cell_looks (sheets.shown s) (nth_cell s k)) × (differs_at s (written w s) q ≡ true)
              → Dirty the_change k
          looked d (q, i, o) =
              let within = differs_inside q o in
              inr (
                number_of s q,
                (q, subst (In q) (sym (looked_is k d)) i, within, refl),
                λ z. does_differ (shown_at (written w s) q) (shown_at s q) o (sym (place_shows q within) ∙ z ∙ place_showed q within),
              )

          go : (b : Bool) → target w (k / s.cols) (k % s.cols) ≡ b → Dirty the_change k
          go true d = inl (ap hit (is_target k d) ∙ noted.at_least)
          go false d =
              looked d (one_differs s (written w s) (cell_looks (sheets.shown s) (nth_cell s k))
              (ap (λ b. b || any_differs s (written w s) (cell_looks (sheets.shown s) (nth_cell s k))) (sym d) ∙ e))

      module _ (t : List Progress) (d : List Mark) (up : Updated the_change t d) where
        -- the table has what the written sheet shows
        table_is : (k : ℕ) → k < count s → table_shows t k ≡ nth_shown sheet_now k
        table_is k l = ap value_known (up.known k l) ∙ nth_shown_is sheet_now k l

        -- and the sheet afterwards shows that too
        now_shows : (k : ℕ) → nth_shown sheet_now k ≡ nth_shown (written w s) k
        now_shows k = same_shown sheet_now (written w s) same (k / s.cols) (k % s.cols)

        -- so the places where the table differs are those that are told
        pub changed_told : places_from s.cols (table_differs t old) 0 (count s) ≡ told s (written w s)
        changed_told =
            same_places s.cols (table_differs t old) (by_number s.cols (λ r c. differs (sheets.shown (written w s) r c) (sheets.shown s r c))) 0 (count s)
            (λ k a b. let l : k < count s = omega arith in
            ap (λ v. differs v (old k)) (table_is k l ∙ now_shows k) ∙ ap (differs (nth_shown (written w s) k)) (noted.was k l))

        -- the marks are at what is worked out again
        marked_is : (k : ℕ) → k < count s → flag d k ≡ again k
        marked_is k l = same_test (flag d k) (again k) (λ e. dirty_again k (up.only k e)) (λ e. ap is_marked (up.all k l (again_dirty k e)))

        -- so the marked formulas are those that are worked out again
        pub marked_worked : (test : ℕ → Bool) → ((k : ℕ) → k < count s → test k ≡ (flag d k && is_some (nth_cell sheet_now k))) → places_from s.cols test 0 (count s) ≡ worked w s
        marked_worked test e =
            same_places s.cols test (by_number s.cols (redone w s (written w s))) 0 (count s)
            (λ k a b. let l : k < count s = omega arith in
            e k l ∙ ap (λ o. flag d k && is_some o) (holds (k / s.cols) (k % s.cols)) ∙ swap (flag d k) (is_some (nth_cell (written w s) k)) (again k) (marked_is k l))

        -- and the values of the table are those of the sheet
        pub values_shown : values_from (table_shows t) 0 (count s) ≡ sheet_values sheet_now
        values_shown =
            same_values (table_shows t) (nth_shown sheet_now) 0 (count s) (λ k a b. table_is k (omega arith))
