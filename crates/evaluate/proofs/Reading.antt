-- What a reader of cells does, one piece of work after the other. Assumes nothing.
use Rattle.std.proofs.Common.{◌≡◌, ℕ, ◌+◌, ◌-◌, ◌<◌, ◌≤◌, Some, None, Ok, Err, Option, Result, sym, refl, ◌∙◌, ap, subst, Bor, arith}
use Rattle.std.specs.Option.{ok_or}
use Rattle.std.specs.Result.{IsErrAnd}
use Rattle.std.proofs.lemmas.Result.{err_from_is_err_and}
use Rattle.formula.specs.declared.token.CellRef.{CellRef}
use Rattle.evaluate.specs.declared.value.CellError.{CellError}
use Rattle.evaluate.specs.declared.value.CellError.TheVariants.{Lost}
use Rattle.evaluate.specs.declared.value.Value.{Value}
use Rattle.evaluate.specs.declared.value.Value.TheVariants.{Empty, Number, Error}
use Rattle.evaluate.specs.declared.stop.Stop.{Stop}
use Rattle.evaluate.specs.declared.stop.Stop.TheVariants as stop
use Rattle.evaluate.specs.declared.reader.Reader.{Reader}
use Rattle.evaluate.specs.Sheets.{Sheet}
use Rattle.evaluate.specs.Traces.{Trace, ends, seen, look, bind, then, each}
use Rattle.evaluate.specs.Tallies.{Tally}
use Rattle.evaluate.specs.Evaluation.{counted}
use Rattle.evaluate.specs.Trails.{Log, Follows}
use Rattle.evaluate.specs.Reads.{Reads}
use Rattle.evaluate.proofs.Trails.{follows_ends, follows_then, follows_stop, follows_same, follows_at, follows_went, follows_stopped, follows_ended}
use Rattle.evaluate.proofs.Clipped.{Alike, follows_alike}

-- work, from what the cells show
abbrev pub Work : Type 0 → Type 0
Work A = (ℕ → ℕ → Option Value) → Trace A

-- an error that was passed on
pub passed_on : {A : Type 0} (r : Result A Stop) (x : Stop) → IsErrAnd r (λ y. y ≡ x) → r ≡ Err x
passed_on r x e = let p = err_from_is_err_and r e in p.1 ∙ ap Err p.2

-- an empty cell, a number or a stop is gone on with
seen_on : {A : Type 0} (p : CellRef) (go : Option ℕ → A) (v : Option Value) → seen p v go ≡ bind (seen p v (λ n. n)) (λ n. Ok (go n))
seen_on p go None = refl
seen_on p go (Some Empty) = refl
seen_on p go (Some (Number n)) = refl
seen_on p go (Some (Error e)) = refl

module _ {C T : Type 0} {sheet : C → Sheet} {log : T → Log} where
  -- what was done second was done from the cells that were read first
  second : {A : Type 0} (t : Work A) {r : Result A Stop} (before : Reader C T) {mid after : Reader C T} → mid.cells ≡ before.cells → Reads sheet log t r mid after
      → Follows (sheet before.cells.now).height (sheet before.cells.now).width (t (sheet before.cells.now).shown) r (log mid.trail) (log after.trail)
  second t {r} before {mid} {after} e x =
      subst (λ (k : Bor C). Follows (sheet k.now).height (sheet k.now).width (t (sheet k.now).shown) r (log mid.trail) (log after.trail)) e x.follows

  pub reads_ends : {A : Type 0} (k : Reader C T) (r : Result A Stop) → Reads sheet log (λ f. ends r) r k k
  reads_ends k r = record { same = refl; follows = follows_ends (log k.trail) r }

  pub reads_same : {A : Type 0} {t : Work A} {before after : Reader C T} {q : Result A Stop} (r : Result A Stop) → r ≡ q → Reads sheet log t q before after → Reads sheet log t r before after
  reads_same r e x = record { same = x.same; follows = follows_same r e x.follows }

  module _ {before after : Reader C T} where
    pub reads_on : {A : Type 0} (p : CellRef) (go : Option ℕ → A) (r : Result (Option ℕ) Stop) → Reads sheet log (λ f. look f p (λ n. n)) r before after
        → Reads sheet log (λ f. look f p go) (bind r (λ n. Ok (go n))) before after
    reads_on p go r x =
        let e = x.follows.end in
        record {
          same = x.same;
          follows = record { end = rw e (sym (seen_on p go ((sheet before.cells.now).shown p.row p.col))); trail = x.follows.trail };
        }

    pub reads_then : {A B : Type 0} (t : Work A) (go : A → Work B) (a : A) (r : Result B Stop) (mid : Reader C T) → Reads sheet log t (Ok a) before mid
        → Reads sheet log (go a) r mid after → Reads sheet log (λ f. then (t f) (λ b. go b f)) r before after
    reads_then t go a r mid x y =
        record { same = y.same ∙ x.same; follows = follows_then (t (sheet before.cells.now).shown) _ a r (log mid.trail) x.follows (second (go a) before x.same y) }

    pub reads_stop : {A B : Type 0} (t : Work A) (go : A → Work B) (x : Stop) → Reads sheet log t (Err x) before after
        → Reads sheet log (λ f. then (t f) (λ b. go b f)) (Err x) before after
    reads_stop t go x s = record { same = s.same; follows = follows_stop (t (sheet before.cells.now).shown) _ x s.follows }

    pub reads_alike : {A : Type 0} (t u : Work A) (r : Result A Stop)
        → Alike (sheet before.cells.now).height (sheet before.cells.now).width (t (sheet before.cells.now).shown) (u (sheet before.cells.now).shown)
        → Reads sheet log u r before after → Reads sheet log t r before after
    reads_alike t u r a x = record { same = x.same; follows = follows_alike _ _ a x.follows }

  -- where a reference is lost there is nothing to look at
  pub lost_before : {X : Type 0} (t : Option X → Work ℕ) → ((f : ℕ → ℕ → Option Value) → t None f ≡ ends (Err (stop.Error Lost))) → {k : Reader C T} (o : Option X) (e : CellError) (r : Result ℕ Stop)
      → Err e ≡ ok_or o Lost → IsErrAnd r (λ y. y ≡ stop.Error e) → Reads sheet log (t o) r k k
  lost_before t none {k} None e r is passed =
      let l : e ≡ Lost = cc in
      let n = none (sheet k.cells.now).shown in
      record { same = refl; follows = follows_at (t None (sheet k.cells.now).shown) n (follows_same r (passed_on r (stop.Error e) passed ∙ ap (λ d. Err (stop.Error d)) l) (follows_ends (log k.trail) (Err (stop.Error Lost)))) }
  lost_before t none (Some x) e r is passed = absurd (cc)

  -- lines gone through up to line e, of which line i is the next
  module _ {A : Type 0} (line : (ℕ → ℕ → Option Value) → ℕ → A → Trace A) (i e : ℕ) (a : A) where
    pub reads_went : {before after : Reader C T} (b : A) (r : Result A Stop) (mid : Reader C T) → i < e → Reads sheet log (λ f. line f i a) (Ok b) before mid
        → Reads sheet log (λ f. each (line f) (i + 1) (e - (i + 1)) b) r mid after → Reads sheet log (λ f. each (line f) i (e - i) a) r before after
    reads_went {before} b r mid l x y =
        record {
          same = y.same ∙ x.same;
          follows = follows_went (line (sheet before.cells.now).shown) i e a b r (log mid.trail) l x.follows (second (λ f. each (line f) (i + 1) (e - (i + 1)) b) before x.same y);
        }

    pub reads_stopped : {before after : Reader C T} (x : Stop) → i < e → Reads sheet log (λ f. line f i a) (Err x) before after
        → Reads sheet log (λ f. each (line f) i (e - i) a) (Err x) before after
    reads_stopped {before} x l s = record { same = s.same; follows = follows_stopped (line (sheet before.cells.now).shown) i e a x l s.follows }

    pub reads_ended : (k : Reader C T) → e ≤ i → Reads sheet log (λ f. each (line f) i (e - i) a) (Ok a) k k
    reads_ended k l = record { same = refl; follows = follows_ended (line (sheet k.cells.now).shown) i e a (log k.trail) l }

-- a cell adds at most one number
pub counted_count : (t : Tally) (n : Option ℕ) → (counted t n).count ≤ t.count + 1
counted_count t None = omega arith
counted_count t (Some n) = omega arith
