-- Work that looks at cells, one after the other. Assumes nothing: these are definitions.
use Rattle.std.specs.Prelude.{ℕ, zero, suc, List, [], ◌∷◌, ◌++◌, Some, None, Ok, Err, Option, Result}
use Rattle.formula.specs.declared.token.CellRef.{CellRef}
use Rattle.evaluate.specs.declared.value.Value.{Value}
use Rattle.evaluate.specs.declared.value.Value.TheVariants.{Empty, Number, Error}
use Rattle.evaluate.specs.declared.stop.Stop.{Stop}
use Rattle.evaluate.specs.declared.stop.Stop.TheVariants as stop

-- the places looked at, in order, and how the work ended
pub record Trace (A : Type 0) : Type 0 where
  pub looks : List CellRef
  pub end : Result A Stop

-- at once, without a look
abbrev pub ends : {A : Type 0} → Result A Stop → Trace A
ends o = record { looks = []; end = o }

-- go on with a number or with an empty cell; an error ends the work, and so does a cell that is not known yet
abbrev pub seen : {A : Type 0} → CellRef → Option Value → (Option ℕ → A) → Result A Stop
seen p None go = Err (stop.Needs p)
seen p (Some Empty) go = Ok (go None)
seen p (Some (Number n)) go = Ok (go (Some n))
seen p (Some (Error e)) go = Err (stop.Error e)

-- one look at a cell
abbrev pub look : {A : Type 0} → (ℕ → ℕ → Option Value) → CellRef → (Option ℕ → A) → Trace A
look f p go = record { looks = p ∷ []; end = seen p (f p.row p.col) go }

abbrev pub bind : {A B : Type 0} → Result A Stop → (A → Result B Stop) → Result B Stop
bind (Ok a) go = go a
bind (Err e) go = Err e

abbrev pub looks_on : {A : Type 0} → Result A Stop → (A → List CellRef) → List CellRef
looks_on (Ok a) go = go a
looks_on (Err e) go = []

-- one piece of work after another; nothing is looked at after what ended it
abbrev pub then : {A B : Type 0} → Trace A → (A → Trace B) → Trace B
then t go = record { looks = t.looks ++ looks_on t.end (λ a. (go a).looks); end = bind t.end (λ a. (go a).end) }

-- n lines from line i on, one after the other
unfoldable pub each : {A : Type 0} → (ℕ → A → Trace A) → ℕ → ℕ → A → Trace A
each line i zero a = ends (Ok a)
each line i (suc n) a = then (line i a) (λ b. each line (suc i) n b)
