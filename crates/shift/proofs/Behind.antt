-- The entries from the line of a shift on: which comes to each place, and that it is not overwritten before it is moved. Assumes nothing.
use Rattle.std.proofs.Common.{◌≡◌, ℕ, ◌+◌, ◌-◌, ◌*◌, ◌<◌, ◌≤◌, max, ◌⊎◌, Some, None, Option, refl, ap, subst, inl, inr, mul-le-mul_left, mul-suc, mul-add, arith}
use Rattle.std.specs.Option.{option_map}
use Rattle.evaluate.specs.Limits.{max_cells}
use Rattle.shift.specs.declared.reshape.Reshape.{Reshape}
use Rattle.shift.specs.declared.shift.Change.{Change}
use Rattle.shift.specs.declared.shift.Change.TheVariants.{Insert, Delete}
use Rattle.shift.specs.Entries.{cells_of, size_after, Within, origin, first_entry, left_behind, most_behind, origin_behind}
use Rattle.shift.proofs.Origins.{Toward, Origin, origins, few_cells, first_left}

-- an entry that comes to stand at number i, if any, comes from there or from where the change pushes entries away from
abbrev pub Comes : Change → Option ℕ → ℕ → Type 0
Comes h None i = Unit {0}
Comes h (Some j) i = Toward h j i

toward_behind : (h : Change) (j k f i : ℕ) → Toward h j k → k ≡ f + i → f ≤ j → Toward h (j - f) i
toward_behind Insert j k f i t e l = omega arith
toward_behind Delete j k f i t e l = omega arith

-- a whole entry before number m
entry_fits : (len j m n : ℕ) → j < m → len * m ≤ n → len * j + len ≤ n
entry_fits len j m n l room = omega (arith, mul-suc len j, mul-le-mul_left len l)

-- what is needed to put entry i of those from the line on, in a part of n numbers
pub record Behind (r : Reshape) (len n i : ℕ) : Type 0 where
  pub within : Within len (origin_behind r.shift r.size i) n
  pub comes : Comes r.shift.change (origin_behind r.shift r.size i) i
  pub room : len * i + len ≤ n

pub behinds : (r : Reshape) (len n i : ℕ) → i < left_behind r.shift r.size → len * most_behind r.shift r.size ≤ n → Behind r len n i
behinds r len n i l room = go (origins r.shift r.size (first + i) r.shiftable (omega arith))
  where
    first : ℕ
    first = first_entry r.shift r.size

    few : cells_of r.size ≤ max_cells
    few = (few_cells r.shift r.size r.shiftable).0

    fits : len * i + len ≤ n
    fits = entry_fits len i (most_behind r.shift r.size) n (omega arith) room

    go : ((j : ℕ) × Origin r.shift r.size (first + i) j) ⊎ ((origin r.shift r.size (first + i) ≡ None) × (r.shift.change ≡ Insert)) → Behind r len n i
    go (inl (j, o)) =
        let b : first ≤ j = o.behind (omega arith) in
        let is : origin_behind r.shift r.size i ≡ Some (j - first) = ap (option_map (λ k. k - first)) o.is in
        let q = o.inside in
        record {
          within = rw is (let f = few in omega arith, entry_fits len (j - first) (most_behind r.shift r.size) n (omega arith) room);
          comes = rw is (toward_behind r.shift.change j (first + i) first i o.toward refl b);
          room = fits;
        }
    go (inr (e, h)) =
        let is : origin_behind r.shift r.size i ≡ None = ap (option_map (λ k. k - first)) e in
        record { within = rw is tt; comes = rw is tt; room = fits }

-- an entry that comes from another one, which is whole
pub whole_origin : (r : Reshape) (len n i j : ℕ) → i < left_behind r.shift r.size → len * most_behind r.shift r.size ≤ n → origin_behind r.shift r.size i ≡ Some j → len * j + len ≤ n
whole_origin r len n i j l room e = (subst (λ o. Within len o n) e (behinds r len n i l room).within).1

-- the part of a grid's row from the line on begins within the row, and has room for what it holds
pub cut : (r : Reshape) (len n f : ℕ) → len * max (cells_of r.size) (cells_of (size_after r.shift r.size)) ≤ n → f ≡ first_entry r.shift r.size
    → (len * f ≤ n) × (len * most_behind r.shift r.size ≤ n - len * f)
cut r len n f room e =
    let left = first_left r.shift r.size r.shiftable in
    let behind = most_behind r.shift r.size in
    let all = max (cells_of r.size) (cells_of (size_after r.shift r.size)) in
    let sum : f + behind ≤ all = omega arith in
    let whole : len * (f + behind) ≤ len * all = mul-le-mul_left len sum in
    let parts : len * (f + behind) ≡ len * f + len * behind = mul-add len f behind in
    (omega arith, omega arith)
