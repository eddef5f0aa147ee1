-- The entries of a table, and its widths. Assumes nothing.
use Rattle.std.proofs.Common.{◌≡◌, ℕ, zero, suc, ◌+◌, ◌-◌, ◌<◌, max, List, [], ◌∷◌, ◌++◌, length, refl, ap, ◌∙◌, arith, length-append}
use Rattle.std.specs.List.{FoldsTo, concat}
use Rattle.std.specs.Fmt.{WritesInCalls}
use Rattle.show.specs.declared.padded.Counter.{Counter}
use Rattle.show.specs.Entries.{cell_entry}
use Rattle.show.specs.Grids.{grid_text}
use Rattle.show.specs.Table.{table_entry, largest, aligned}
use Rattle.show.proofs.Texts.{texts_alike}

pub inside : (xs : List ℕ) (cols line col : ℕ) → 0 < line → 0 < col → cell_entry xs cols (line - 1) (col - 1) ≡ table_entry xs cols line col
inside xs cols zero col l m = absurd (omega arith)
inside xs cols (suc line) zero l m = absurd (omega arith)
inside xs cols (suc line) (suc col) l m =
    let a : suc line - 1 ≡ line = omega arith in
    let b : suc col - 1 ≡ col = omega arith in
    rw (a, b)

pub largest_none : (f : ℕ → ℕ) → 0 ≡ largest f 0
unfolding largest
largest_none f = refl

pub largest_more : (f : ℕ → ℕ) (n : ℕ) → largest f (n + 1) ≡ max (largest f n) (f n)
unfolding largest
largest_more f n = let s : n + 1 ≡ suc n = omega arith in rw s

-- what a counter says of one call, it says of all that is written to it
abbrev Took : Counter → List ℕ → Counter → Type 0
Took c bs d = d.count ≡ c.count + length bs

counts_all : (c : Counter) (xs : List (List ℕ)) (d : Counter) → FoldsTo Took c xs d → Took c (concat xs) d
counts_all c [] d p = let e = ap (λ (c : Counter). c.count) p in omega arith
counts_all c (x ∷ xs) d p = let rest = counts_all p.0 xs d p.2 in simp length-append (omega (arith, p.1))

pub counts : (c : Counter) (bs : List ℕ) (d : Counter) → WritesInCalls Took c bs d → Took c bs d
counts c bs d w = counts_all c w.parts d w.calls ∙ ap (λ (l : List ℕ). c.count + length l) w.whole

-- only the widths of the columns that there are count
pub widths_alike : (xs : List ℕ) (cols : ℕ) (v w : ℕ → ℕ) (lines n : ℕ) → ((col : ℕ) → col < n → v col ≡ w col) → grid_text (aligned xs cols v) lines n ≡ grid_text (aligned xs cols w) lines n
widths_alike xs cols v w lines n h =
    texts_alike _ _ 0 lines (λ line l. ap (λ t. t ++ 10 ∷ []) (texts_alike (aligned xs cols v line) (aligned xs cols w line) 0 n (λ col m. rw (h col (omega arith)))))
