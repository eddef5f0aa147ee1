-- Entries of one length, one after the other. Assumes nothing.
use Rattle.std.specs.Prelude.{◌≡◌, ℕ, zero, suc, ◌+◌, ◌-◌, ◌*◌, ◌<◌, ◌≤◌, ◌⊎◌, List, ◌++◌, length, take, drop, refl}
use Rattle.std.proofs.Math.Path.{sym, ap}
use Rattle.std.proofs.Common.{◌∙◌, inl, inr, mul-zero, mul-le-mul_left, arith, length-take, length-drop}
use Rattle.std.proofs.Math.Nat.{mul-suc}
use Rattle.std.proofs.Math.ListN.{length-append}
use Rattle.std.proofs.lemmas.List.{append_assoc, append-nil, length-take-le, take_at, drop_at, drop-drop, take-take, drop-take, take-append-le, drop-append-le, take-append-drop}
use Rattle.std.proofs.lemmas.Bool.{cases_order}
use Rattle.std.proofs.lemmas.Slice.{drop-append-drop}
use Rattle.recalc.specs.Entries.{entry, entries_from, with_part}

-- a part of a row that begins as another does
pub part_front : (m len n : ℕ) (xs rest : List ℕ) → m + len ≤ n → n ≤ length xs → take len (drop m (take n xs ++ rest)) ≡ take len (drop m xs)
part_front m len n xs rest h l =
    let front : m ≤ length (take n xs) = simp length-take (omega arith) in
    let cut : m + (n - m) ≡ n = omega arith in
    let part : drop m (take n xs) ≡ take (n - m) (drop m xs) = ap (λ k. drop m (take k xs)) (sym cut) ∙ drop-take m (n - m) xs in
    ap (take len) (drop-append-le m (take n xs) rest front ∙ ap (λ ys. ys ++ rest) part)
    ∙ take-append-le len (take (n - m) (drop m xs)) rest (simp (length-take, length-drop) (omega arith))
    ∙ take-take len (n - m) (drop m xs) (omega arith)

-- a part of a row is overwritten: it has the new numbers, and what lies before or behind it is as it was
module _ (m len : ℕ) (part xs : List ℕ) (long : length part ≡ len) (room : m + len ≤ length xs) where
  front_long : length (take m xs) ≡ m
  front_long = length-take-le m xs (omega arith)

  pub part_there : take len (drop m (with_part m len part xs)) ≡ part
  part_there = ap (take len) (drop_at (take m xs) (part ++ drop (m + len) xs) m front_long) ∙ take_at part (drop (m + len) xs) len long

  pub part_other : (i : ℕ) → (i + len ≤ m) ⊎ (m + len ≤ i) → take len (drop i (with_part m len part xs)) ≡ take len (drop i xs)
  part_other i (inl h) = part_front i len m xs (part ++ drop (m + len) xs) h (omega arith)
  part_other i (inr h) =
      let f = front_long in
      ap (λ ys. take len (drop i ys)) (sym (append_assoc (take m xs) part (drop (m + len) xs)))
      ∙ ap (take len) (drop-append-drop (m + len) xs (take m xs ++ part) i h (simp length-append (omega arith)))

-- two entries, behind b numbers, do not overlap
pub entries_apart : (b len i k : ℕ) → (i ≡ k → ⊥) → (b + len * i + len ≤ b + len * k) ⊎ (b + len * k + len ≤ b + len * i)
entries_apart b len i k ne = go (cases_order i k)
  where
    ordered : (i k : ℕ) → i < k → b + len * i + len ≤ b + len * k
    ordered i k l = let t : suc i ≤ k = omega arith in omega (arith, mul-suc len i, mul-le-mul_left len t)

    go : (i ≡ k) ⊎ ((i < k) ⊎ (k < i)) → (b + len * i + len ≤ b + len * k) ⊎ (b + len * k + len ≤ b + len * i)
    go (inl e) = absurd (ne e)
    go (inr (inl l)) = inl (ordered i k l)
    go (inr (inr l)) = inr (ordered k i l)

-- an entry behind n numbers
pub entry_behind : (len j n : ℕ) (ys xs : List ℕ) → length ys ≡ n → n ≤ len * j → entry len j (ys ++ drop n xs) ≡ entry len j xs
entry_behind len j n ys xs e l = ap (take len) (drop-append-drop n xs ys (len * j) l e)

-- a row is what lies before an entry, the entry, and what lies behind it
pub around_entry : (len j : ℕ) (xs : List ℕ) → xs ≡ take (len * j) xs ++ (entry len j xs ++ drop (len * j + len) xs)
around_entry len j xs =
    sym (take-append-drop (len * j) xs)
    ∙ ap (λ ys. take (len * j) xs ++ ys) (sym (take-append-drop len (drop (len * j) xs)) ∙ ap (λ ys. entry len j xs ++ ys) (drop-drop len (len * j) xs))

-- the same entries, one by one
pub same_entries : (f g : ℕ → List ℕ) (k n : ℕ) → ((i : ℕ) → k ≤ i → i < k + n → f i ≡ g i) → entries_from f k n ≡ entries_from g k n
unfolding entries_from
same_entries f g k zero e = refl
same_entries f g k (suc n) e = ap (λ ys. ys ++ entries_from f (suc k) n) (e k (omega arith) (omega arith)) ∙ ap (λ ys. g k ++ ys) (same_entries f g (suc k) n (λ i l u. e i (omega arith) (omega arith)))

-- the first of them and then the others
pub entries_split : (f : ℕ → List ℕ) (k m n : ℕ) → entries_from f k (m + n) ≡ entries_from f k m ++ entries_from f (k + m) n
unfolding entries_from
entries_split f k zero n = let e : 0 + n ≡ n = omega arith in let d : k + 0 ≡ k = omega arith in rw (e, d)
entries_split f k (suc m) n =
    let e : suc m + n ≡ suc (m + n) = omega arith in
    let d : k + suc m ≡ suc k + m = omega arith in
    rw (e, d) (ap (λ ys. f k ++ ys) (entries_split f (suc k) m n) ∙ sym (append_assoc (f k) (entries_from f (suc k) m) (entries_from f (suc k + m) n)))

-- one more at the end
pub entries_push : (f : ℕ → List ℕ) (n : ℕ) → entries_from f 0 (suc n) ≡ entries_from f 0 n ++ f n
unfolding entries_from
entries_push f n =
    let e : suc n ≡ n + 1 = omega arith in
    let z : 0 + n ≡ n = omega arith in
    ap (entries_from f 0) e ∙ entries_split f 0 n 1 ∙ ap (λ ys. entries_from f 0 n ++ ys) (append-nil (f (0 + n)) ∙ ap f z)

-- entries counted from the first of them
pub entries_again : (f : ℕ → List ℕ) (j k n : ℕ) → entries_from f (j + k) n ≡ entries_from (λ i. f (j + i)) k n
unfolding entries_from
entries_again f j k zero = refl
entries_again f j k (suc n) = let e : suc (j + k) ≡ j + suc k = omega arith in ap (λ ys. f (j + k) ++ ys) (ap (λ i. entries_from f i n) e ∙ entries_again f j (suc k) n)

-- the entries so far, up to entry i, in front of what a row held
abbrev pub FilledTo : (ℕ → List ℕ) → ℕ → List ℕ → ℕ → List ℕ → Type 0
FilledTo f len xs i now = now ≡ entries_from f 0 i ++ drop (len * i) xs

pub filled_none : (f : ℕ → List ℕ) (len : ℕ) (xs : List ℕ) → FilledTo f len xs 0 xs
unfolding entries_from
filled_none f len xs = let e = mul-zero len in rw e

-- where the entries below m have len numbers each
module _ (f : ℕ → List ℕ) (len m : ℕ) (long : (k : ℕ) → k < m → length (f k) ≡ len) where
  pub entries_length : (k n : ℕ) → k + n ≤ m → length (entries_from f k n) ≡ len * n
  unfolding entries_from
  entries_length k zero h = sym (mul-zero len)
  entries_length k (suc n) h = let a = long k (omega arith) in let b = entries_length (suc k) n (omega arith) in simp length-append (omega (arith, mul-suc len n))

  first_entry : (k n : ℕ) (rest : List ℕ) → k < m → take len (entries_from f k (suc n) ++ rest) ≡ f k
  unfolding entries_from
  first_entry k n rest h = ap (take len) (append_assoc (f k) (entries_from f (suc k) n) rest) ∙ take_at (f k) (entries_from f (suc k) n ++ rest) len (long k h)

  -- entry j of n entries with something behind them
  pub entry_at : (k n j : ℕ) (rest : List ℕ) → k + n ≤ m → j < n → entry len j (entries_from f k n ++ rest) ≡ f (k + j)
  entry_at k n j rest h l =
      let e : n ≡ j + suc (n - suc j) = omega arith in
      ap (λ i. entry len j (entries_from f k i ++ rest)) e
      ∙ ap (λ ys. entry len j (ys ++ rest)) (entries_split f k j (suc (n - suc j)))
      ∙ ap (entry len j) (append_assoc (entries_from f k j) (entries_from f (k + j) (suc (n - suc j))) rest)
      ∙ ap (take len) (drop_at (entries_from f k j) (entries_from f (k + j) (suc (n - suc j)) ++ rest) (len * j) (entries_length k j (omega arith)))
      ∙ first_entry (k + j) (n - suc j) rest (omega arith)

  -- one entry more
  pub filled_more : (xs : List ℕ) (i : ℕ) (now next : List ℕ) → i < m → FilledTo f len xs i now
      → next ≡ take (len * i) now ++ (f i ++ drop (len * i + len) now) → FilledTo f len xs (suc i) next
  filled_more xs i now next l e p =
      let done = entries_length 0 i (omega arith) in
      let front : take (len * i) now ≡ entries_from f 0 i = ap (take (len * i)) e ∙ take_at (entries_from f 0 i) (drop (len * i) xs) (len * i) done in
      let back : drop (len * i + len) now ≡ drop (len * suc i) xs =
      ap (drop (len * i + len)) e ∙ drop-append-drop (len * i) xs (entries_from f 0 i) (len * i + len) (omega arith) done ∙ ap (λ n. drop n xs) (sym (mul-suc len i)) in
      p
      ∙ ap (λ ys. ys ++ (f i ++ drop (len * i + len) now)) front
      ∙ ap (λ ys. entries_from f 0 i ++ (f i ++ ys)) back
      ∙ sym (append_assoc (entries_from f 0 i) (f i) (drop (len * suc i) xs))
      ∙ ap (λ ys. ys ++ drop (len * suc i) xs) (sym (entries_push f i))
