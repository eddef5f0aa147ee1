-- A whole grid of entries after a shift, from what its parts became. Assumes nothing.
use Rattle.std.proofs.Common.{◌≡◌, ℕ, zero, suc, ◌+◌, ◌-◌, ◌*◌, ◌<◌, ◌≤◌, max, ◌⊎◌, List, ◌++◌, length, take, drop, replicate, None, sym, ap, ◌∙◌, inl, inr, mul-le-mul_left, mul-zero, mul-suc, mul-add, arith, length-drop}
use borrow.Rule.Slice.PartMut.{put_mid}
use Rattle.std.specs.Option.{option_map}
use Rattle.std.proofs.lemmas.List.{append_assoc, append-nil, take_at, drop-drop, drop_all, drop-take, take-append-drop, take-take}
use Rattle.std.proofs.lemmas.Slice.{drop-append-drop}
use Rattle.recalc.specs.declared.size.Size.{Size}
use Rattle.recalc.specs.Entries.{entry, entries_from}
use Rattle.recalc.proofs.Entries.{entries_length, same_entries, entries_split, entries_push, entries_again}
use Rattle.shift.specs.declared.shift.Change.TheVariants.{Insert}
use Rattle.shift.specs.declared.shift.Shift.{Shift}
use Rattle.shift.specs.Entries.{size_after, cells_of, coming, Shiftable, origin, first_entry, origin_behind, entry_or_zeros, Within, placed, shifted_entries}
use Rattle.shift.proofs.Origins.{Origin, origins, kept_before, coming_is, first_left, few_cells}
use Rattle.shift.proofs.Placed.{entry_long}

take_sum : (a b : ℕ) (xs : List ℕ) → take (a + b) xs ≡ take a xs ++ take b (drop a xs)
take_sum a b xs = sym (take-append-drop a (take (a + b) xs)) ∙ ap (λ ys. ys ++ drop a (take (a + b) xs)) (take-take a (a + b) xs (omega arith)) ∙ ap (λ ys. take a xs ++ ys) (drop-take a b xs)

-- the entries of a row are what it begins with
front_entries : (len n : ℕ) (xs : List ℕ) → entries_from (λ k. entry len k xs) 0 n ≡ take (len * n) xs
unfolding entries_from
front_entries len zero xs = let e = mul-zero len in rw e
front_entries len (suc n) xs =
    entries_push (λ k. entry len k xs) n ∙ ap (λ ys. ys ++ entry len n xs) (front_entries len n xs) ∙ sym (take_sum (len * n) len xs) ∙ ap (λ i. take i xs) (sym (mul-suc len n))

module _ (len : ℕ) (d : Shift) (size : Size) (xs : List ℕ) (s : Shiftable d size) where
  abbrev first : ℕ
  first = first_entry d size

  abbrev left : ℕ
  left = cells_of (size_after d size)

  -- an entry from the line on, as it is counted in the whole and behind the line
  entry_counted : (i : ℕ) → i < left - first → entry_or_zeros len (origin_behind d size i) (drop (len * first) xs) ≡ coming len d size xs (first + i)
  entry_counted i l = go (origins d size (first + i) s (omega arith)) ∙ sym (coming_is len d size xs (first + i))
    where
      go : ((j : ℕ) × Origin d size (first + i) j) ⊎ ((origin d size (first + i) ≡ None) × (d.change ≡ Insert))
          → entry_or_zeros len (origin_behind d size i) (drop (len * first) xs) ≡ entry_or_zeros len (origin d size (first + i)) xs
      go (inl (j, o)) =
          let b : first ≤ j = o.behind (omega arith) in
          let e : first + (j - first) ≡ j = omega arith in
          ap (λ m. entry_or_zeros len (option_map (λ k. k - first) m) (drop (len * first) xs)) o.is
          ∙ ap (take len) (drop-drop (len * (j - first)) (len * first) xs ∙ ap (λ k. drop k xs) (sym (mul-add len first (j - first)) ∙ ap (λ k. len * k) e))
          ∙ ap (λ m. entry_or_zeros len m xs) (sym o.is)
      go (inr (e, h)) = ap (λ m. entry_or_zeros len (option_map (λ k. k - first) m) (drop (len * first) xs)) e ∙ ap (λ m. entry_or_zeros len m xs) (sym e)

  -- what stays before the line, and what comes behind it
  pub whole_grid : take (len * first) xs ++ placed len (origin_behind d size) (left - first) (drop (len * first) xs) ≡ entries_from (coming len d size xs) 0 left ++ drop (len * left) xs
  whole_grid =
      let fit : first ≤ left = first_left d size s in
      let sum : first + (left - first) ≡ left = omega arith in
      let zero_right : first + 0 ≡ first = omega arith in
      let zero_left : 0 + first ≡ first = omega arith in
      let before : take (len * first) xs ≡ entries_from (coming len d size xs) 0 first =
      sym (front_entries len first xs)
      ∙ same_entries (λ k. entry len k xs) (coming len d size xs) 0 first (λ k a b. sym (coming_is len d size xs k ∙ ap (λ o. entry_or_zeros len o xs) (kept_before d size k s (omega arith)))) in
      let after : entries_from (λ i. entry_or_zeros len (origin_behind d size i) (drop (len * first) xs)) 0 (left - first) ≡ entries_from (coming len d size xs) (0 + first) (left - first) =
      same_entries (λ i. entry_or_zeros len (origin_behind d size i) (drop (len * first) xs)) (λ i. coming len d size xs (first + i)) 0 (left - first) (λ i a b. entry_counted i (omega arith))
      ∙ sym (entries_again (coming len d size xs) first 0 (left - first))
      ∙ ap (λ k. entries_from (coming len d size xs) k (left - first)) (zero_right ∙ sym zero_left) in
      let rest : drop (len * (left - first)) (drop (len * first) xs) ≡ drop (len * left) xs =
      drop-drop (len * (left - first)) (len * first) xs ∙ ap (λ k. drop k xs) (sym (mul-add len first (left - first)) ∙ ap (λ k. len * k) sum) in
      ap (λ ys. ys ++ placed len (origin_behind d size) (left - first) (drop (len * first) xs)) before
      ∙ ap (λ ys. entries_from (coming len d size xs) 0 first ++ (ys ++ drop (len * (left - first)) (drop (len * first) xs))) after
      ∙ ap (λ ys. entries_from (coming len d size xs) 0 first ++ (entries_from (coming len d size xs) (0 + first) (left - first) ++ ys)) rest
      ∙ sym (append_assoc (entries_from (coming len d size xs) 0 first) (entries_from (coming len d size xs) (0 + first) (left - first)) (drop (len * left) xs))
      ∙ ap (λ ys. ys ++ drop (len * left) xs) (sym (entries_split (coming len d size xs) 0 first (left - first)) ∙ ap (entries_from (coming len d size xs) 0) sum)

  -- what comes to stand at each number has its length
  pub coming_long : (k : ℕ) → k < left → len * cells_of size ≤ length xs → length (coming len d size xs k) ≡ len
  coming_long k l room = ap length (coming_is len d size xs k) ∙ entry_long len (origin d size k) xs (go (origins d size k s l))
    where
      go : ((j : ℕ) × Origin d size k j) ⊎ ((origin d size k ≡ None) × (d.change ≡ Insert)) → Within len (origin d size k) (length xs)
      go (inl (j, o)) =
          let q : suc j ≤ cells_of size = o.inside in
          let few = (few_cells d size s).0 in
          rw o.is (omega arith, omega (arith, mul-suc len j, mul-le-mul_left len q))
      go (inr (e, h)) = rw e tt

  -- what is free behind the entries becomes 0
  pub cleared_grid : (now : List ℕ) (l end : ℕ) → l ≡ left → end ≡ max (cells_of size) left → len * max (cells_of size) left ≤ length xs
      → now ≡ entries_from (coming len d size xs) 0 left ++ drop (len * left) xs
      → take (len * l) now ++ (replicate (len * end - len * l) 0 ++ drop (len * end) now) ≡ shifted_entries len d size xs
  cleared_grid now l end a b room e =
      let all = entries_from (coming len d size xs) 0 left in
      let most = max (cells_of size) left in
      let less : cells_of size ≤ most = omega arith in
      let fits : len * cells_of size ≤ length xs = omega (arith, mul-le-mul_left len less) in
      let long : length all ≡ len * left = entries_length (coming len d size xs) len left (λ k h. coming_long k h fits) 0 left (omega arith) in
      let sum : left + (cells_of size - left) ≡ most = omega arith in
      let free : len * most - len * left ≡ len * (cells_of size - left) = let w : len * left + len * (cells_of size - left) ≡ len * most = sym (mul-add len left (cells_of size - left)) ∙ ap (λ i. len * i) sum in omega arith in
      let back : drop (len * most) now ≡ drop (len * most) xs = ap (drop (len * most)) e ∙ drop-append-drop (len * left) xs all (len * most) (mul-le-mul_left len (omega arith)) long in
      let front : take (len * left) now ≡ all = ap (take (len * left)) e ∙ take_at all (drop (len * left) xs) (len * left) long in
      ap (λ i. take (len * i) now ++ (replicate (len * end - len * i) 0 ++ drop (len * end) now)) a
      ∙ ap (λ i. take (len * left) now ++ (replicate (len * i - len * left) 0 ++ drop (len * i) now)) b
      ∙ ap (λ ys. ys ++ (replicate (len * most - len * left) 0 ++ drop (len * most) now)) front
      ∙ ap (λ i. all ++ (replicate i 0 ++ drop (len * most) now)) free
      ∙ ap (λ ys. all ++ (replicate (len * (cells_of size - left)) 0 ++ ys)) back

-- a part from number f on, written back
pub put_behind : (f : ℕ) (xs part : List ℕ) → f ≤ length xs → put_mid f (length xs - f) xs part ≡ take f xs ++ part
put_behind f xs part l = ap (λ ys. take f xs ++ (part ++ ys)) (drop_all (length xs - f) (drop f xs) (simp length-drop (omega arith))) ∙ ap (λ ys. take f xs ++ ys) (append-nil part)
