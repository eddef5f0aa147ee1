-- Entries put to their places one by one. Assumes nothing.
use Rattle.std.proofs.Common.{◌≡◌, ℕ, suc, ◌+◌, ◌-◌, ◌*◌, ◌<◌, ◌≤◌, List, ◌++◌, length, take, drop, Some, None, Option, sym, refl, ap, ◌∙◌, subst, mul-le-mul_left, mul-suc, arith, length-drop, length-take}
use lib.ListN.{length-replicate}
use Rattle.std.proofs.lemmas.List.{append_assoc, drop_at, take-take, take-append-le, take-append-drop, length-take-le}
use Rattle.recalc.specs.Entries.{entry, entries_from}
use Rattle.recalc.proofs.Entries.{part_front, entry_behind, entries_length, FilledTo, filled_more}
use Rattle.shift.specs.declared.shift.Change.TheVariants.{Insert, Delete}
use Rattle.shift.specs.declared.reshape.Reshape.{Reshape}
use Rattle.shift.specs.Entries.{Within, left_behind, most_behind, origin_behind, entry_or_zeros}
use Rattle.shift.proofs.Behind.{Comes, behinds}

-- an entry of a row that begins as another does
entry_front : (len j n : ℕ) (xs rest : List ℕ) → len * j + len ≤ n → n ≤ length xs → entry len j (take n xs ++ rest) ≡ entry len j xs
entry_front len j n xs rest h l = part_front (len * j) len n xs rest h l

-- an entry that is there has its length
pub entry_long : (len : ℕ) (o : Option ℕ) (xs : List ℕ) → Within len o (length xs) → length (entry_or_zeros len o xs) ≡ len
entry_long len None xs w = length-replicate len 0
entry_long len (Some j) xs w = let l = w.1 in length-take-le len (drop (len * j) xs) (simp length-drop (omega arith))

module _ (len : ℕ) (r : Reshape) (xs : List ℕ) where
  abbrev from : ℕ → Option ℕ
  from = origin_behind r.shift r.size

  -- how many entries there are to put
  abbrev m : ℕ
  m = left_behind r.shift r.size

  -- what comes to stand at number i
  abbrev pub put : ℕ → List ℕ
  put i = entry_or_zeros len (from i) xs

  -- so far from the last one down to entry i
  abbrev pub SpreadTo : ℕ → List ℕ → Type 0
  SpreadTo i now = now ≡ take (len * i) xs ++ (entries_from put i (m - i) ++ drop (len * m) xs)

  -- so far from the first one up to entry i
  abbrev pub GatheredTo : ℕ → List ℕ → Type 0
  GatheredTo i now = FilledTo put len xs i now

  pub spread_none : (i : ℕ) → i ≡ m → SpreadTo i xs
  unfolding entries_from
  spread_none i e = let z : m - m ≡ 0 = omega arith in rw (e, z) (sym (take-append-drop (len * m) xs))

  -- one entry more, from one that is not yet overwritten
  abbrev Put : ℕ → List ℕ → List ℕ → Type 0
  Put i now next = next ≡ take (len * i) now ++ (entry_or_zeros len (from i) now ++ drop (len * i + len) now)

  module _ (room : len * most_behind r.shift r.size ≤ length xs) where
    pub spread_more : (i k : ℕ) (now next : List ℕ) → r.shift.change ≡ Insert → k ≡ suc i → i < m → SpreadTo k now → Put i now next → SpreadTo i next
    unfolding entries_from
    spread_more i k now next h n l q p =
        let rest = entries_from put (suc i) (m - suc i) ++ drop (len * m) xs in
        let e : SpreadTo (suc i) now = subst (λ k. SpreadTo k now) n q in
        let fits : len * suc i ≤ length xs = omega (arith, mul-suc len i, (behinds r len (length xs) i l room).room) in
        let more = mul-suc len i in
        let front : take (len * i) now ≡ take (len * i) xs =
        ap (take (len * i)) e ∙ take-append-le (len * i) (take (len * suc i) xs) rest (simp length-take (omega arith)) ∙ take-take (len * i) (len * suc i) xs (omega arith) in
        let back : drop (len * i + len) now ≡ rest =
        ap (drop (len * i + len)) e ∙ drop_at (take (len * suc i) xs) rest (len * i + len) (length-take-le (len * suc i) xs fits ∙ omega arith) in
        let here : entry_or_zeros len (from i) now ≡ put i =
        came (from i) (subst (λ h. Comes h (from i) i) h (behinds r len (length xs) i l room).comes)
        (λ j h. ap (entry len j) e ∙ entry_front len j (len * suc i) xs rest (omega (arith, mul-le-mul_left len h)) fits) in
        let one : m - i ≡ suc (m - suc i) = omega arith in
        p
        ∙ ap (λ ys. ys ++ (entry_or_zeros len (from i) now ++ drop (len * i + len) now)) front
        ∙ ap (λ ys. take (len * i) xs ++ (ys ++ drop (len * i + len) now)) here
        ∙ ap (λ ys. take (len * i) xs ++ (put i ++ ys)) back
        ∙ ap (λ ys. take (len * i) xs ++ ys) (sym (append_assoc (put i) (entries_from put (suc i) (m - suc i)) (drop (len * m) xs)))
        ∙ ap (λ n. take (len * i) xs ++ (entries_from put i n ++ drop (len * m) xs)) (sym one)
      where
        came : (o : Option ℕ) → Comes Insert o i → ((j : ℕ) → j ≤ i → entry len j now ≡ entry len j xs) → entry_or_zeros len o now ≡ entry_or_zeros len o xs
        came None b h = refl
        came (Some j) b h = h j b

    pub gathered_more : (i k : ℕ) (now next : List ℕ) → r.shift.change ≡ Delete → k ≡ suc i → i < m → GatheredTo i now → Put i now next → GatheredTo k next
    gathered_more i k now next h n l e p =
        let long : (k : ℕ) → k < m → length (put k) ≡ len = λ k l. entry_long len (from k) xs (behinds r len (length xs) k l room).within in
        let done = entries_length put len m long 0 i (omega arith) in
        let here : entry_or_zeros len (from i) now ≡ put i =
        came (from i) (subst (λ h. Comes h (from i) i) h (behinds r len (length xs) i l room).comes)
        (λ j h. ap (entry len j) e ∙ entry_behind len j (len * i) (entries_from put 0 i) xs done (mul-le-mul_left len h)) in
        subst (λ k. GatheredTo k next) (sym n) (filled_more put len m long xs i now next l e (p ∙ ap (λ ys. take (len * i) now ++ (ys ++ drop (len * i + len) now)) here))
      where
        came : (o : Option ℕ) → Comes Delete o i → ((j : ℕ) → i ≤ j → entry len j now ≡ entry len j xs) → entry_or_zeros len o now ≡ entry_or_zeros len o xs
        came None b h = refl
        came (Some j) b h = h j b
