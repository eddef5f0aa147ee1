-- Undoing and redoing many times. Assumes nothing.
use Rattle.std.proofs.Common.{◌≡◌, ℕ, zero, suc, ◌-◌, ◌≤◌, ◌++◌, List, [], ◌∷◌, length, take, refl, sym, ap, ◌∙◌, arith}
use Rattle.std.proofs.lemmas.List.{append-nil, take-take}
use Rattle.history.specs.Kept.{Kept, advanced, undone_to, undone, redone_to, redone}
use Rattle.history.specs.Laws.{advanced_all, undone_times, redone_times, FirstComesBack, LastComesBack, UndoneAgain}

-- where something was undone, redoing it brings it back
redo_undo : (b : Kept) (ss : List (List ℕ)) → b.past ≡ ss → 1 ≤ length ss → redone (undone_to ss b) ≡ b
redo_undo b [] e l = absurd (omega arith)
redo_undo b (s ∷ ss) e l = λ i. record { current = b.current; past = sym e i; to_come = b.to_come; steps = b.steps }

undo_redo : (b : Kept) (ss : List (List ℕ)) → b.to_come ≡ ss → 1 ≤ length ss → undone (redone_to ss b) ≡ b
undo_redo b [] e l = absurd (omega arith)
undo_redo b (s ∷ ss) e l = λ i. record { current = b.current; past = b.past; to_come = sym e i; steps = b.steps }

-- one fewer can be undone, and one fewer redone
past_fewer : (b : Kept) (ss : List (List ℕ)) → b.past ≡ ss → length (undone_to ss b).past ≡ length ss - 1
past_fewer b [] e = ap length e ∙ (let z : 0 ≡ 0 - 1 = omega arith in z)
past_fewer b (s ∷ ss) e = let z : length ss ≡ suc (length ss) - 1 = omega arith in z

to_come_fewer : (b : Kept) (ss : List (List ℕ)) → b.to_come ≡ ss → length (redone_to ss b).to_come ≡ length ss - 1
to_come_fewer b [] e = ap length e ∙ (let z : 0 ≡ 0 - 1 = omega arith in z)
to_come_fewer b (s ∷ ss) e = let z : length ss ≡ suc (length ss) - 1 = omega arith in z

left_to_undo : (b : Kept) (n : ℕ) → length (undone_times n b).past ≡ length b.past - n
unfolding undone_times
left_to_undo b zero = let e : length b.past ≡ length b.past - 0 = omega arith in e
left_to_undo b (suc n) = let t = past_fewer (undone_times n b) (undone_times n b).past refl in omega (arith, t, left_to_undo b n)

pub last_comes_back : LastComesBack
unfolding undone_times redone_times
last_comes_back b zero l = refl
last_comes_back b (suc n) l =
    ap (redone_times n) (redo_undo (undone_times n b) (undone_times n b).past refl (omega (arith, left_to_undo b n))) ∙ last_comes_back b n (omega arith)

pub undone_again : UndoneAgain
unfolding undone_times redone_times
undone_again b zero l = refl
undone_again b (suc n) l =
    ap undone (undone_again (redone b) n (let t = to_come_fewer b b.to_come refl in omega (arith, t))) ∙ undo_redo b b.to_come refl (omega arith)

-- with what can be redone
abbrev with_later : Kept → List (List ℕ) → Kept
with_later b later = record { current = b.current; past = b.past; to_come = later; steps = b.steps }

-- after a change nothing can be
none_later : (b : Kept) (s : List ℕ) (ss : List (List ℕ)) → (advanced_all b (s ∷ ss)).to_come ≡ []
none_later b s [] = refl
none_later b s (t ∷ ss) = none_later (advanced b s) t ss

-- one undo more
undo_one : (c s : List ℕ) (past later : List (List ℕ)) (k j steps : ℕ) → k ≤ j
    → undone (record { current = s; past = take (suc k) (take (suc j) (c ∷ past)); to_come = later; steps = steps }) ≡ record { current = c; past = take k past; to_come = s ∷ later; steps = steps }
undo_one c s past later k j steps l = ap (λ ps. record { current = c; past = ps; to_come = s ∷ later; steps = steps }) (take-take k j past l)

-- all of them
undo_all : (b : Kept) (s : List ℕ) (ss later : List (List ℕ)) → length (s ∷ ss) ≤ b.steps
    → undone_times (length (s ∷ ss)) (with_later (advanced_all b (s ∷ ss)) later)
    ≡ record { current = b.current; past = take (b.steps - length (s ∷ ss)) b.past; to_come = (s ∷ ss) ++ later; steps = b.steps }
unfolding undone_times
undo_all b s [] later l =
    let k = b.steps - 1 in
    let e : b.steps ≡ suc k = omega arith in
    ap (λ n. undone (record { current = s; past = take n (b.current ∷ b.past); to_come = later; steps = b.steps })) e
undo_all b s (t ∷ ss) later l =
    let k = b.steps - suc (suc (length ss)) in
    let j = b.steps - 1 in
    let e : b.steps - suc (length ss) ≡ suc k = omega arith in
    let q : b.steps ≡ suc j = omega arith in
    ap undone (undo_all (advanced b s) t ss later (omega arith))
    ∙ ap undone (λ i. record { current = s; past = take (e i) (take (q i) (b.current ∷ b.past)); to_come = (t ∷ ss) ++ later; steps = b.steps })
    ∙ undo_one b.current s b.past ((t ∷ ss) ++ later) k j b.steps (omega arith)

pub first_comes_back : FirstComesBack
first_comes_back b s ss l =
    ap (undone_times (length (s ∷ ss)))
    (λ i. record { current = (advanced_all b (s ∷ ss)).current; past = (advanced_all b (s ∷ ss)).past; to_come = none_later b s ss i; steps = (advanced_all b (s ∷ ss)).steps })
    ∙ undo_all b s ss [] l
    ∙ ap (λ later. record { current = b.current; past = take (b.steps - length (s ∷ ss)) b.past; to_come = later; steps = b.steps }) (append-nil (s ∷ ss))
