-- Texts written one after another, by a loop. Assumes nothing.
use Rattle.std.proofs.Common.{◌≡◌, ℕ, zero, suc, ◌+◌, ◌<◌, List, ◌++◌, Some, Ok, Option, sym, refl, ap, ◌∙◌, arith, append_assoc, append-nil}
use Rattle.std.specs.declared.fmt.Formatter.{Formatter}
use Rattle.std.specs.Fmt.{HasWritten, DisplaysOnOk, IsPlainFormatter}
use Rattle.std.proofs.Output.{has_written_append, has_written_of_eq, writes_in_calls_nil}
use Rattle.show.specs.Texts.{texts}

-- texts that are alike one by one
pub texts_alike : (f g : ℕ → List ℕ) (k n : ℕ) → ((j : ℕ) → j < k + n → f j ≡ g j) → texts f k n ≡ texts g k n
unfolding texts
texts_alike f g k zero h = refl
texts_alike f g k (suc n) h = rw (h k (omega arith), texts_alike f g (suc k) n (λ j l. h j (omega arith)))

-- one text more
texts_more : (f : ℕ → List ℕ) (k j n : ℕ) → j ≡ k + n → texts f k n ++ f j ≡ texts f k (suc n)
unfolding texts
texts_more f k j zero e = let s : j ≡ k = omega arith in rw s (sym (append-nil (f k)))
texts_more f k j (suc n) e = append_assoc (f k) _ _ ∙ ap (λ t. f k ++ t) (texts_more f (suc k) j n (omega arith))

module _ {W : Type 0} (took : W → List ℕ → W → Type 0) (text : ℕ → List ℕ) where
  -- the first n texts are written, if the formatter was plain
  abbrev pub Written : Formatter W → ℕ → Formatter W → Type 0
  Written f n g = IsPlainFormatter f → HasWritten took f (texts text 0 n) g

  pub none_written : (f : Formatter W) → Written f 0 f
  unfolding texts
  none_written f plain = record { wrote = writes_in_calls_nil took _; plain = plain }

  pub one_more : (f g h : Formatter W) (n : ℕ) (o : Option (List ℕ)) → Written f n g → DisplaysOnOk took g (Ok tt) o h → o ≡ Some (text n) → Written f (n + 1) h
  one_more f g h n o so_far more e plain =
      let q = so_far plain in
      let here : DisplaysOnOk took g (Ok tt) (Some (text n)) h = rw e at more in
      let s : n + 1 ≡ suc n = omega arith in
      rw s (has_written_of_eq took _ _ _ _ (texts_more text 0 n n (omega arith)) (has_written_append took _ _ _ _ _ q (here q.plain refl)))
