-- The pieces of a format stand one after another.
use Rattle.std.proofs.Common.{◌≡◌, ℕ, ◌++◌, codes, decimal, append_assoc}
use Rattle.std.proofs.Output.{has_written_of_eq}
use Rattle.notation.specs.declared.text_error.TextError.{TextError}
use Rattle.notation.specs.declared.text_error.TextError.TheVariants.{NotANumber}
use Rattle.notation.specs.Errors.{error_text}
use Rattle.notation.proofs.text_error.TextErrorDisplay.fmt.Goals as goal

error_pieces : (e : TextError) (word : ℕ) → e ≡ NotANumber word → codes "word " ++ (decimal word ++ (codes " is no number from 0 to " ++ decimal 18446744073709551615)) ≡ error_text e
error_pieces e word h = rw h (simp append_assoc)

pub returns-in-NotANumber-clause-writes : goal.returns-in-NotANumber-clause-writes
returns-in-NotANumber-clause-writes g c p ok = has_written_of_eq g.W.Write.write_str_gives _ _ _ _ (error_pieces _ c.in-NotANumber.word c.in-NotANumber.is) (c.write.ensures.writes p ok)
