-- The words that have ended, and the one that has begun.
use Rattle.std.proofs.Common.{vec_items}
use Rattle.notation.proofs.Words.{Before}
use Rattle.notation.proofs.numbers.parse_numbers.Given as goal

abbrev pub invariant-loop-byte : goal.invariant-loop-byte
invariant-loop-byte l = Before l.bytes l.byte-index (vec_items l.numbers) l.word
