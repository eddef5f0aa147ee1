-- A byte more, and the end of the text.
use Rattle.std.proofs.Common.{◌≡◌, ℕ, ◌+◌, List, length, get_or, Ok, Err, vec_items, sym, ap, ◌∙◌, arith}
use Rattle.notation.specs.Numbers.{appended, numbers_of}
use Rattle.notation.proofs.Words.{after_white, after_digit, refused, at_end}
use Rattle.notation.proofs.numbers.parse_numbers.Goals as goal
use Rattle.notation.proofs.numbers.parse_numbers.Goals.{then-is_white+in_ok-keep, else-is_white+in-Some}

pub returns-in_default : goal.returns-in_default
returns-in_default c =
    let xs = c.as_bytes-bytes.result.now in
    let i = c.loop-byte.byte-index in
    let ns = vec_items c.loop-byte.numbers in
    let len : length ns + 1 ≡ c.len.result + 1 = omega (arith, c.len.ensures, c.loop-byte.numbers.ok.0) in
    ap numbers_of (sym c.as_bytes-bytes.ensures.value) ∙ refused xs i ns c.loop-byte.word c.loop-byte.invariant (omega arith) (sym c.is_white.ensures ∙ c.if-is_white.false)
    (ap (λ (n : ℕ). appended n (get_or xs i 0)) (sym c.unwrap_or.ensures) ∙ sym c.in_default.ensures)
    ∙ ap (λ (n : ℕ). Err n) len

pub loop-byte-preserved : goal.loop-byte-preserved
loop-byte-preserved c =
    let xs = c.as_bytes-bytes.result.now in
    let i = c.loop-byte.byte-index in
    let ns = vec_items c.loop-byte.numbers in
    elim c.if-is_white.branch [
      | then-is_white+in_ok-keep w ↦
          rw (w.numbers-is, w.word-is, w.in_ok-keep.ensures)
          (after_white xs i ns c.loop-byte.word c.loop-byte.invariant (omega arith) (sym c.is_white.ensures ∙ w.if-is_white.true))
      | else-is_white+in-Some w ↦
          rw (w.numbers-is, w.word-is)
          (after_digit xs i ns c.loop-byte.word c.loop-byte.invariant w.in-Some.number (omega arith) (sym c.is_white.ensures ∙ w.if-is_white.false)
          (ap (λ (n : ℕ). appended n (get_or xs i 0)) (sym w.unwrap_or.ensures) ∙ sym w.in-Some.ensures))
    ]

pub returns : goal.returns
returns c =
    ap numbers_of (sym c.as_bytes-bytes.ensures.value) ∙ at_end c.as_bytes-bytes.result.now c.loop-byte.byte-index (vec_items c.loop-byte.numbers) c.loop-byte.word c.loop-byte.invariant (omega arith)
    ∙ ap (λ (l : List ℕ). Ok l) (sym c.in_ok-keep-2.ensures)
