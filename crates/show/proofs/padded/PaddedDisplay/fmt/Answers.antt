-- The spaces, and then the entry.
use Rattle.std.proofs.Common.{◌≡◌, ◌-◌, ◌++◌, length, replicate, ap, arith}
use Rattle.std.proofs.Output.{has_written_append, has_written_of_eq}
use Rattle.show.specs.Entries.{entry_text}
use Rattle.show.proofs.padded.PaddedDisplay.fmt.Goals as goal

pub returns-clause-writes : goal.returns-clause-writes
returns-clause-writes g c plain ok =
    let text = entry_text c.args.self.now.entry in
    let room : c.loop.counter ≡ c.args.self.now.width - length text = omega (arith, c.saturating_sub-end.ensures, c.in_ok-width_of.ensures) in
    let spaces = c.loop.invariant plain in
    has_written_of_eq _ _ _ _ _ (ap (λ n. replicate n 32 ++ text) room) (has_written_append _ _ _ _ _ _ spaces (c.fmt.ensures.writes spaces.plain ok))
