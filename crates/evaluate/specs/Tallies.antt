-- What the numbers of a range come to so far. Assumes nothing: this is a definition.
use Rattle.std.specs.Prelude.{ℕ}

pub record Tally : Type 0 where
  pub count : ℕ
  pub total : ℕ
  pub largest : ℕ
