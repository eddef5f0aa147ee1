-- Texts one after another. Assumes nothing: these are definitions.
use Rattle.std.specs.Prelude.{ℕ, zero, suc, List, [], ◌++◌}

-- n texts, from text k on
unfoldable pub texts : (ℕ → List ℕ) → ℕ → ℕ → List ℕ
texts f k zero = []
texts f k (suc n) = f k ++ texts f (suc k) n
