use Rattle.std.proofs.Common.{◌≡◌, true, false, rules}
use Rattle.edit.proofs.Differing.{differs_is}
use Rattle.edit.proofs.values.is_changed.Goals as goal

pub returns : goal.returns
returns c =
    let same : c.ne.result ≡ false → c.args.value ≡ c.args.before = search rules in
    let other : c.ne.result ≡ true → c.args.value ≡ c.args.before → ⊥ = search rules in
    differs_is c.ne.result c.args.value c.args.before same other
