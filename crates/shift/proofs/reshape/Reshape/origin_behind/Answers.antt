use Rattle.std.proofs.Common.{◌≡◌, ℕ, ◌+◌, ◌≤◌, Some, sym, ap, ◌∙◌, inl, inr, arith}
use Rattle.shift.specs.Entries.{origin, first_entry}
use Rattle.shift.proofs.Origins.{origins}
use Rattle.shift.proofs.reshape.Reshape.origin_behind.Goals as goal

pub overflow_sub-result : goal.overflow_sub-result
overflow_sub-result c =
    let d = c.args.self.shift in
    let size = c.args.self.size in
    let first = first_entry d size in
    let is : first ≤ c.in_ok-from.from =
    let e : origin d size (first + c.args.i) ≡ Some c.in_ok-from.from =
    ap (λ k. origin d size (k + c.args.i)) (sym c.first_entry-first.ensures) ∙ sym c.origin.ensures ∙ c.in_ok-from.was in
    elim (origins d size (first + c.args.i) c.args.self.shiftable (omega arith)) [
      | inl (j, o) ↦ (let h = o.is in let b = o.behind (omega arith) in let z : j ≡ c.in_ok-from.from = cc in omega arith)
      | inr (h, i) ↦ absurd (let z : ◌≡◌ {A = ℕ} 0 1 = cc in omega arith)
    ] in
    omega (arith, c.first_entry-first.ensures, is)
