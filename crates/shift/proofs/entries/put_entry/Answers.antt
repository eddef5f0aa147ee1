use Rattle.std.proofs.Common.{◌≡◌, ◌+◌, ◌*◌, ◌++◌, length, take, drop, Some, sym, ap, ◌∙◌}
use Rattle.recalc.proofs.Entries.{around_entry}
use Rattle.shift.specs.Entries.{origin_behind, entry_or_zeros}
use Rattle.shift.proofs.Behind.{behinds, whole_origin}
use Rattle.shift.proofs.entries.put_entry.Goals as goal

pub copy_entry-requires : goal.copy_entry-requires
copy_entry-requires g c =
    let room = length c.args.part.now in (
      whole_origin c.args.reshape g.row.LEN room c.args.to c.in-Some.from c.requires.left c.requires.room (sym c.origin_behind.ensures ∙ c.in-Some.is),
      (behinds c.args.reshape g.row.LEN room c.args.to c.requires.left c.requires.room).room,
    )

pub returns-in-Some : goal.returns-in-Some
returns-in-Some g c =
    let len = g.row.LEN in
    let i = c.args.to in
    let xs = c.args.part.now in
    let e : Some i ≡ origin_behind c.args.reshape.shift c.args.reshape.size i = ap Some (sym c.if-from-to.true) ∙ sym c.in-Some.is ∙ c.origin_behind.ensures in
    around_entry len i xs ∙ ap (λ o. take (len * i) xs ++ (entry_or_zeros len o xs ++ drop (len * i + len) xs)) e
