-- The lines so far.
use Rattle.recalc.specs.Layout.{cols_in}
use Rattle.show.specs.Listing.{cell_line}
use Rattle.show.proofs.Texts.{Written}
use Rattle.show.proofs.listing.ListingDisplay.fmt.Given as goal

abbrev pub invariant-loop-k : goal.invariant-loop-k
invariant-loop-k g l = Written g.W.Write.write_str_gives (cell_line (cols_in l.self.sheet.nums.now) l.self.sheet.nums.now) l.initial.f l.k l.f
