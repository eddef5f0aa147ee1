-- The entries so far.
use Rattle.show.specs.Grids.{between}
use Rattle.show.proofs.Texts.{Written}
use Rattle.show.proofs.grid.RowDisplay.fmt.Given as goal

abbrev pub invariant-loop-col : goal.invariant-loop-col
invariant-loop-col g l = Written g.W.Write.write_str_gives (between l.self.between.now (g.G.Grid.text l.self.grid.now) l.self.row) l.initial.f l.col l.f
