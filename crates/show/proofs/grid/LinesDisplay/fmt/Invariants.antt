-- The rows so far.
use Rattle.show.specs.Grids.{between, row_text}
use Rattle.show.proofs.Texts.{Written}
use Rattle.show.proofs.grid.LinesDisplay.fmt.Given as goal

abbrev pub invariant-loop-row : goal.invariant-loop-row
invariant-loop-row g l = Written g.W.Write.write_str_gives (row_text (between l.self.between.now (g.G.Grid.text l.self.grid.now)) l.self.cols) l.initial.f l.row l.f
