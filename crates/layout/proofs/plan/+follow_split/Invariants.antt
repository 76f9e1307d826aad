-- The measures of `layout::plan::follow` and `split`: the size of the set combined with the cell's cost. It does not rise with a walk, it falls with
-- every split, and following comes before splitting the same set.
-- Assumes nothing.
use Rattle.std.proofs.Common.{◌+◌}
use Rattle.layout_walk.specs.laws.Arcs.{load}
use Rattle.layout.proofs.plan.+follow_split.Given as goal

abbrev pub decreases-follow : goal.decreases-follow
decreases-follow l = load l.sheet.now.terminals l.sheet.now.cells.now l.v l.w.0 + load l.sheet.now.terminals l.sheet.now.cells.now l.v l.w.0 + 1

abbrev pub decreases-split : goal.decreases-split
decreases-split l = load l.sheet.now.terminals l.sheet.now.cells.now l.v l.w.0 + load l.sheet.now.terminals l.sheet.now.cells.now l.v l.w.0
