-- `layout_parts::splitting_part` meets its contract. The loop's invariant: no number so far splits the set.
-- Assumes nothing.
use Rattle.std.proofs.Common.{ℕ, ◌<◌, not, T}
use Rattle.layout_parts.specs.Parts.{splits_in}
use Rattle.layout_parts.proofs.splitting_part.Given as goal

abbrev pub invariant-loop-y : goal.invariant-loop-y
invariant-loop-y l = (j : ℕ) → j < l.y → T (not (splits_in l.sheet.terminals l.sheet.cells.now l.v l.w.0 j))
