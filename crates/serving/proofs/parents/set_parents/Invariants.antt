-- `serving::parents::set_parents` meets its contract. The loop's invariant: the parents by the first i listed legs are set.
-- Assumes nothing.
use Rattle.std.proofs.Common.{get_or}
use Rattle.planfile.specs.Format.{arcs_to}
use Rattle.serving.specs.Parents.{Parents}
use Rattle.serving.proofs.parents.set_parents.Given as goal

abbrev pub invariant-loop-i : goal.invariant-loop-i
invariant-loop-i l = Parents (λ e. get_or l.arcs.starts.now e 0) (λ e. get_or l.arcs.ends.now e 0) (arcs_to l.arcs.listing.file.now l.i) l.parents
