-- `set_ranges::put_sizes` meets its contract. The loop's invariant: the sizes of the sets so far are written.
-- Assumes nothing.
use lib.Count.{ones}
use Rattle.lists.specs.Values.{ValuesTo}
use Rattle.set_ranges.proofs.put_sizes.Given as goal

abbrev pub invariant-loop-w : goal.invariant-loop-w
invariant-loop-w l = ValuesTo ones l.w l.initial.sizes l.sizes
