-- `layout_steps::pass_blocks` meets its contract. The loop's invariant: the legs before i, from `from` on, are passed over.
-- Assumes nothing.
use Rattle.layout_steps.specs.laws.Passing.{PassedOver}
use Rattle.layout_steps.proofs.pass_blocks.Given as goal

abbrev pub invariant-loop-i : goal.invariant-loop-i
invariant-loop-i l = PassedOver l.starts l.v l.from l.arcs l.i
