-- `plan_tests::marked_terminals` meets its contract.
-- Assumes nothing.
use Rattle.std.proofs.Common.{sym, ap₂, ◌∙◌}
use Rattle.subset.specs.Sets.{union}
use Rattle.subset.proofs.Unions.{union_to_more}
use Rattle.plan_tests.specs.ByMarks.{terminals_marked}
use Rattle.plan_tests.proofs.marked_terminals.Goals as goal

pub loop-v-preserved : goal.loop-v-preserved
loop-v-preserved c =
    let a = c.args in
    c.union-terminals.ensures ∙ ap₂ union c.loop-v.invariant c.terminals_if.ensures
    ∙ sym (union_to_more c.loop-v.v (terminals_marked a.marks.now a.landings.now))
