-- `serving::parents::enter_above` meets its contract.
-- Assumes nothing.
use Rattle.std.proofs.Common.{ℕ, ◌+◌, sym, subst, get_or, set}
use Rattle.serving.specs.Parents.{EnteredBy}
use Rattle.serving.specs.laws.WaysUp.{Upward, upward_next, upward_top}
use Rattle.serving.proofs.parents.enter_above.Goals as goal

pub returns-then-parent : goal.returns-then-parent
returns-then-parent c ways =
    let a = c.args in
    let up = c.loop in
    subst (λ (x : ℕ). EnteredBy a.parents.now ways a.seat a.terminal.0 a.served.now (set up.served up.v x)) (sym c.union-entered.ensures)
    (upward_top _ ways _ _ _ up.served up.v up.auto.served up.invariant.0 c.requires.2 (up.invariant.1 ways) c.if-parent.true)

pub loop-preserved : goal.loop-preserved
loop-preserved c =
    let a = c.args in
    let up = c.loop in
    let pre = c.requires in (
      (pre.0.falls up.v up.invariant.0 c.if-parent.false).0,
      λ ways.
          subst (λ (x : ℕ). Upward a.parents.now ways a.seat a.terminal.0 a.served.now (set up.served up.v x) (get_or a.parents.now up.v 0) (up.counter + 1))
          (sym c.union-entered.ensures)
          (upward_next _ ways _ _ _ up.served up.v up.auto.served up.invariant.0 pre.2 (up.invariant.1 ways) c.if-parent.false),
    )
