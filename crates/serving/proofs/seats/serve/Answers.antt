-- `serving::seats::serve` meets its contract.
-- Assumes nothing.
use Rattle.std.proofs.Common.{ℕ, ◌≡◌, subst, arith}
use Rattle.serving.specs.Seats.{ServedBy}
use Rattle.serving.specs.laws.Serving.{serving_next}
use Rattle.serving.proofs.seats.serve.Goals as goal

pub loop-i-preserved : goal.loop-i-preserved
loop-i-preserved c ways = serving_next _ ways _ _ _ _ _ (c.loop-i.invariant ways) (c.enter_terminal.ensures ways)

pub returns : goal.returns
returns c ways =
    let a = c.args in
    let e : c.loop-i.i ≡ a.k = omega arith in
    subst (λ (k : ℕ). ServedBy a.parents.now ways a.marks.now a.landings.now k c.loop-i.served) e (c.loop-i.invariant ways)
