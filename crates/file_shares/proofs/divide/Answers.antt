-- `file_shares::divide` meets its contract: the parents, the seats and the prices of the plan that the tables have.
-- Assumes nothing.
use Rattle.std.proofs.Common.{arith}
use Rattle.serving.specs.laws.Serving.{no_parents, none_served}
use Rattle.file_shares.proofs.laws.PlanWays.{plan_within, plan_ways}
use Rattle.file_shares.proofs.laws.Dividing.{listed_ready, divided}
use Rattle.file_shares.proofs.divide.Goals as goal

pub set_parents-requires : goal.set_parents-requires
set_parents-requires c =
    let ready = c.requires.0.ready in
    (plan_within ready, no_parents 1024, omega arith)

pub serve-requires : goal.serve-requires
serve-requires c =
    let ready = c.requires.0.ready in (
      plan_ways ready _ c.set_parents.auto.parents c.set_parents.ensures,
      ready.few_terminals,
      ready.landed,
      omega (arith, ready.few_nodes, c.set_parents.auto.parents),
      omega (arith, c.set_parents.auto.parents),
      none_served 1024,
    )

pub split_listed-requires : goal.split_listed-requires
split_listed-requires c =
    let ready = c.requires.0.ready in
    listed_ready ready _ c.set_parents.auto.parents c.set_parents.ensures _ c.serve.auto.served c.serve.ensures c.requires.1

pub returns : goal.returns
returns c G root ready =
    divided ready _ c.set_parents.auto.parents c.set_parents.ensures _ c.serve.auto.served c.serve.ensures
    c.requires.1 c.split_listed.ensures
