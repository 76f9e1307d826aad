-- `cost_table::cheapest::cheapest_sender` meets its contract. The loop's invariant: the site so far is the lowest of the cheapest of the first v
-- sites, with the cells of senders.
-- Assumes nothing.
use Rattle.cost_table.specs.Cheapest.{sender_column, LowestTo}
use Rattle.cost_table.proofs.cheapest.cheapest_sender.Given as goal

abbrev pub invariant-loop-v : goal.invariant-loop-v
invariant-loop-v l = LowestTo (sender_column l.cells l.landings l.k l.w.0) l.v l.node
