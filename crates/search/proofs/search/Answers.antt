-- `search::search` meets its contract.
-- Assumes nothing.
use Rattle.std.proofs.Common.{arith, rules}
use Rattle.search.specs.laws.Whole.{size_fits, fill_asked}
use Rattle.search.specs.laws.KeptArcs.{index_asked, kept_indexed, kept_covers}
use Rattle.search.proofs.search.Goals as goal

pub sets_below-count-requires : goal.sets_below-count-requires
sets_below-count-requires c = (search rules, size_fits c.requires.0 c.sets_of-size.ensures)

pub keep_cheapest-requires : goal.keep_cheapest-requires
keep_cheapest-requires c = let p = c.requires in (index_asked p.0 p.1, omega arith, omega (arith, p.0.few_nodes))

pub fill-requires : goal.fill-requires
fill-requires c =
    let p = c.requires in
    let long = c.keep_cheapest.auto.kept in
    let places = c.keep_cheapest.auto.begins in
    fill_asked p.0 c.sets_of-size.ensures _ c.args.cells.now _ p.2 (omega arith) (search rules) c.sets_below-count.ensures
    (kept_indexed p.0 p.1 c.keep_cheapest.ensures (omega (arith, long)) (omega (arith, places, p.0.few_nodes))) (kept_covers p.0 p.1 c.keep_cheapest.ensures)
