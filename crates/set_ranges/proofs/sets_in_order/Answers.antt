-- `set_ranges::sets_in_order` meets its contract: the index of the sets by their size is their order.
-- Assumes nothing.
use Rattle.std.proofs.Common.{refl, sym, length-take-le}
use Rattle.set_ranges.specs.laws.Listed.{few_sets, index_asked, sets_listed}
use Rattle.set_ranges.proofs.sets_in_order.Goals as goal

pub slice_bounds-sizes-end : goal.slice_bounds-sizes-end
slice_bounds-sizes-end c = few_sets _ c.requires.0 c.sets_of-count.ensures

pub slice_bounds-put_sizes-end : goal.slice_bounds-put_sizes-end
slice_bounds-put_sizes-end c = sym (length-take-le _ _ (few_sets _ c.requires.0 c.sets_of-count.ensures))

pub index_arcs-requires : goal.index_arcs-requires
index_arcs-requires c =
    index_asked _ _ _ _ c.args.sets.now c.requires.0 c.sets_of-count.ensures refl c.put_sizes.auto.sizes c.put_sizes.ensures c.requires.1

pub returns : goal.returns
returns c =
    sets_listed _ _ _ c.put_sizes.new.sizes c.args.sets.now c.requires.0 c.sets_of-count.ensures refl c.put_sizes.ensures c.index_arcs.ensures.0
