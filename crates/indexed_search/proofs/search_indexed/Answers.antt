-- `indexed_search::search_indexed` meets its contract.
-- Assumes nothing.
use Rattle.std.proofs.Common.{rules}
use Rattle.network.proofs.HeldSheet.{held_index}
use Rattle.indexed_search.proofs.search_indexed.Goals as goal

pub search-requires : goal.search-requires
search-requires c =
    let H = c.requires in
    let a = c.args in
    let made = c.index_arcs.ensures in (
      search rules,
      held_index H a.by_end.now a.places.now H.long.further.by_end H.long.further.places made.0 made.1,
      search rules,
      search rules,
    )
