-- `set_ranges::end_of_size` meets its contract: it is the end of the positions of one size.
-- Assumes nothing.
use Rattle.set_ranges.specs.laws.Listed.{size_end}
use Rattle.set_ranges.proofs.end_of_size.Goals as goal

pub returns : goal.returns
returns c = size_end c.size_range-range.ensures
