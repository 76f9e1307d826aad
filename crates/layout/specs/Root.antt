-- The root of a plan in a list of cells for k terminals, with the landing entries (document 01, "Laying out a plan"): "The root is the lowest site
-- whose full-set cell is least", among the senders (document 02, W-201): "The root is the lowest cheapest sender." It is `LowestTo` of crate
-- cost_table with this function, where that is finite.
-- Assumes nothing.
use Rattle.std.specs.Prelude.{ℕ, List}
use Rattle.subset.specs.Sets.{full}
use Rattle.cost_table.specs.Cheapest.{sender_column}

-- a sender's full-set cell; any other node has "none"
abbrev pub full_cell_in : (k : ℕ) → (cells landings : List ℕ) → ℕ → ℕ
full_cell_in k cells landings = sender_column cells landings k (full k)
