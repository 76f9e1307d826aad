-- The limits of document 01, "The sheet" and "The cost table", and the flag of document 02, W-201.
-- Assumes nothing.
use Rattle.std.specs.Prelude.{ℕ, ◌^◌}

-- the fewest sites of a sheet
abbrev pub min_nodes : ℕ
min_nodes = 1

-- the most sites of a sheet
abbrev pub max_nodes : ℕ
max_nodes = 1024

-- the fewest stations of a sheet
abbrev pub min_terminals : ℕ
min_terminals = 1

-- the most stations of a sheet
abbrev pub max_terminals : ℕ
max_terminals = 10

-- the most legs of a sheet
abbrev pub max_arcs : ℕ
max_arcs = 8192

-- the number of sets of stations
abbrev pub max_subsets : ℕ
max_subsets = 2 ^ max_terminals

-- what a landing entry has more for a site that is a sender
abbrev pub sender_flag : ℕ
sender_flag = 1024

-- the least price of a leg, in cents
abbrev pub min_weight : ℕ
min_weight = 1

-- the greatest price of a leg, in cents
abbrev pub max_weight : ℕ
max_weight = 1_000_000

-- the cell of a site and a set that no directed subtree serves: "none"
abbrev pub no_cost : ℕ
no_cost = 4_294_967_295
