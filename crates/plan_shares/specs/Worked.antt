-- Shares of small plans, computed by the definitions: sheet A's plan; one price over three stations; two stations with one seat; a station with two
-- held landings; a leg that serves no station; a seat at the root; a path below a leg.
-- Assumes nothing.
use Rattle.std.specs.Prelude.{ℕ, ◌≡◌, refl, List, [], ◌∷◌, length}
use Rattle.std.proofs.Math.Option.{none, some}
use Rattle.lent_tables.specs.SheetTables.{sheet_tables}
use Rattle.graph.specs.Graph.{Graph}
use Rattle.graph.specs.HeldGraph.{graph_in}
use Rattle.plan_shares.specs.Shares.{seat, shares_of, unassigned}

-- a graph by its lists: the starts, ends and weights of its arcs, and the sets of terminals heard at its nodes
abbrev graph : (terminals : ℕ) (starts ends weights landings : List ℕ) → Graph
graph terminals starts ends weights landings = graph_in (length landings) terminals (length starts) (sheet_tables starts ends weights landings)

-- the shares and the unassigned sum of a plan
pub record Shared (G : Graph) (root : ℕ) (L shares : List ℕ) (rest : ℕ) : Type 0 where
  pub paid : shares_of G root L ≡ shares
  pub unpaid : unassigned G root L ≡ rest

-- sheet A: legs 0 to 1, 1 to 2, 1 to 3, 0 to 2, 0 to 3; station 0 at site 2, station 1 at site 3, station 2 at site 0
abbrev graph_a : Graph
graph_a = graph 3 (0 ∷ 1 ∷ 1 ∷ 0 ∷ 0 ∷ []) (1 ∷ 2 ∷ 3 ∷ 2 ∷ 3 ∷ []) (4 ∷ 3 ∷ 3 ∷ 5 ∷ 6 ∷ []) (4 ∷ 0 ∷ 1 ∷ 2 ∷ [])

-- one leg at 10 to a site where stations 0, 1 and 2 are heard; and one where 0 and 2 are, and 1 at the root
abbrev graph_three : Graph
graph_three = graph 3 (0 ∷ []) (1 ∷ []) (10 ∷ []) (0 ∷ 7 ∷ [])

abbrev graph_two : Graph
graph_two = graph 3 (0 ∷ []) (1 ∷ []) (11 ∷ []) (2 ∷ 5 ∷ [])

-- a row of three legs, 0 to 1 to 2 to 3: station 0 is heard at sites 3 and 1, station 1 at site 2
abbrev graph_row : Graph
graph_row = graph 2 (0 ∷ 1 ∷ 2 ∷ []) (1 ∷ 2 ∷ 3 ∷ []) (7 ∷ 5 ∷ 3 ∷ []) (0 ∷ 1 ∷ 2 ∷ 1 ∷ [])

pub settled :
    Shared graph_a 0 (0 ∷ 1 ∷ 2 ∷ []) (5 ∷ 5 ∷ 0 ∷ []) 0
    × Shared graph_a 0 (3 ∷ 4 ∷ []) (5 ∷ 6 ∷ 0 ∷ []) 0
    × Shared graph_three 0 (0 ∷ []) (4 ∷ 3 ∷ 3 ∷ []) 0
    × Shared graph_two 0 (0 ∷ []) (6 ∷ 0 ∷ 5 ∷ []) 0
    × (seat graph_row 0 (2 ∷ 1 ∷ 0 ∷ []) 0 ≡ some 1)
    × (seat graph_row 2 (2 ∷ []) 0 ≡ some 3)
    × (seat graph_row 0 (0 ∷ []) 1 ≡ none)
    × Shared graph_row 0 (0 ∷ 1 ∷ 2 ∷ []) (4 ∷ 8 ∷ []) 3
    × Shared graph_row 0 (0 ∷ 1 ∷ []) (4 ∷ 8 ∷ []) 0
    × Shared graph_row 1 (1 ∷ []) (0 ∷ 5 ∷ []) 0
    × Shared graph_row 1 (1 ∷ 2 ∷ []) (0 ∷ 5 ∷ []) 3
settled = (
  record { paid = refl; unpaid = refl },
  record { paid = refl; unpaid = refl },
  record { paid = refl; unpaid = refl },
  record { paid = refl; unpaid = refl },
  refl,
  refl,
  refl,
  record { paid = refl; unpaid = refl },
  record { paid = refl; unpaid = refl },
  record { paid = refl; unpaid = refl },
  record { paid = refl; unpaid = refl },
)
