-- The root in a list of cells with landing entries is the root of the graph that the tables hold.
-- Assumes nothing.
use Rattle.std.specs.Prelude.{ℕ, ◌^◌, ◌≤◌, ◌<◌, ◌≡◌, refl, List, T}
use Rattle.std.proofs.Common.{sym, ◌∙◌, subst}
use Rattle.std.proofs.Math.Option.{some}
use Rattle.std.proofs.Math.Pow.{ones_lt}
use Rattle.limits.specs.Limits.{no_cost}
use Rattle.lists.proofs.Cheapest.{cheapest_found, cheapest_same}
use Rattle.subset.specs.Sets.{full}
use Rattle.lent_tables.specs.SheetTables.{SheetTables}
use Rattle.landing_entries.specs.Entries.{is_sender_at}
use Rattle.graph.specs.HeldGraph.{graph_in, may_root_in}
use Rattle.graph.specs.Layout.{root_of}
use Rattle.cost_table.specs.Cells.{cell_in}
use Rattle.cost_table.specs.Cheapest.{column_in, sender_column, LowestTo}
use Rattle.cost_table.proofs.laws.Senders.{lowest_sender, no_sender_lem}
use Rattle.layout.specs.Root.{full_cell_in}

-- the full set is one of the 2^k sets
pub full_in : (k w : ℕ) → w ≡ full k → w < 2 ^ k
full_in k w whole = subst (λ (x : ℕ). x < 2 ^ k) (sym whole) (ones_lt k)

-- the cheapest sender of the full set
pub lowest_full : (k : ℕ) (cells landings : List ℕ) (n w r : ℕ) → w ≡ full k → LowestTo (sender_column cells landings k w) n r
    → LowestTo (full_cell_in k cells landings) n r
lowest_full k cells landings n w r whole h = subst (λ (x : ℕ). LowestTo (sender_column cells landings k x) n r) whole h

-- where its cell is finite, it is the root of the graph that the tables hold, whatever its arcs are
module _ (n k m : ℕ) (t : SheetTables) (cells : List ℕ) (r : ℕ) (h : LowestTo (full_cell_in k cells t.landings) n r) where
  pub lowest_root : full_cell_in k cells t.landings r < no_cost → root_of (graph_in n k m t) (cell_in cells (2 ^ k)) ≡ some r
  lowest_root finite =
      cheapest_same (graph_in n k m t).may_root (is_sender_at t.landings) (column_in cells k (full k)) (column_in cells k (full k)) n
      (may_root_in n k m t) (λ u l. refl)
      ∙ cheapest_found (is_sender_at t.landings) (column_in cells k (full k)) n r
      (lowest_sender (is_sender_at t.landings) (column_in cells k (full k)) n r h finite)

  -- where it is "none", every full-set cell of a node that may be a root is
  pub lowest_none : no_cost ≤ full_cell_in k cells t.landings r → (u : ℕ) → u < n → T ((graph_in n k m t).may_root u)
      → no_cost ≤ cell_in cells (2 ^ k) u (full k)
  lowest_none none u l may = no_sender_lem (is_sender_at t.landings) (column_in cells k (full k)) n r h none u l (subst T (may_root_in n k m t u l) may)
