-- The graph that lent tables hold for n nodes, k terminals and m arcs: the first m entries of the tables of starts, ends and weights, and what
-- the first n landing entries say: the terminals, and whether the node may be a root. Past them every value is 0. No node is charged.
-- Assumes nothing.
use Rattle.std.specs.Prelude.{ℕ, ◌<◌, ◌≡◌, get_or, take}
use Rattle.std.proofs.Common.{ap, get_or-take}
use Rattle.landing_entries.specs.Entries.{terminals_in, sender_in}
use Rattle.lent_tables.specs.SheetTables.{SheetTables}
use Rattle.graph.specs.Graph.{Graph}

abbrev pub graph_in : (n k m : ℕ) → SheetTables → Graph
graph_in n k m t = record {
  nodes = n;
  terminals = k;
  arcs = m;
  start = λ e. get_or (take m t.starts) e 0;
  end = λ e. get_or (take m t.ends) e 0;
  weight = λ e. get_or (take m t.weights) e 0;
  landings = λ v. terminals_in (get_or (take n t.landings) v 0);
  charge = λ v. 0;
  may_root = λ v. sender_in (get_or (take n t.landings) v 0);
}

-- ---- as a program reads it

module _ (n k m : ℕ) (t : SheetTables) where
  module _ (e : ℕ) (h : e < m) where
    pub start_in : (graph_in n k m t).start e ≡ get_or t.starts e 0
    start_in = get_or-take m t.starts e 0 h

    pub end_in : (graph_in n k m t).end e ≡ get_or t.ends e 0
    end_in = get_or-take m t.ends e 0 h

    pub weight_in : (graph_in n k m t).weight e ≡ get_or t.weights e 0
    weight_in = get_or-take m t.weights e 0 h

  pub landings_in : (v : ℕ) → v < n → (graph_in n k m t).landings v ≡ terminals_in (get_or t.landings v 0)
  landings_in v h = ap terminals_in (get_or-take n t.landings v 0 h)

  pub may_root_in : (v : ℕ) → v < n → (graph_in n k m t).may_root v ≡ sender_in (get_or t.landings v 0)
  may_root_in v h = ap sender_in (get_or-take n t.landings v 0 h)
