-- What the dividing of a plan asks and gives: the first records of a file list the arcs of a plan, the tables have its starts, ends, weights and
-- landing entries, and the marks are those of the nodes that it reaches.
-- Assumes nothing.
use Rattle.std.specs.Prelude.{ℕ, ◌≤◌, ◌<◌, ◌≡◌, List, T, length, get_or}
use Rattle.limits.specs.Limits.{max_nodes, max_terminals, no_cost}
use Rattle.lists.specs.Listed.{listed}
use Rattle.lists.specs.Sums.{sum_by}
use Rattle.landing_entries.specs.Entries.{terminals_in}
use Rattle.lent_tables.specs.SheetTables.{SheetTables}
use Rattle.graph.specs.Graph.{Graph, Sound}
use Rattle.graph.specs.Subtrees.{Subtree}
use Rattle.planfile.specs.Format.{file_size, arcs_to}
use Rattle.reaching.specs.Marks.{marks_of}
use Rattle.plan_shares.specs.Shares.{shares_of, unassigned}

-- arc e of the graph stands in the tables
pub record ArcHeld (G : Graph) (t : SheetTables) (e : ℕ) : Type 0 where
  pub in_starts : e < length t.starts
  pub in_ends : e < length t.ends
  pub in_weights : e < length t.weights
  pub start : G.start e ≡ get_or t.starts e 0
  pub end : G.end e ≡ get_or t.ends e 0
  pub weight : G.weight e ≡ get_or t.weights e 0

pub record PlanReady (G : Graph) (root : ℕ) (file : List ℕ) (count k : ℕ) (t : SheetTables) (marks : List ℕ) : Type 0 where
  pub sound : Sound G
  pub nodes : G.nodes ≡ length marks
  pub few_nodes : length marks ≤ max_nodes
  pub terminals : G.terminals ≡ k
  pub few_terminals : k ≤ max_terminals
  pub whole : file_size count ≤ length file
  pub tree : Subtree G root (arcs_to file count)
  pub held : (e : ℕ) → T (listed e (arcs_to file count)) → ArcHeld G t e
  pub landed : length marks ≤ length t.landings
  pub landings : (v : ℕ) → v < length marks → G.landings v ≡ terminals_in (get_or t.landings v 0)
  pub marked : marks ≡ marks_of G (arcs_to file count) root
  pub low : sum_by G.weight (arcs_to file count) ≤ no_cost

-- there is such a plan
pub record SomePlan (file : List ℕ) (count k : ℕ) (t : SheetTables) (marks : List ℕ) : Type 0 where
  pub G : Graph
  pub root : ℕ
  pub ready : PlanReady G root file count k t marks

-- the shares and the unassigned sum are those of the plan
pub record Divided (G : Graph) (root : ℕ) (file : List ℕ) (count : ℕ) (shares : List ℕ) (rest : ℕ) : Type 0 where
  pub paid : shares ≡ shares_of G root (arcs_to file count)
  pub unpaid : rest ≡ unassigned G root (arcs_to file count)
