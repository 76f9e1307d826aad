-- The tests of one step of the layout, over what the tables hold (document 01, "Laying out a plan"). Each is a test of the graph in the tables;
-- the parts of the graph that it does not look at are left empty.
-- Assumes nothing.
use Rattle.std.specs.Prelude.{Some, None, ℕ, ◌+◌, ◌*◌, ◌^◌, ◌≤◌, ◌<◌, Bool, ◌&&◌, ◌||◌, List, eqb, ltb, length, get_or}
use Rattle.std.proofs.Math.Option.{Option, none, some}
use Rattle.std.specs.Int.Count.{ones}
use Rattle.limits.specs.Limits.{max_terminals, no_cost}
use Rattle.subset.specs.Sets.{is_part}
use Rattle.landing_entries.specs.Entries.{terminals_in}
use Rattle.lent_tables.specs.SheetTables.{SheetTables, Long}
use Rattle.graph.specs.HeldGraph.{graph_in}
use Rattle.graph.specs.Layout.{fits}
use Rattle.cost_table.specs.Cells.{cell_in}

-- nothing is added at a node with this landing entry: w is empty, or it is one terminal, and that has a landing there
abbrev pub done_at : (entry w : ℕ) → Bool
done_at entry w = eqb w 0 || (eqb (ones w) 1 && is_part w (terminals_in entry))

-- an arc with this start and weight fits at v, where its end's cell is `far` and v's cell is `cost`
abbrev pub values_fit : (start weight far v cost : ℕ) → Bool
values_fit start weight far v cost = eqb start v && (ltb far no_cost && eqb (weight + far) cost)

-- arc e fits at v with w
abbrev pub fits_in : (k m : ℕ) → SheetTables → (cells : List ℕ) → (v w e : ℕ) → Bool
fits_in k m t cells = fits (graph_in 0 k m t) (cell_in cells (2 ^ k)) no_cost

-- what a search gives in code, by the number found
abbrev pub found_as : Option ℕ → Rattle.std.specs.Prelude.Option ℕ
found_as (some x) = Some x
found_as none = None

-- the tables hold m arcs, and the cells of v and of each arc's end with w
pub record ArcsHeld (k m : ℕ) (t : SheetTables) (cells : List ℕ) (v w : ℕ) : Type 0 where
  pub terminals : k ≤ max_terminals
  pub long : Long 0 m t
  pub here : v * 2 ^ k + w < length cells
  pub there : (e : ℕ) → e < m → get_or t.ends e 0 * 2 ^ k + w < length cells
