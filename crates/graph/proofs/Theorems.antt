-- The theorems, each a statement over the definitions of this folder. The laws that prove them are in laws/. A sentence in quotation marks
-- is document 01's, unless another document is named.
-- Assumes nothing.
use Rattle.std.specs.Prelude.{ℕ, suc, ◌+◌, ◌-◌, ◌*◌, ◌^◌, ◌≤◌, ◌<◌, ◌≡◌, refl, ◌≢◌, ◌⊎◌, ◌↔◌, not, List, [], ◌∷◌, ◌++◌, T, length}
use Rattle.std.proofs.Common.{sym, subst, arith}
use Rattle.std.proofs.Math.Option.{none, some}
use Rattle.std.specs.Int.Count.{ones}
use Rattle.std.proofs.Math.Pow.{ones_lt}
use Rattle.lists.specs.Every.{Every}
use Rattle.lists.specs.Count.{bit, count}
use Rattle.lists.specs.Find.{first}
use Rattle.lists.specs.Cheapest.{LowestCheapest}
use Rattle.lists.proofs.Cheapest.{found_cheapest, none_found}
use Rattle.lists.specs.Listed.{listed, every_listed, Distinct}
use Rattle.lists.specs.Sums.{same_count, sum_to}
use Rattle.subset.specs.Sets.{full, single, Part}
use Rattle.subset.specs.laws.Parts.{full_every, full_ne}
use Rattle.graph.specs.Graph.{Graph, Sound, Landing}
use Rattle.graph.specs.Paths.{DirectedPath, Reaches, ReachesAll, reached_in, is_reached, reached_nodes, Touched, OnePath}
use Rattle.graph.specs.Subtrees.{Subtree, held, Covers, CoversAll, total, is_tree, is_subtree, is_covering}
use Rattle.graph.specs.LeastTotals.{least_total, least_cell, NoSubtree, Least, IsLeastTotal, IsCostTable, Room}
use Rattle.graph.specs.Growth.{first_extending, kept_then, grow_in, grow, kept}
use Rattle.graph.specs.ClosedSupported.{Closed, Supported, Capped, StartedSet, ClosedSet}
use Rattle.graph.specs.Layout.{is_done, fits, splits, follow_in, layout_in, layout, root_of}
use Rattle.graph.proofs.laws.Holding.{held_reached, reached_held}
use Rattle.graph.proofs.laws.SubtreeParts.{start_reached}
use Rattle.graph.proofs.laws.SubtreeSize.{subtree_length}
use Rattle.graph.proofs.laws.Growing.{grow_enough, grow_rule, parts_count, kept_subtree, reached_kept, kept_reached, kept_total}
use Rattle.graph.proofs.laws.Growing.{kept_all, subtree_kept, kept_same, whole_subtree, counts_whole}
use Rattle.graph.proofs.laws.ReachTest.{reached_path, path_reached, reached_enough, reached_node, node_reached}
use Rattle.graph.proofs.laws.SubtreeTest.{tree_subtree, subtree_tree, test_subtree, subtree_passes, test_covers, covers_passes}
use Rattle.graph.proofs.laws.ReachedCount.{subtree_count, count_subtree}
use Rattle.graph.proofs.laws.LowerBound.{subtree_lower}
use Rattle.graph.proofs.laws.UpperBound.{attain}
use Rattle.graph.proofs.laws.LeastMeaning.{least_total_lem, uncharged_right, least_bound, room_charge}
use Rattle.graph.proofs.laws.CostTable.{both_cost_table, cost_table_capped, cost_table_closed, cost_table_supported}
use Rattle.graph.proofs.laws.LayoutRule.{arc_falls, follow_enough, layout_enough, layout_nothing, layout_arc, layout_split}
use Rattle.graph.proofs.laws.LayoutTotal.{layout_subtree, step_passes, arc_found, part_found, split_measure}
use Rattle.graph.proofs.laws.SameCells.{same_layout as layouts-agree, same_root as roots-agree}
use Rattle.graph.proofs.laws.Settling.{splits_start, started_lower, arcs_close, closed_kept}
use Rattle.graph.proofs.laws.Finite.{cell_finite, full_finite, full_none}
use Rattle.graph.proofs.laws.PartCells.{parts_below}
use Rattle.graph.proofs.laws.Roots.{root_lower}
use Rattle.graph.proofs.laws.UniquePaths.{subtree_one_path, one_path_subtree, subtree_distinct, subtree_no_loop, touched_held}

-- ==== Tests, and definitions with a number of turns

-- each test passes exactly where the definition beside it in its statement holds
pub reach_test : (G : Graph) (L : List ℕ) (u v : ℕ) → T (is_reached G L u v) ↔ DirectedPath G L u v
reach_test G L u v = (reached_path G L u (length L) v, path_reached G L u v)

pub node_test : (G : Graph) (L : List ℕ) (u v : ℕ) → T (listed v (reached_nodes G L u)) ↔ ((v < G.nodes) × DirectedPath G L u v)
node_test G L u v = (reached_node G L u v, λ h. node_reached G L u v h.0 h.1)

pub subtree_test : (G : Graph) (r : ℕ) (L : List ℕ) → T (is_subtree G r L) ↔ Subtree G r L
subtree_test G r L = (test_subtree G r L, subtree_passes G r L)

-- arcs of the graph, with a node for the root, are a directed subtree exactly where they are a tree by document 01's three clauses
pub tree_test : (G : Graph) (r : ℕ) (L : List ℕ) → r < G.nodes → Every (λ e. e < G.arcs) L → T (is_tree G r L) ↔ Subtree G r L
tree_test G r L on arcs = (tree_subtree G r L on arcs, subtree_tree G r L)

pub covers_test : (G : Graph) (r : ℕ) (L : List ℕ) (w : ℕ) → T (is_covering G r L w) ↔ Covers G r L w
covers_test G r L w = (test_covers G r L w, covers_passes G r L w)

-- to hold a landing of each terminal of the full set is to hold one of every terminal
pub covers_all : (G : Graph) (r : ℕ) (L : List ℕ) → Covers G r L (full G.terminals) ↔ CoversAll G r L
covers_all G r L = (λ cov i l. cov i l (full_every G.terminals (full G.terminals) refl i l), λ all i l _. all i l)

-- more turns than the definition takes change nothing
pub reach_turns : (G : Graph) (L : List ℕ) (u m v : ℕ) → length L ≤ m → listed v (reached_in m G L u) ≡ is_reached G L u v
reach_turns = reached_enough

pub grow_turns : (G : Graph) (m : ℕ) (H L : List ℕ) → length L ≤ m → grow_in m G H L ≡ grow G H L
grow_turns = grow_enough

pub follow_turns : (G : Graph) → Sound G → (c : ℕ → ℕ → ℕ) (top : ℕ) (lay : ℕ → ℕ → List ℕ) (m v w : ℕ) → c v w < m
    → follow_in m G c top lay v w ≡ follow_in (suc (c v w)) G c top lay v w
follow_turns = follow_enough

pub layout_turns : (G : Graph) → Sound G → (c : ℕ → ℕ → ℕ) (top m v w : ℕ) → w < m → layout_in m G c top v w ≡ layout G c top v w
layout_turns = layout_enough

-- the rules without turns. Document 02, W-211: "the first listed leg from a held site to an unheld one is kept, again and again"
pub growth_rule : (G : Graph) (H L : List ℕ) → grow G H L ≡ kept_then (first_extending G H L) (λ e. grow G (G.end e ∷ H) L)
growth_rule = grow_rule

-- "Laying out a plan", of any cell function
module _ (G : Graph) (sound : Sound G) (c : ℕ → ℕ → ℕ) (top v w : ℕ) where
  -- "nothing is added when W is empty, or when W is one station and v is its landing"
  pub rule_nothing : T (is_done G v w) → layout G c top v w ≡ []
  rule_nothing = layout_nothing G sound c top v w

  -- "Otherwise the lowest-numbered leg from v whose price plus the finite cell (end, W) equals cell (v, W) is added, and its end is
  -- followed with W"
  pub rule_arc : (e : ℕ) → T (not (is_done G v w)) → first (fits G c top v w) G.arcs ≡ some e
      → layout G c top v w ≡ e ∷ layout G c top (G.end e) w
  rule_arc = layout_arc G sound c top v w

  -- "If there is none, W is split: the lowest Y within W ..; Y is laid first, then the rest"
  pub rule_split : (y : ℕ) → T (not (is_done G v w)) → first (fits G c top v w) G.arcs ≡ none → first (splits G c v w) w ≡ some y
      → layout G c top v w ≡ layout G c top v y ++ layout G c top v (w - y)
  rule_split = layout_split G sound c top v w

-- ==== 1. The computed least total is the least

-- "the least total of a directed subtree with root v that holds a landing of each station in W, or .. where none exists"
pub least_total_is_least : (G : Graph) (v w : ℕ) → IsLeastTotal G v w (least_total G v w)
least_total_is_least = least_total_lem

-- there is only one
pub one_least : (G : Graph) (v w x y : ℕ) → Least G v w x → Least G v w y → x ≡ y
one_least G v w x y a b =
    omega (arith, a.attained, b.attained, a.least b.tree b.subtree b.covers, b.least a.tree a.subtree a.covers)

-- so each cell of a cost table is the least total, or `top` where there is none; the empty set's too, where no node is charged
pub cell_is_least : (G : Graph) (top : ℕ) (c : ℕ → ℕ → ℕ) → IsCostTable G c top → ((v : ℕ) → G.charge v ≡ 0)
    → (v w : ℕ) → v < G.nodes → w < 2 ^ G.terminals → Least G v w (c v w) ⊎ ((c v w ≡ top) × NoSubtree G v w)
cell_is_least = uncharged_right

-- "A finite cell is at most 1,000,000 times (n − 1)"; document 02, W-210: "The finite limit grows by 1,000,000 times n". No weight is above
-- p, and no charge above q.
pub least_total_limit : (G : Graph) → Sound G → (p q : ℕ) → ((e : ℕ) → e < G.arcs → G.weight e ≤ p) → ((v : ℕ) → v < G.nodes → G.charge v ≤ q)
    → (v w x : ℕ) → least_total G v w ≡ some x → x ≤ p * (G.nodes - 1) + q * G.nodes
least_total_limit G sound p q heavy dear v w x e = least_bound G sound p q heavy dear v w x (subst (IsLeastTotal G v w) e (least_total_lem G v w))

-- ==== 2. Closed and supported tables

-- no subtree that holds a landing of each terminal of a set costs less than the cell of a closed table
pub closed_is_lower_bound : (G : Graph) → Sound G → (c : ℕ → ℕ → ℕ) → Closed G c
    → (r w : ℕ) (L : List ℕ) → w < 2 ^ G.terminals → Subtree G r L → Covers G r L w → c r w ≤ total G r L
closed_is_lower_bound G sound c C r w L small t cov = subtree_lower G sound c C r L w small t cov

-- and some such subtree costs no more than a finite cell of a supported one, where the set is not empty
pub supported_is_upper_bound : (G : Graph) → Sound G → (c : ℕ → ℕ → ℕ) (top : ℕ) → Supported G c top
    → (v w : ℕ) → v < G.nodes → w ≢ 0 → w < 2 ^ G.terminals → c v w < top
    → (L : List ℕ) × Subtree G v L × Covers G v L w × (total G v L ≤ c v w)
supported_is_upper_bound = attain

-- "The empty set costs 0", and other cells are least totals, exactly where the table is closed and supported, no cell being above `top`
pub closed_and_supported : (G : Graph) → Sound G → (c : ℕ → ℕ → ℕ) (top : ℕ) → Room G top
    → (Capped G c top × Closed G c × Supported G c top) ↔ IsCostTable G c top
closed_and_supported G sound c top room = (
  (λ h. both_cost_table G sound c top room h.0 h.1 h.2),
  (λ t. (cost_table_capped G sound c top room t, cost_table_closed G sound c top room t, cost_table_supported G sound c top room t)),
)

-- ==== 3. Growth

module _ (G : Graph) (r : ℕ) (L : List ℕ) where
  -- what is kept is a part of the list: no arc more often
  pub growth_parts : (e : ℕ) → count e (kept G r L) ≤ count e L
  growth_parts e = omega (arith, parts_count G r L e)

  -- what is kept is a directed subtree
  pub growth_subtree : r < G.nodes → Every (λ e. e < G.arcs) L → Subtree G r (kept G r L)
  growth_subtree on arcs = kept_subtree G r L on (every_listed (λ e. e < G.arcs) L arcs)

  -- it holds exactly what the list reaches from the root
  pub growth_holds : (v : ℕ) → T (listed v (held G r (kept G r L))) ↔ DirectedPath G L r v
  growth_holds v = (kept_reached G r L v, λ p. reached_kept G r L p)

  -- it costs no more than the list, and as much only where it has each arc as often
  pub growth_total : total G r (kept G r L) ≤ total G r L
  growth_total = omega (arith, kept_total G r L)

  pub growth_equal_total : Sound G → Every (λ e. e < G.arcs) L → total G r (kept G r L) ≡ total G r L
      → (e : ℕ) → count e (kept G r L) ≡ count e L
  growth_equal_total sound arcs q e =
      sym (same_count L (kept G r L) (kept_same G r L (kept_all G r L sound (every_listed (λ e. e < G.arcs) L arcs) (omega arith))) e)

  -- a list of arcs is a directed subtree exactly where growth keeps all of it, up to order: each arc as often
  pub subtree_iff_kept : r < G.nodes → Every (λ e. e < G.arcs) L → Subtree G r L ↔ ((e : ℕ) → count e (kept G r L) ≡ count e L)
  subtree_iff_kept on arcs = (
    (λ t e. sym (same_count L (kept G r L) (kept_same G r L (subtree_kept G r L t)) e)),
    (λ same. whole_subtree G r L on (every_listed (λ e. e < G.arcs) L arcs) (counts_whole G r L same)),
  )

-- a list of arcs is a directed subtree exactly where it reaches one node more than it has arcs
pub subtree_iff_count : (G : Graph) → Sound G → (r : ℕ) (L : List ℕ) → r < G.nodes → Every (λ e. e < G.arcs) L
    → Subtree G r L ↔ (sum_to G.nodes (λ v. bit (is_reached G L r v)) ≡ suc (length L))
subtree_iff_count G sound r L on arcs =
    let each = every_listed (λ e. e < G.arcs) L arcs in
    (subtree_count G sound r L on each, count_subtree G sound r L on each)

-- ==== 4. The layout at the least totals

-- "Laying out a plan": at a finite cell of a set that is not empty, the arcs laid out are a directed subtree with that root that holds a
-- landing of each terminal of the set, its total is the cell, and it has at most n − 1 arcs
pub record Laid (G : Graph) (v w x : ℕ) (L : List ℕ) : Type 0 where
  pub subtree : Subtree G v L
  pub covers : Covers G v L w
  pub cell : total G v L ≡ x
  pub few : length L ≤ G.nodes - 1

-- "Following and splitting hand the work to each other until the sets are used up": the size of the set combined with the cell's cost falls
-- with the arc that is followed, of any cell function
pub following_falls : (G : Graph) → Sound G → (c : ℕ → ℕ → ℕ) (top v w e : ℕ) → first (fits G c top v w) G.arcs ≡ some e
    → c (G.end e) w + ones w < c v w + ones w
following_falls G sound c top v w e q = omega (arith, arc_falls G sound c top v w e q)

module _ (G : Graph) (sound : Sound G) (top : ℕ) (room : Room G top) (c : ℕ → ℕ → ℕ) (table : IsCostTable G c top) where
  -- the cost table is closed and supported, and no charge is above `top`
  closed : Closed G c
  closed = cost_table_closed G sound c top room table

  supported : Supported G c top
  supported = cost_table_supported G sound c top room table

  charges : (v : ℕ) → v < G.nodes → G.charge v ≤ top
  charges v on = omega (arith, room_charge G top room v on)

  pub layout_is_least : (v w : ℕ) → v < G.nodes → w ≢ 0 → w < 2 ^ G.terminals → c v w < top → Laid G v w (c v w) (layout G c top v w)
  layout_is_least v w on ne small finite =
      let (t, cov, e) = layout_subtree G sound c top closed supported charges v w on ne small finite in
      record { subtree = t; covers = cov; cell = e; few = omega (arith, subtree_length G sound v (layout G c top v w) t) }

  -- there, where something is to be added, an arc fits or a part splits the set
  pub step_applies : (v w : ℕ) → v < G.nodes → w ≢ 0 → w < 2 ^ G.terminals → c v w < top → T (not (is_done G v w))
      → first (fits G c top v w) G.arcs ≡ none → first (splits G c v w) w ≡ none → ⊥
  step_applies = step_passes G sound c top closed supported charges

  -- and with both parts of a split
  pub splitting_falls : (v w y : ℕ) → v < G.nodes → w < 2 ^ G.terminals → first (splits G c v w) w ≡ some y
      → (c v y + ones y < c v w + ones w) × (c v (w - y) + ones (w - y) < c v w + ones w)
  splitting_falls = split_measure G sound c top closed supported charges

  -- the arc that is followed is one of the graph and leads to a finite cell
  pub following_leads : (v w e : ℕ) → first (fits G c top v w) G.arcs ≡ some e → (e < G.arcs) × (c (G.end e) w < top)
  following_leads v w e q = let (on, _, finite, _) = arc_found G sound c top closed supported charges v w e q in (on, finite)

  -- a split leads to parts of the set whose cells are not above the set's
  pub splitting_leads : (v w y : ℕ) → v < G.nodes → w < 2 ^ G.terminals → first (splits G c v w) w ≡ some y
      → (y < w) × Part y w × (c v y ≤ c v w) × (c v (w - y) ≤ c v w)
  splitting_leads v w y on small q =
      let (_, less, part, one, other, _) = part_found G sound c top closed supported charges v w y on small q in
      (less, part, one, other)

-- two cell functions that agree on the nodes and sets of the graph have the same layout
pub same_layout : (G : Graph) → Sound G → (c d : ℕ → ℕ → ℕ) (top : ℕ) → ((v w : ℕ) → v < G.nodes → w < 2 ^ G.terminals → c v w ≡ d v w)
    → (v w : ℕ) → v < G.nodes → w < 2 ^ G.terminals → layout G c top v w ≡ layout G d top v w
same_layout G sound c d top same = layouts-agree G c d same sound top

-- ==== 5. What a search needs

-- A set is started by trying each landing, and each split into two parts with finite cells by its smaller number, where no cell of the set is
-- above `top` and no cell of a part is below the charge of its node.
pub tries_start_set : (G : Graph) (c : ℕ → ℕ → ℕ) (top w : ℕ)
    → ((v i : ℕ) → v < G.nodes → i < G.terminals → w ≡ single i → Landing G i v → c v w ≤ G.charge v)
    → ((v y : ℕ) → v < G.nodes → Part y w → y ≢ 0 → y < w - y → c v y < top → c v (w - y) < top → c v w + G.charge v ≤ c v y + c v (w - y))
    → ((v : ℕ) → v < G.nodes → c v w ≤ top) → ((v y : ℕ) → v < G.nodes → y ≢ 0 → Part y w → G.charge v ≤ c v y) → StartedSet G c w
tries_start_set = splits_start

-- Where the proper parts of a set are closed, and a node has a split of it into two parts with finite cells, every proper part that is not
-- empty has a finite cell there, which is at most what the split gives. So one split tells whether any needs to be tried; and where a part
-- costs nothing, the other parts of the set cost as much as the set.
pub parts_below_split : (G : Graph) → Sound G → (c : ℕ → ℕ → ℕ) (top : ℕ) → Room G top → Supported G c top
    → (w : ℕ) → w < 2 ^ G.terminals → ((y : ℕ) → Part y w → y ≢ 0 → y ≢ w → ClosedSet G c y)
    → (v y : ℕ) → v < G.nodes → Part y w → y ≢ 0 → y ≢ w → c v y < top → c v (w - y) < top
    → (z : ℕ) → Part z w → z ≢ 0 → z ≢ w → (c v z < top) × (c v z + G.charge v ≤ c v y + c v (w - y))
parts_below_split = parts_below

-- a started set stays started while its cells fall and those of its proper parts stay
pub lowering_keeps_started : (G : Graph) (c d : ℕ → ℕ → ℕ) (w : ℕ) → ((v y : ℕ) → v < G.nodes → Part y w → y ≢ w → d v y ≡ c v y)
    → ((v : ℕ) → v < G.nodes → d v w ≤ c v w) → StartedSet G c w → StartedSet G d w
lowering_keeps_started = started_lower

-- after that, a pass over all arcs that lowers nothing leaves the set closed; only arcs with a finite end are tried
pub pass_closes_set : (G : Graph) → Sound G → (c : ℕ → ℕ → ℕ) (top w : ℕ) → StartedSet G c w → ((v : ℕ) → v < G.nodes → c v w ≤ top)
    → ((e : ℕ) → e < G.arcs → c (G.end e) w < top → c (G.start e) w ≤ G.weight e + G.charge (G.start e) + c (G.end e) w)
    → ClosedSet G c w
pass_closes_set = arcs_close

-- a closed set stays closed while its cells and those of its parts stay
pub others_keep_closed : (G : Graph) → Sound G → (c d : ℕ → ℕ → ℕ) (w : ℕ) → ((v y : ℕ) → v < G.nodes → Part y w → d v y ≡ c v y)
    → ClosedSet G c w → ClosedSet G d w
others_keep_closed = closed_kept

-- Where the empty set costs 0 and every other set is closed, the table is closed by definition, and theorem 2 says that it is the cost table.

-- ==== 6. Where a cell is finite

-- exactly where directed paths lead from the node to a landing of each terminal of the set
pub finite_iff_reaches : (G : Graph) (top : ℕ) → Room G top → (v w : ℕ) → v < G.nodes → w ≢ 0 → (least_cell G top v w < top) ↔ Reaches G v w
finite_iff_reaches = cell_finite

-- for the full set: to a landing of every terminal (the mission, point 3)
pub full_finite_iff_reaches : (G : Graph) (top : ℕ) → Room G top → 1 ≤ G.terminals → (v : ℕ) → v < G.nodes
    → (least_cell G top v (full G.terminals) < top) ↔ ReachesAll G v
full_finite_iff_reaches = full_finite

-- refusal 12, "every full-set cell is "none"", of the nodes that may be a root: exactly where none of them has such paths
pub no_plan_iff : (G : Graph) (top : ℕ) → Room G top → 1 ≤ G.terminals → (c : ℕ → ℕ → ℕ) → IsCostTable G c top
    → ((r : ℕ) → r < G.nodes → T (G.may_root r) → c r (full G.terminals) ≡ top) ↔ ((r : ℕ) → r < G.nodes → T (G.may_root r) → ReachesAll G r → ⊥)
no_plan_iff G top room some_terminal c table = (
  (λ h r on may. (full_none G top room some_terminal c table r on).0 (h r on may)),
  (λ h r on may. (full_none G top room some_terminal c table r on).1 (h r on may)),
)

-- ==== 7. Document 01's directed subtree is document 004's

-- "every other node of T is reachable from r through a unique directed path" (document 004), of a list of arcs, none twice and none a loop.
-- A path is document 01's row of arcs, in which a node may occur again: an arc back to the root makes a second path.
pub subtree_iff_one_path : (G : Graph) (r : ℕ) (L : List ℕ) → r < G.nodes
    → Every (λ e. e < G.arcs) L → Distinct L → Every (λ e. G.start e ≢ G.end e) L
    → Subtree G r L ↔ ((v : ℕ) → v ≢ r → Touched G L v → OnePath G L r v)
subtree_iff_one_path G r L on arcs distinct no_loop = (subtree_one_path G r L, one_path_subtree G r L on arcs distinct no_loop)

-- a subtree has no arc twice and no loop, so that these may stand on the other side
pub subtree_iff_distinct : (G : Graph) (r : ℕ) (L : List ℕ) → r < G.nodes → Every (λ e. e < G.arcs) L
    → Subtree G r L ↔ (Distinct L × Every (λ e. G.start e ≢ G.end e) L × ((v : ℕ) → v ≢ r → Touched G L v → OnePath G L r v))
subtree_iff_distinct G r L on arcs = (
  (λ t. (subtree_distinct G r L t, subtree_no_loop G r L t, subtree_one_path G r L t)),
  (λ h. one_path_subtree G r L on arcs h.0 h.1 h.2),
)

-- a subtree holds exactly the nodes that its arcs reach from the root, and every node that they touch
pub subtree_holds : (G : Graph) (r : ℕ) (L : List ℕ) → Subtree G r L → (v : ℕ) → T (listed v (held G r L)) ↔ DirectedPath G L r v
subtree_holds G r L t v = (held_reached G r L (start_reached t) v, λ p. reached_held G r L p)

pub subtree_touches : (G : Graph) (r : ℕ) (L : List ℕ) → Subtree G r L → (v : ℕ) → Touched G L v → T (listed v (held G r L))
subtree_touches = touched_held

-- ==== 8. The root

-- "The root is the lowest site whose full-set cell is least", of the nodes that may be a root
pub root_rule : (G : Graph) (c : ℕ → ℕ → ℕ) (v : ℕ) → root_of G c ≡ some v → LowestCheapest G.may_root (λ u. c u (full G.terminals)) G.nodes v
root_rule G c = found_cheapest G.may_root (λ u. c u (full G.terminals)) G.nodes

-- it names no node only where no node may be a root
pub root_none : (G : Graph) (c : ℕ → ℕ → ℕ) → root_of G c ≡ none → (u : ℕ) → u < G.nodes → T (not (G.may_root u))
root_none G c = none_found G.may_root (λ u. c u (full G.terminals)) G.nodes

-- at the least totals no directed subtree with a root that may be one, and that holds a landing of every terminal, costs less
pub root_least : (G : Graph) (c : ℕ → ℕ → ℕ) (top : ℕ) → 1 ≤ G.terminals → IsCostTable G c top → (v : ℕ) → root_of G c ≡ some v
    → (r : ℕ) (L : List ℕ) → T (G.may_root r) → Subtree G r L → Covers G r L (full G.terminals) → c v (full G.terminals) ≤ total G r L
root_least G c top some_terminal table v q =
    root_lower G top c table (full G.terminals) v (full_ne G.terminals some_terminal) (ones_lt G.terminals) (root_rule G c v q)

-- two cell functions that agree on the nodes and sets of the graph have the same root
pub same_root : (G : Graph) (c d : ℕ → ℕ → ℕ) → ((v w : ℕ) → v < G.nodes → w < 2 ^ G.terminals → c v w ≡ d v w) → root_of G c ≡ root_of G d
same_root = roots-agree
