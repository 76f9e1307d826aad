-- Small graphs in which the rules are told apart, computed by the definitions: ties of arcs, of roots and of splits, an arc and a split that
-- both fit, charges, a node that may not be a root. The sheets of document 01 are in crate network, from their bytes.
-- Assumes nothing.
use Rattle.std.specs.Prelude.{ℕ, ◌^◌, ◌≡◌, refl, Bool, true, false, List, [], ◌∷◌, map, get_or, length, eqb}
use Rattle.std.proofs.Math.Option.{Option, none, some}
use Rattle.lists.specs.Numbers.{numbers}
use Rattle.graph.specs.Graph.{Graph}
use Rattle.graph.specs.Paths.{reached_nodes}
use Rattle.graph.specs.Subtrees.{total, is_subtree}
use Rattle.graph.specs.Growth.{kept}
use Rattle.graph.specs.LeastTotals.{least_total, least_cell}
use Rattle.graph.specs.Layout.{root_of, layout}

-- a graph by its lists, without charges, in which every node may be a root. Past its arcs every arc leads from node 0 to node 3, so that it
-- is for the number of arcs alone that the number 5 is none.
abbrev graph : (nodes terminals : ℕ) (starts ends weights landings : List ℕ) → Graph
graph nodes terminals starts ends weights landings = record {
  nodes = nodes;
  terminals = terminals;
  arcs = length starts;
  start = λ e. get_or starts e 0;
  end = λ e. get_or ends e 3;
  weight = λ e. get_or weights e 0;
  landings = λ v. get_or landings v 0;
  charge = λ v. 0;
  may_root = λ v. true;
}

-- the same graph with these charges, and with these roots
abbrev with_charges : List ℕ → Graph → Graph
with_charges charges G = record {
  nodes = G.nodes;
  terminals = G.terminals;
  arcs = G.arcs;
  start = G.start;
  end = G.end;
  weight = G.weight;
  landings = G.landings;
  charge = λ v. get_or charges v 0;
  may_root = G.may_root;
}

abbrev with_roots : (ℕ → Bool) → Graph → Graph
with_roots may_root G = record {
  nodes = G.nodes;
  terminals = G.terminals;
  arcs = G.arcs;
  start = G.start;
  end = G.end;
  weight = G.weight;
  landings = G.landings;
  charge = G.charge;
  may_root = may_root;
}

-- the number for "none" in the cells
abbrev top : ℕ
top = 1000

-- the least totals, node by node, set by set
abbrev pub totals : Graph → List (List (Option ℕ))
totals G = map (λ v. map (least_total G v) (numbers 0 (2 ^ G.terminals))) (numbers 0 G.nodes)

-- the root by the least cells, and the arcs laid out at v with w
abbrev root : Graph → Option ℕ
root G = root_of G (least_cell G top)

abbrev laid : Graph → ℕ → ℕ → List ℕ
laid G v w = layout G (least_cell G top) top v w

-- ---- ties

-- arcs 0 and 1 from node 0 to 1, arcs 2 and 3 from node 0 to 2 and 3, arc 4 from node 1 back to 0, each of weight 1; terminals 0, 1 and 2
-- have their landings at nodes 1, 2 and 3
abbrev tied : Graph
tied = graph 4 3 (0 ∷ 0 ∷ 0 ∷ 0 ∷ 1 ∷ []) (1 ∷ 1 ∷ 2 ∷ 3 ∷ 0 ∷ []) (1 ∷ 1 ∷ 1 ∷ 1 ∷ 1 ∷ []) (0 ∷ 1 ∷ 2 ∷ 4 ∷ [])

pub tied_settled :
    (totals tied ≡
    (some 0 ∷ some 1 ∷ some 1 ∷ some 2 ∷ some 1 ∷ some 2 ∷ some 2 ∷ some 3 ∷ [])
    ∷ (some 0 ∷ some 0 ∷ some 2 ∷ some 2 ∷ some 2 ∷ some 2 ∷ some 3 ∷ some 3 ∷ [])
    ∷ (some 0 ∷ none ∷ some 0 ∷ none ∷ none ∷ none ∷ none ∷ none ∷ [])
    ∷ (some 0 ∷ none ∷ none ∷ none ∷ some 0 ∷ none ∷ none ∷ none ∷ [])
    ∷ [])
    -- nodes 0 and 1 cost the same: the lower is the root; of arcs 0 and 1 the lower is followed; of the splits of 7 that into 1 and 6 is taken
    × (root tied ≡ some 0)
    × (laid tied 0 7 ≡ 0 ∷ 2 ∷ 3 ∷ [])
    × (laid tied 1 7 ≡ 4 ∷ 2 ∷ 3 ∷ [])
    × (reached_nodes tied (3 ∷ 4 ∷ []) 1 ≡ 0 ∷ 1 ∷ 3 ∷ [])
    × (reached_nodes tied (4 ∷ []) 0 ≡ 0 ∷ [])
    × (is_subtree tied 0 (3 ∷ 1 ∷ []) ≡ true)
    -- two entries that end at one node; an arc into the root; a start that is not reached; arcs in a circle, which the root does not reach
    × (is_subtree tied 0 (0 ∷ 1 ∷ []) ≡ false)
    × (is_subtree tied 0 (0 ∷ 4 ∷ []) ≡ false)
    × (is_subtree tied 2 (0 ∷ []) ≡ false)
    × (is_subtree tied 2 (0 ∷ 4 ∷ []) ≡ false)
    -- a number that is no arc; a root that is no node
    × (is_subtree tied 0 (5 ∷ []) ≡ false)
    × (is_subtree tied 4 [] ≡ false)
    × (kept tied 1 (3 ∷ 1 ∷ 4 ∷ 2 ∷ 2 ∷ []) ≡ 4 ∷ 3 ∷ 2 ∷ [])
tied_settled = (refl, refl, refl, refl, refl, refl, refl, refl, refl, refl, refl, refl, refl, refl)

-- ---- charges and roots

abbrev charged : Graph
charged = with_roots (λ v. eqb v 1) (with_charges (2 ∷ 1 ∷ 1 ∷ 1 ∷ []) tied)

pub charged_settled :
    (total charged 1 (4 ∷ 2 ∷ 3 ∷ []) ≡ 8)
    × (map (least_total charged 1) (numbers 0 8) ≡ some 1 ∷ some 1 ∷ some 6 ∷ some 6 ∷ some 6 ∷ some 6 ∷ some 8 ∷ some 8 ∷ [])
    -- the least total of the empty set is the charge of the root; its cell is 0
    × (least_cell charged top 1 0 ≡ 0)
    × (root charged ≡ some 1)
    × (laid charged 1 7 ≡ 4 ∷ 2 ∷ 3 ∷ [])
charged_settled = (refl, refl, refl, refl, refl)

-- ---- an arc and a split that both fit

-- node 0 reaches nodes 2 and 3 by node 1, for 2 + 1 + 1, and by arcs of weight 2: with the set 3, arc 0 fits, and so does the split
abbrev choice : Graph
choice = graph 4 2 (0 ∷ 1 ∷ 1 ∷ 0 ∷ 0 ∷ []) (1 ∷ 2 ∷ 3 ∷ 2 ∷ 3 ∷ []) (2 ∷ 1 ∷ 1 ∷ 2 ∷ 2 ∷ []) (0 ∷ 0 ∷ 1 ∷ 2 ∷ [])

pub choice_settled :
    (map (least_total choice 0) (numbers 0 4) ≡ some 0 ∷ some 2 ∷ some 2 ∷ some 4 ∷ [])
    -- the set is followed whole before it is split
    × (laid choice 0 3 ≡ 0 ∷ 1 ∷ 2 ∷ [])
    -- node 1 costs less; where it may not be a root, node 0 is
    × (root choice ≡ some 1)
    × (root (with_roots (λ v. eqb v 0) choice) ≡ some 0)
choice_settled = (refl, refl, refl, refl)

-- ---- which split is taken

-- three arcs of different weights from node 0: a set is split into parts of it only
abbrev strands : Graph
strands = graph 4 3 (0 ∷ 0 ∷ 0 ∷ []) (1 ∷ 2 ∷ 3 ∷ []) (1 ∷ 2 ∷ 3 ∷ []) (0 ∷ 1 ∷ 2 ∷ 4 ∷ [])

-- terminals 0 and 1 share the arc to node 1, terminal 2 does not: the set 7 splits into 3 and 4 alone. The lowest number is taken, 3, not
-- the smallest size, 4.
abbrev fork : Graph
fork = graph 5 3 (0 ∷ 1 ∷ 1 ∷ 0 ∷ []) (1 ∷ 2 ∷ 3 ∷ 4 ∷ []) (2 ∷ 1 ∷ 1 ∷ 1 ∷ []) (0 ∷ 0 ∷ 1 ∷ 2 ∷ 4 ∷ [])

-- a path of three arcs
abbrev chain : Graph
chain = graph 4 1 (0 ∷ 1 ∷ 2 ∷ []) (1 ∷ 2 ∷ 3 ∷ []) (1 ∷ 1 ∷ 1 ∷ []) (0 ∷ 0 ∷ 0 ∷ 1 ∷ [])

pub splits_settled :
    (laid strands 0 6 ≡ 1 ∷ 2 ∷ [])
    × (laid fork 0 7 ≡ 0 ∷ 1 ∷ 2 ∷ 3 ∷ [])
    × (reached_nodes chain (2 ∷ 1 ∷ 0 ∷ []) 0 ≡ 0 ∷ 1 ∷ 2 ∷ 3 ∷ [])
    × (laid chain 0 1 ≡ 0 ∷ 1 ∷ 2 ∷ [])
splits_settled = (refl, refl, refl, refl)
