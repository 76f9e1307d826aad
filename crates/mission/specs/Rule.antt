-- The stated rule by which equals are chosen (document 01, "Laying out a plan"), as a relation between a root and a list of legs. A cost is a
-- least total over directed subtrees; "none" has no value, so every cost that is named here is finite. A total counts the charges of the held
-- sites, which are 0. The root is looked for among the sites that may be a root: the senders (document 02, W-201).
-- Assumes nothing.
use Rattle.std.specs.Prelude.{ℕ, ◌+◌, ◌-◌, ◌<◌, ◌≤◌, ◌≡◌, ◌≢◌, ◌⊎◌, List, [], ◌∷◌, ◌++◌, T}
use Rattle.subset.specs.Sets.{single, full, Part}
use Rattle.graph.specs.Graph.{Graph, Landing}
use Rattle.graph.specs.LeastTotals.{Least}

-- x is the least total over the directed subtrees with root v that hold a landing of each terminal of w: such a tree exists and costs x, and none
-- costs less. Of a set w that is not empty this is its finite cell; a cell of the empty set is 0, and the least total there is the charge of v
abbrev pub Costs : Graph → (v w x : ℕ) → Type 0
Costs G v w x = Least G v w x

-- x is the lowest number with a property
pub record Lowest (P : ℕ → Type 0) (x : ℕ) : Type 0 where
  pub holds : P x
  pub lowest : (y : ℕ) → y < x → P y → ⊥

-- "when W is one station and v is its landing"
pub record LandsAlone (G : Graph) (v w : ℕ) : Type 0 where
  pub terminal : ℕ
  pub on_graph : terminal < G.terminals
  pub alone : w ≡ single terminal
  pub landing : Landing G terminal v

-- "nothing is added when W is empty, or when W is one station and v is its landing"
abbrev pub Nothing : Graph → (v w : ℕ) → Type 0
Nothing G v w = (w ≡ 0) ⊎ LandsAlone G v w

-- "leg from v whose price plus the finite cell (end, W) equals cell (v, W)"; the charge of v is added to the price
pub record ArcFits (G : Graph) (v w e : ℕ) : Type 0 where
  pub on_graph : e < G.arcs
  pub from : G.start e ≡ v
  pub cost : ℕ
  pub at_end : Costs G (G.end e) w cost
  pub makes : Costs G v w (G.weight e + G.charge v + cost)

-- "Y within W, neither empty nor W, with cell (v, Y) + cell (v, W without Y) = cell (v, W)"; both parts count the charge of v, so it is added
-- to cell (v, W)
pub record PartSplits (G : Graph) (v w y : ℕ) : Type 0 where
  pub within : Part y w
  pub some_terminal : y ≢ 0
  pub not_all : y ≢ w
  pub cost : ℕ
  pub rest_cost : ℕ
  pub whole : ℕ
  pub of_part : Costs G v y cost
  pub of_rest : Costs G v (w - y) rest_cost
  pub makes : Costs G v w whole
  pub adds_up : cost + rest_cost ≡ whole + G.charge v

-- L are the legs that are added at site v with set W, in the order in which they are added
pub data Added (G : Graph) : (v w : ℕ) → List ℕ → Type 0 where
  nothing : {v w : ℕ} → Nothing G v w → Added G v w []
  -- "Otherwise the lowest-numbered leg .. is added, and its end is followed with W"
  follow : {v w : ℕ} {L : List ℕ} (e : ℕ) → (Nothing G v w → ⊥) → Lowest (ArcFits G v w) e → Added G (G.end e) w L → Added G v w (e ∷ L)
  -- "If there is none, W is split: the lowest Y ..; Y is laid first, then the rest"
  split : {v w : ℕ} {L M : List ℕ} (y : ℕ) → (Nothing G v w → ⊥) → ((e : ℕ) → ArcFits G v w e → ⊥) → Lowest (PartSplits G v w) y
      → Added G v y L → Added G v (w - y) M → Added G v w (L ++ M)

-- v may be a root, x is its cost for the set w, and no site that may be a root costs less. The lowest such site is "the lowest cheapest sender"
-- (document 02, W-201): of the full set the root of a plan, and of each set the best sender (W-203)
pub record LeastRoot (G : Graph) (w x v : ℕ) : Type 0 where
  pub node : v < G.nodes
  pub may_root_lem : T (G.may_root v)
  pub costs : Costs G v w x
  pub least : (u y : ℕ) → u < G.nodes → T (G.may_root u) → Costs G u w y → x ≤ y

-- the plan by the rule: "The root is the lowest site whose full-set cell is least", of the sites that may be a root, "the lowest cheapest
-- sender" (document 02, W-201); the legs laid out from it with the full set
pub record ByRule (G : Graph) (root cost : ℕ) (L : List ℕ) : Type 0 where
  pub root_is : Lowest (LeastRoot G (full G.terminals) cost) root
  pub laid : Added G root (full G.terminals) L
