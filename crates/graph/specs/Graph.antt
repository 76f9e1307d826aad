-- The directed graph that a sheet describes, over plain numbers: nodes, arcs and terminals count from 0, and a set of terminals is a
-- number (crate subset). What a node is charged, and which nodes may be a root, are part of it.
-- Assumes nothing.
use Rattle.std.specs.Prelude.{ℕ, ◌≤◌, ◌<◌, Bool, List, T}
use Rattle.lists.specs.Numbers.{numbers}
use Rattle.subset.specs.Sets.{has}

pub record Graph : Type 0 where
  -- how many nodes (sites), terminals (stations) and arcs (legs) there are
  pub nodes : ℕ
  pub terminals : ℕ
  pub arcs : ℕ
  -- an arc's start, end and weight (price)
  pub start : ℕ → ℕ
  pub end : ℕ → ℕ
  pub weight : ℕ → ℕ
  -- the set of the terminals that have a landing at a node
  pub landings : ℕ → ℕ
  -- what a node adds to the total of a subtree that holds it
  pub charge : ℕ → ℕ
  -- whether a node may be the root of a plan
  pub may_root : ℕ → Bool

-- the numbers of all arcs
abbrev pub all_arcs : Graph → List ℕ
all_arcs G = numbers 0 G.arcs

-- v is a landing of terminal i
abbrev pub Landing : Graph → ℕ → ℕ → Type 0
Landing G i v = T (has (G.landings v) i)

-- what every good sheet has: its arcs lead between its nodes, and each weight is 1 or more
pub record Sound (G : Graph) : Type 0 where
  pub start_lt : (e : ℕ) → e < G.arcs → G.start e < G.nodes
  pub end_lt : (e : ℕ) → e < G.arcs → G.end e < G.nodes
  pub weight_pos : (e : ℕ) → e < G.arcs → 1 ≤ G.weight e
