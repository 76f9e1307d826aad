-- Arcs as they are listed in a table from a place on, and a walk along fitting arcs: the arcs that are followed from a node on (document 01,
-- "Laying out a plan": "its end is followed with W").
-- Assumes nothing.
use Rattle.std.specs.Prelude.{ℕ, ◌≤◌, ◌+◌, ◌^◌, ◌<◌, ◌≡◌, not, List, ◌++◌, T, length}
use Rattle.std.proofs.Math.Option.{none}
use Rattle.std.proofs.lemmas.List.Edits.{sets}
use Rattle.limits.specs.Limits.{no_cost}
use Rattle.lists.specs.Find.{first}
use Rattle.graph.specs.Graph.{Graph}
use Rattle.graph.specs.Layout.{is_done, fits}
use Rattle.layout_walk.specs.Plan.{cells_for, laid}

-- v is a node and w a set with a finite cell, and their arcs have room between the place `at` and the end of a table
pub record Placed (G : Graph) (cells : List ℕ) (v w at size : ℕ) : Type 0 where
  pub node : v < G.nodes
  pub set : w < 2 ^ G.terminals
  pub finite : cells_for G cells v w < no_cost
  pub long : at + length (laid G cells v w) ≤ size

-- something is to be added at v with w, and no arc fits
pub record Unfollowed (G : Graph) (cells : List ℕ) (v w : ℕ) : Type 0 where
  pub undone : T (not (is_done G v w))
  pub no_arc : first (fits G (cells_for G cells) no_cost v w) G.arcs ≡ none

-- arcs are listed from the place `at` on, and r is the place after them
pub record Stored (arcs : List ℕ) (at r : ℕ) (out out' : List ℕ) : Type 0 where
  pub place : r ≡ at + length arcs
  pub entries : out' ≡ sets out at arcs

-- arcs were listed from the place `at` on, up to `place`; those of `node` with w come after them, and make up the arcs of v with w
pub record Walked (G : Graph) (cells : List ℕ) (v w at : ℕ) (out out' : List ℕ) (node place : ℕ) : Type 0 where
  pub arcs : List ℕ
  pub listed : Stored arcs at place out out'
  pub left : laid G cells v w ≡ arcs ++ laid G cells node w
  pub placed : Placed G cells node w place (length out')
  pub cheap : cells_for G cells node w ≤ cells_for G cells v w
