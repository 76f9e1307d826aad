-- Where a walk stops: at a node at which nothing is added; or at one at which something is to be added, and no arc fits.
-- Assumes nothing.
use Rattle.std.specs.Prelude.{ℕ, List, T}
use Rattle.graph.specs.Graph.{Graph}
use Rattle.graph.specs.Layout.{is_done}
use Rattle.layout_walk.specs.laws.Walk.{Unfollowed, Walked}
use Rattle.layout_walk.specs.declared.Stop.{Stop}
use Rattle.layout_walk.specs.declared.Stop.TheVariants.{Done, Stuck}

-- a walk from v with w, from the place `at` on
abbrev pub Stopped : (G : Graph) (cells : List ℕ) (v w at : ℕ) (out out' : List ℕ) → Stop → Type 0
Stopped G cells v w at out out' (Done node place) = Walked G cells v w at out out' node place × T (is_done G node w)
Stopped G cells v w at out out' (Stuck node place) = Walked G cells v w at out out' node place × Unfollowed G cells node w
