-- The listed arcs as a program holds them with their tables: their list, their graph for n nodes, and their bounds.
-- Assumes nothing.
use Rattle.std.specs.Prelude.{ℕ, List}
use Rattle.graph.specs.Graph.{Graph}
use Rattle.planfile.specs.Listed.{arcs_of}
use Rattle.marking.specs.Links.{link_graph, Within}
use Rattle.marking.specs.declared.ListedArcs.{ListedArcs}

abbrev pub listed_in : ListedArcs → List ℕ
listed_in s = arcs_of s.listing

abbrev pub graph_along : ℕ → ListedArcs → Graph
graph_along n s = link_graph n s.starts.now s.ends.now

abbrev pub LeadWithin : ℕ → ListedArcs → Type 0
LeadWithin n s = Within n (listed_in s) s.starts.now s.ends.now
