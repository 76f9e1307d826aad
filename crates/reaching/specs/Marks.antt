-- The marks of the nodes that listed arcs reach from a root (document 01, "What is sent back").
-- Assumes nothing.
use Rattle.std.specs.Prelude.{ℕ, List, map}
use Rattle.lists.specs.Count.{bit}
use Rattle.lists.specs.Numbers.{numbers}
use Rattle.graph.specs.Graph.{Graph}
use Rattle.graph.specs.Paths.{is_reached}

-- "the first n marks are 1 for sites reached from the root by the listed legs, else 0": 1 exactly where a directed path of listed legs leads
-- to the site (`marked-path` and `path-marked` in laws/MarkLaws.antt)
abbrev pub marks_of : Graph → List ℕ → ℕ → List ℕ
marks_of G L r = map (λ v. bit (is_reached G L r v)) (numbers 0 G.nodes)
