-- Laying out a plan from the cells of a table (document 01, "Laying out a plan"), over any cell function: the root, and the arcs in the
-- order in which they are added. A cell is finite where it is below `top`.
-- Assumes nothing.
use Rattle.std.specs.Prelude.{ℕ, zero, suc, ◌+◌, ◌-◌, Bool, true, false, not, ◌&&◌, ◌||◌, List, [], ◌∷◌, ◌++◌, eqb, ltb}
use Rattle.std.proofs.Math.Option.{Option, none, some}
use Rattle.lists.specs.Find.{any_to, first}
use Rattle.lists.specs.Cheapest.{lowest_cheapest}
use Rattle.subset.specs.Sets.{single, has, full, is_part}
use Rattle.graph.specs.Graph.{Graph}

-- ---- the root

-- the lowest of the nodes that may be a root and cost least, where a node costs its cell of the full set; it is a node also where every cell is
-- "none"
abbrev pub root_of : Graph → (ℕ → ℕ → ℕ) → Option ℕ
root_of G c = lowest_cheapest G.may_root (λ v. c v (full G.terminals)) G.nodes

-- ---- the tests

-- w is terminal i alone, and v is its landing
abbrev pub lands_alone : Graph → ℕ → ℕ → ℕ → Bool
lands_alone G v w i = eqb w (single i) && has (G.landings v) i

-- nothing is added: w is empty, or it is one terminal and v is its landing
abbrev pub is_done : Graph → ℕ → ℕ → Bool
is_done G v w = eqb w 0 || any_to (lands_alone G v w) G.terminals

-- arc e starts at v; its weight, the charge of v and the finite cell of its end make the cell
abbrev pub fits : Graph → (ℕ → ℕ → ℕ) → ℕ → ℕ → ℕ → ℕ → Bool
fits G c top v w e = eqb (G.start e) v && (ltb (c (G.end e) w) top && eqb (G.weight e + G.charge v + c (G.end e) w) (c v w))

-- y is within w and not empty; its cell and that of the rest make the cell, and the charge of v once more, which both count. The rest,
-- "W without Y", is w - y, y being within w.
abbrev pub splits : Graph → (ℕ → ℕ → ℕ) → ℕ → ℕ → ℕ → Bool
splits G c v w y = not (eqb y 0) && (is_part y w && eqb (c v y + c v (w - y)) (c v w + G.charge v))

-- ---- the rule

-- one step: nothing where w is done; else by the lowest arc that fits; else by the lowest y that splits, of the numbers below w, so that y
-- is not w; nothing also where there is neither
abbrev pub step : Bool → Option ℕ → Option ℕ → (ℕ → List ℕ) → (ℕ → List ℕ) → List ℕ
step true arc part follow split = []
step false (some e) part follow split = follow e
step false none (some y) follow split = split y
step false none none follow split = []

-- following from v with w, over at most m arcs; `lay` lays out the parts where w is split, y first
abbrev pub follow_in : ℕ → Graph → (ℕ → ℕ → ℕ) → ℕ → (ℕ → ℕ → List ℕ) → ℕ → ℕ → List ℕ
follow_in zero G c top lay v w = []
follow_in (suc m) G c top lay v w =
    step (is_done G v w) (first (fits G c top v w) G.arcs) (first (splits G c v w) w)
    (λ e. e ∷ follow_in m G c top lay (G.end e) w) (λ y. lay v y ++ lay v (w - y))

-- the arcs added at v with w, where a part of a part of .. w is split at most m times. Each arc that is followed lowers the cell, so no more
-- arcs follow each other than the cell's value. In a table that is not the cost table a split may lead to a higher cell, so the splits are
-- counted apart.
abbrev pub layout_in : ℕ → Graph → (ℕ → ℕ → ℕ) → ℕ → ℕ → ℕ → List ℕ
layout_in zero G c top v w = []
layout_in (suc m) G c top v w = follow_in (suc (c v w)) G c top (layout_in m G c top) v w

-- the arcs added at v with w; each part is a smaller number than the set, so w splits are enough
abbrev pub layout : Graph → (ℕ → ℕ → ℕ) → ℕ → ℕ → ℕ → List ℕ
layout G c top v w = layout_in (suc w) G c top v w
