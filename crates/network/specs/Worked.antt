-- The worked sheets A, C, D and E of document 01, from their bytes: the least totals, the root, the layout there and the nodes that listed
-- arcs reach, settled by computation. Of the sheets M to Q, which name senders, the root among them; of O the rest too.
-- Assumes nothing.
use Rattle.std.specs.Prelude.{ℕ, ◌≡◌, refl, List, [], ◌∷◌}
use Rattle.std.proofs.Math.Option.{Option, none, some}
use Rattle.limits.specs.Limits.{no_cost}
use Rattle.subset.specs.Sets.{full}
use Rattle.graph.specs.Graph.{Graph}
use Rattle.graph.specs.Paths.{reached_nodes}
use Rattle.graph.specs.LeastTotals.{least_cell}
use Rattle.graph.specs.Layout.{root_of, layout}
use Rattle.graph.specs.Worked.{totals}
use Rattle.sheet.specs.Verdict.{Verdict, good, bad, verdict, read_for}
use Rattle.sheet.specs.Worked.{sheet_a, sheet_c, sheet_d, sheet_e, sheet_m, sheet_n, sheet_o, sheet_p, sheet_q}
use Rattle.network.specs.Network.{graph_of}

-- what is asked of the graph of a sheet, answered; none where the sheet is refused
abbrev pub asked : {X : Type 0} → (Graph → X) → Verdict → Option X
asked ask (good n k records) = some (ask (graph_of n k records))
asked ask (bad fault) = none

-- the root by the least cells
abbrev pub root : Graph → Option ℕ
root G = root_of G (least_cell G no_cost)

-- node r's cell of the full set
abbrev pub full_cell : ℕ → Graph → ℕ
full_cell r G = least_cell G no_cost r (full G.terminals)

-- the arcs laid out from node r with the full set
abbrev pub laid_out : ℕ → Graph → List ℕ
laid_out r G = layout G (least_cell G no_cost) no_cost r (full G.terminals)

-- the nodes that listed arcs reach from node u
abbrev pub reached : List ℕ → ℕ → Graph → List ℕ
reached L u G = reached_nodes G L u

-- for each sheet the totals, the root, its cell of the full set, the arcs laid out from it, and reached nodes; in E every cell of the full
-- set is none, and no layout is asked. Of the sheets with senders: in M and P every sender's cell of the full set is none; in N the root of A is a
-- sender; in O two senders cost the same, and node 0, which is no sender, costs less; in Q the higher of two nodes that cost the same is the sender.
pub settled :
    (asked totals (verdict sheet_a) ≡ some (
    (some 0 ∷ some 5 ∷ some 6 ∷ some 10 ∷ some 0 ∷ some 5 ∷ some 6 ∷ some 10 ∷ [])
    ∷ (some 0 ∷ some 3 ∷ some 3 ∷ some 6 ∷ none ∷ none ∷ none ∷ none ∷ [])
    ∷ (some 0 ∷ some 0 ∷ none ∷ none ∷ none ∷ none ∷ none ∷ none ∷ [])
    ∷ (some 0 ∷ none ∷ some 0 ∷ none ∷ none ∷ none ∷ none ∷ none ∷ [])
    ∷ []))
    × (asked root (verdict sheet_a) ≡ some (some 0))
    × (asked (full_cell 0) (verdict sheet_a) ≡ some 10)
    × (asked (laid_out 0) (verdict sheet_a) ≡ some (0 ∷ 1 ∷ 2 ∷ []))
    × (asked (reached (1 ∷ 3 ∷ 0 ∷ []) 0) (verdict sheet_a) ≡ some (0 ∷ 1 ∷ 2 ∷ []))
    × (asked (reached (0 ∷ 1 ∷ 2 ∷ 3 ∷ 4 ∷ []) 1) (verdict sheet_a) ≡ some (1 ∷ 2 ∷ 3 ∷ []))
    × (asked (reached (0 ∷ 1 ∷ 2 ∷ 3 ∷ 4 ∷ []) 3) (verdict sheet_a) ≡ some (3 ∷ []))
    × (asked totals (verdict sheet_c) ≡ some (
    (some 0 ∷ some 0 ∷ some 4 ∷ some 4 ∷ [])
    ∷ (some 0 ∷ none ∷ some 0 ∷ none ∷ [])
    ∷ (some 0 ∷ none ∷ some 0 ∷ none ∷ [])
    ∷ []))
    × (asked root (verdict sheet_c) ≡ some (some 0))
    × (asked (full_cell 0) (verdict sheet_c) ≡ some 4)
    × (asked (laid_out 0) (verdict sheet_c) ≡ some (1 ∷ []))
    × (asked (reached (0 ∷ 1 ∷ []) 0) (verdict sheet_c) ≡ some (0 ∷ 1 ∷ 2 ∷ []))
    × (asked (reached (1 ∷ []) 0) (verdict sheet_c) ≡ some (0 ∷ 2 ∷ []))
    × (asked totals (verdict sheet_d) ≡ some (
    (some 0 ∷ some 0 ∷ some 7 ∷ some 7 ∷ [])
    ∷ (some 0 ∷ some 7 ∷ some 0 ∷ some 7 ∷ [])
    ∷ []))
    × (asked root (verdict sheet_d) ≡ some (some 0))
    × (asked (full_cell 0) (verdict sheet_d) ≡ some 7)
    × (asked (laid_out 0) (verdict sheet_d) ≡ some (0 ∷ []))
    × (asked (reached (0 ∷ []) 1) (verdict sheet_d) ≡ some (1 ∷ []))
    × (asked (reached (1 ∷ []) 1) (verdict sheet_d) ≡ some (0 ∷ 1 ∷ []))
    × (asked totals (verdict sheet_e) ≡ some (
    (some 0 ∷ some 0 ∷ none ∷ none ∷ [])
    ∷ (some 0 ∷ none ∷ some 0 ∷ none ∷ [])
    ∷ []))
    × (asked root (verdict sheet_e) ≡ some (some 0))
    × (asked (full_cell 0) (verdict sheet_e) ≡ some no_cost)
    × (asked (reached [] 0) (verdict sheet_e) ≡ some (0 ∷ []))
    × (asked (reached [] 1) (verdict sheet_e) ≡ some (1 ∷ []))
    × (asked root (verdict sheet_m) ≡ some (some 1))
    × (asked (full_cell 1) (verdict sheet_m) ≡ some no_cost)
    × (asked (full_cell 0) (verdict sheet_m) ≡ some 10)
    × (asked root (verdict sheet_n) ≡ some (some 0))
    × (asked (full_cell 0) (verdict sheet_n) ≡ some 10)
    × (asked (laid_out 0) (verdict sheet_n) ≡ some (0 ∷ 1 ∷ 2 ∷ []))
    × (asked totals (verdict sheet_o) ≡ some (
    (some 0 ∷ some 0 ∷ some 4 ∷ some 4 ∷ [])
    ∷ (some 0 ∷ some 5 ∷ some 9 ∷ some 9 ∷ [])
    ∷ (some 0 ∷ some 5 ∷ some 9 ∷ some 9 ∷ [])
    ∷ (some 0 ∷ none ∷ some 0 ∷ none ∷ [])
    ∷ []))
    × (asked root (verdict sheet_o) ≡ some (some 1))
    × (asked (full_cell 1) (verdict sheet_o) ≡ some 9)
    × (asked (laid_out 1) (verdict sheet_o) ≡ some (1 ∷ 2 ∷ []))
    × (asked root (verdict sheet_p) ≡ some (some 1))
    × (asked (full_cell 1) (verdict sheet_p) ≡ some no_cost)
    × (asked (full_cell 2) (verdict sheet_p) ≡ some no_cost)
    × (asked root (verdict sheet_q) ≡ some (some 1))
    × (asked (full_cell 1) (verdict sheet_q) ≡ some 7)
    × (asked (laid_out 1) (verdict sheet_q) ≡ some (1 ∷ []))
unfolding verdict read_for
settled = (refl, refl, refl, refl, refl, refl, refl, refl, refl, refl, refl, refl, refl, refl, refl, refl, refl, refl, refl, refl, refl, refl, refl, refl, refl, refl, refl, refl, refl, refl, refl, refl, refl, refl, refl, refl, refl, refl, refl, refl)
