-- Two cell functions that agree on the nodes of a graph and the sets of its terminals: what is laid out by them, and the root, are the same.
-- Assumes nothing.
use Rattle.std.specs.Prelude.{ℕ, zero, suc, ◌+◌, ◌-◌, ◌^◌, ◌<◌, ◌≡◌, refl, not, ◌&&◌, List, ◌∷◌, ◌++◌, eqb, ltb}
use Rattle.std.proofs.Common.{ap, ap₂, ◌∙◌, arith}
use Rattle.std.proofs.Math.Option.{Option, some}
use Rattle.std.proofs.Math.Pow.{ones_lt}
use Rattle.lists.specs.Find.{first, first_same}
use Rattle.lists.proofs.First.{first_says}
use Rattle.lists.proofs.Cheapest.{cheapest_same}
use Rattle.subset.specs.Sets.{full, is_part}
use Rattle.graph.specs.Graph.{Graph, Sound}
use Rattle.graph.specs.Layout.{is_done, fits, splits, root_of, step, follow_in, layout_in, layout}
use Rattle.graph.proofs.laws.LayoutRule.{step_same}

module _ (G : Graph) (c d : ℕ → ℕ → ℕ) (same : (v w : ℕ) → v < G.nodes → w < 2 ^ G.terminals → c v w ≡ d v w) where
  -- ---- the root

  pub same_root : root_of G c ≡ root_of G d
  same_root =
      cheapest_same G.may_root G.may_root (λ v. c v (full G.terminals)) (λ v. d v (full G.terminals)) G.nodes (λ v on. refl)
      (λ v on. same v (full G.terminals) on (ones_lt G.terminals))

  -- ---- the layout

  module _ (sound : Sound G) (top : ℕ) where
    -- the same arc fits, and the same part splits the set
    same_arc : (v w : ℕ) → v < G.nodes → w < 2 ^ G.terminals → first (fits G c top v w) G.arcs ≡ first (fits G d top v w) G.arcs
    same_arc v w on small = first_same (fits G c top v w) (fits G d top v w) G.arcs (λ e l.
        ap₂ (λ (x y : ℕ). eqb (G.start e) v && (ltb x top && eqb (G.weight e + G.charge v + x) y))
        (same (G.end e) w (sound.end_lt e l) small) (same v w on small))

    same_part : (v w : ℕ) → v < G.nodes → w < 2 ^ G.terminals → first (splits G c v w) w ≡ first (splits G d v w) w
    same_part v w on small = first_same (splits G c v w) (splits G d v w) w (λ y l.
        ap₂ (λ (x z : ℕ). not (eqb y 0) && (is_part y w && eqb x z))
        (ap₂ ◌+◌ (same v y on (omega arith)) (same v (w - y) on (omega arith))) (ap (λ (x : ℕ). x + G.charge v) (same v w on small)))

    -- following, where the parts are laid out alike
    follow_cells : (a b : ℕ → ℕ → List ℕ) → ((v w : ℕ) → v < G.nodes → w < 2 ^ G.terminals → a v w ≡ b v w)
        → (m v w : ℕ) → v < G.nodes → w < 2 ^ G.terminals → follow_in m G c top a v w ≡ follow_in m G d top b v w
    follow_cells a b parts zero v w on small = refl
    follow_cells a b parts (suc m) v w on small =
        let f : ℕ → List ℕ = λ e. e ∷ follow_in m G c top a (G.end e) w in
        let s : ℕ → List ℕ = λ y. a v y ++ a v (w - y) in
        ap₂ (λ (arc part : Option ℕ). step (is_done G v w) arc part f s) (same_arc v w on small) (same_part v w on small)
        ∙ step_same (is_done G v w) (first (fits G d top v w) G.arcs) (first (splits G d v w) w)
        f (λ e. e ∷ follow_in m G d top b (G.end e) w) s (λ y. b v y ++ b v (w - y))
        (λ e q.
        let (l, _, _) = first_says (fits G d top v w) G.arcs (some e) q in
        ap (λ (l : List ℕ). e ∷ l) (follow_cells a b parts m (G.end e) w (sound.end_lt e l) small))
        (λ y q.
        let (l, _, _) = first_says (splits G d v w) w (some y) q in
        ap₂ ◌++◌ (parts v y on (omega arith)) (parts v (w - y) on (omega arith)))

    -- splitting
    layout_cells : (m v w : ℕ) → v < G.nodes → w < 2 ^ G.terminals → layout_in m G c top v w ≡ layout_in m G d top v w
    layout_cells zero v w on small = refl
    layout_cells (suc m) v w on small =
        ap (λ (turns : ℕ). follow_in (suc turns) G c top (layout_in m G c top) v w) (same v w on small)
        ∙ follow_cells (layout_in m G c top) (layout_in m G d top) (layout_cells m) (suc (d v w)) v w on small

    pub same_layout : (v w : ℕ) → v < G.nodes → w < 2 ^ G.terminals → layout G c top v w ≡ layout G d top v w
    same_layout v w = layout_cells (suc w) v w
