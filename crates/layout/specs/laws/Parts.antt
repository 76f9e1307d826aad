-- One set that is split: what is left to list, and that the size of the set combined with the cell's cost falls.
-- Assumes nothing.
use Rattle.std.specs.Prelude.{ℕ, ◌+◌, ◌-◌, ◌≤◌, ◌<◌, ◌≡◌, ◌≢◌, not, List, ◌++◌, T, length}
use Rattle.std.proofs.Common.{ap, ◌∙◌, inl, arith, length-append}
use Rattle.std.proofs.Math.Option.{none, some}
use Rattle.limits.specs.Limits.{no_cost}
use Rattle.lists.specs.Find.{first}
use Rattle.lists.specs.Tests.{not_both}
use Rattle.subset.specs.Sets.{Part}
use Rattle.graph.specs.Graph.{Graph}
use Rattle.graph.specs.Layout.{is_done, fits, splits}
use Rattle.graph.proofs.laws.LayoutRule.{facts_done}
use Rattle.graph.proofs.Theorems.{rule_split, step_applies, splitting_falls, splitting_leads}
use Rattle.layout_walk.specs.Plan.{cells_for, laid, Finished}
use Rattle.layout_walk.specs.laws.Walk.{Placed}
use Rattle.layout_walk.specs.laws.Arcs.{load}

module _ (G : Graph) (cells : List ℕ) (f : Finished G cells) (v w : ℕ) where
  -- where something is to be added the set is not empty
  undone_filled : T (not (is_done G v w)) → w ≢ 0
  undone_filled n e = not_both (is_done G v w) (facts_done G v w (inl e)) n

  module _ (at size : ℕ) (p : Placed G cells v w at size) (undone : T (not (is_done G v w))) where
    module _ (no_arc : first (fits G (cells_for G cells) no_cost v w) G.arcs ≡ none) where
      -- a part splits it
      pub part_there : first (splits G (cells_for G cells) v w) w ≡ none → ⊥
      part_there =
          step_applies G f.sound no_cost f.room (cells_for G cells) f.table v w p.node (undone_filled undone) p.set p.finite undone no_arc

      module _ (y : ℕ) (q : first (splits G (cells_for G cells) v w) w ≡ some y) where
        pub both_laid : laid G cells v w ≡ laid G cells v y ++ laid G cells v (w - y)
        both_laid = rule_split G f.sound (cells_for G cells) no_cost v w y undone no_arc q

        both_long : length (laid G cells v w) ≡ length (laid G cells v y) + length (laid G cells v (w - y))
        both_long = ap length both_laid ∙ length-append (laid G cells v y) (laid G cells v (w - y))

        -- the part, and its cell and that of the rest
        leads : (y < w) × Part y w × (cells_for G cells v y ≤ cells_for G cells v w) × (cells_for G cells v (w - y) ≤ cells_for G cells v w)
        leads = splitting_leads G f.sound no_cost f.room (cells_for G cells) f.table v w y p.node p.set q

        pub part_within : Part y w
        part_within = leads.1

        pub part_placed : Placed G cells v y at size
        part_placed =
            let (less, _, one, _) = leads in
            record { node = p.node; set = omega (arith, p.set); finite = omega (arith, p.finite); long = omega (arith, p.long, both_long) }

        pub rest_placed : (mid : ℕ) → mid ≡ at + length (laid G cells v y) → Placed G cells v (w - y) mid size
        rest_placed mid e =
            let (less, _, _, other) = leads in
            record { node = p.node; set = omega (arith, p.set); finite = omega (arith, p.finite); long = omega (arith, p.long, both_long) }

        module _ (t : ℕ) (m : load G.terminals cells v w + load G.terminals cells v w ≡ t) where
          pub part_falls : load G.terminals cells v y + load G.terminals cells v y + 1 < t
          unfolding load
          part_falls = omega (arith, (splitting_falls G f.sound no_cost f.room (cells_for G cells) f.table v w y p.node p.set q).0)

          pub rest_falls : load G.terminals cells v (w - y) + load G.terminals cells v (w - y) + 1 < t
          unfolding load
          rest_falls = omega (arith, (splitting_falls G f.sound no_cost f.room (cells_for G cells) f.table v w y p.node p.set q).1)
