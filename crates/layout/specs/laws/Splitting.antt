-- Splitting over lent tables, as code does it: what the answer of the search leads to. And the whole plan.
-- Assumes nothing.
use Rattle.std.specs.Prelude.{Some, None, ℕ, ◌+◌, ◌-◌, ◌^◌, ◌≤◌, ◌<◌, ◌≡◌, List, ◌++◌, length}
use Rattle.std.proofs.Common.{sym, ap, ◌∙◌, subst, arith}
use Rattle.std.proofs.Math.Option.{some}
use Rattle.std.proofs.Math.Pow.{ones_lt}
use Rattle.limits.specs.Limits.{no_cost}
use Rattle.lists.specs.Find.{first}
use Rattle.lists.specs.Over.{over}
use Rattle.subset.specs.Sets.{full, rest}
use Rattle.subset.specs.laws.Parts.{full_ne, rest_difference}
use Rattle.lent_tables.specs.SheetTables.{SheetTables}
use Rattle.graph.specs.Graph.{Graph}
use Rattle.graph.specs.HeldGraph.{graph_in}
use Rattle.graph.specs.Layout.{splits}
use Rattle.graph.proofs.Theorems.{layout_is_least}
use Rattle.cost_table.specs.Cells.{cell_in}
use Rattle.layout_steps.specs.Steps.{found_as}
use Rattle.layout_steps.specs.laws.Tests.{found_some, found_none}
use Rattle.layout_parts.specs.Parts.{splits_in}
use Rattle.layout_walk.specs.Plan.{cells_for, laid, Ready}
use Rattle.layout_walk.specs.laws.Walk.{Placed, Unfollowed, Stored}
use Rattle.layout_walk.specs.laws.Arcs.{load, stored_both, stored_length, stored_over}
use Rattle.layout.specs.laws.Parts.{part_there, part_within, both_laid, part_placed, rest_placed, part_falls, rest_falls}

module _ {n k m : ℕ} {t : SheetTables} {cells : List ℕ} (ready : Ready n k m t cells) where
  -- the graph that the tables hold
  abbrev G : Graph
  G = graph_in n k m t

  -- ---- splitting

  module _ (out : List ℕ) {v w at : ℕ} (p : Placed G cells v w at (length out)) where
    module _ (u : Unfollowed G cells v w) where
      -- a part splits the set
      pub split_found : None ≡ found_as (first (splits_in k cells v w) w) → ⊥
      split_found nothing = part_there G cells ready.finished v w at (length out) p u.undone u.no_arc
          (found_none (first (splits_in k cells v w) w) nothing)

      module _ {y : ℕ} (part : Some y ≡ found_as (first (splits_in k cells v w) w)) where
        splitting : first (splits G (cells_for G cells) v w) w ≡ some y
        splitting = found_some (first (splits_in k cells v w) w) y part

        pub first_placed : Placed G cells v y at (length out)
        first_placed = part_placed G cells ready.finished v w at (length out) p u.undone u.no_arc y splitting

        pub first_falls : (x : ℕ) → load k cells v w + load k cells v w ≡ x → load k cells v y + load k cells v y + 1 < x
        first_falls = part_falls G cells ready.finished v w at (length out) p u.undone u.no_arc y splitting

        -- the rest, as code takes it
        module _ {z : ℕ} (others : z ≡ rest w y) where
          same_rest : z ≡ w - y
          same_rest =
              others ∙ rest_difference w y (part_within G cells ready.finished v w at (length out) p u.undone u.no_arc y splitting)

          pub others_falls : (x : ℕ) → load k cells v w + load k cells v w ≡ x → load k cells v z + load k cells v z + 1 < x
          others_falls x h = subst (λ (r : ℕ). load k cells v r + load k cells v r + 1 < x) (sym same_rest)
              (rest_falls G cells ready.finished v w at (length out) p u.undone u.no_arc y splitting x h)

          module _ {mid : ℕ} {then : List ℕ} (s : Stored (laid G cells v y) at mid out then) where
            pub others_placed : Placed G cells v z mid (length then)
            others_placed =
                subst (λ (x : ℕ). Placed G cells v x mid (length then)) (sym same_rest)
                (subst (Placed G cells v (w - y) mid) (sym (stored_length (laid G cells v y) at mid out then s))
                (rest_placed G cells ready.finished v w at (length out) p u.undone u.no_arc y splitting mid s.place))

            pub both_stored : {r : ℕ} {out' : List ℕ} → Stored (laid G cells v z) mid r then out' → Stored (laid G cells v w) at r out out'
            both_stored {r} {out'} = stored_both (laid G cells v w) (laid G cells v y) (laid G cells v z) at mid r out then out'
                (both_laid G cells ready.finished v w at (length out) p u.undone u.no_arc y splitting
                ∙ ap (λ (x : ℕ). laid G cells v y ++ laid G cells v x) (sym same_rest)) s

  -- ---- the whole plan

  module _ (root : ℕ) (on : root < n) (finite : cell_in cells (2 ^ k) root (full k) < no_cost) where
    pub few_arcs : length (laid G cells root (full k)) ≤ n - 1
    few_arcs = (layout_is_least G ready.finished.sound no_cost ready.finished.room (cells_for G cells) ready.finished.table root (full k) on
        (full_ne k ready.some_terminal) (ones_lt k) finite).few

    -- all arcs have room from the first place on
    pub root_placed : (w size : ℕ) → w ≡ full k → n - 1 ≤ size → Placed G cells root w 0 size
    root_placed w size whole long = subst (λ (x : ℕ). Placed G cells root x 0 size) (sym whole)
        (record { node = on; set = ones_lt k; finite = finite; long = omega (arith, few_arcs) })

    -- and are the first entries of the table
    pub root_stored : (w r : ℕ) (out out' : List ℕ) → w ≡ full k → n - 1 ≤ length out → Stored (laid G cells root w) 0 r out out'
        → (out' ≡ over (laid G cells root (full k)) out) × (r ≡ length (laid G cells root (full k)))
    root_stored w r out out' whole long s =
        stored_over (laid G cells root (full k)) r out out' (omega (arith, few_arcs)) (subst (λ (x : ℕ). Stored (laid G cells root x) 0 r out out') whole s)
