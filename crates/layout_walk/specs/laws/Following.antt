-- Following over lent tables, as code does it: what the answers of the test and the search lead to.
-- Assumes nothing.
use Rattle.std.specs.Prelude.{Some, None, ℕ, ◌+◌, ◌*◌, ◌^◌, ◌<◌, ◌≡◌, Bool, true, false, not, List, T, length, get_or, set}
use Rattle.std.proofs.Common.{sym, ◌∙◌, subst, lt_of_lt_of_le}
use Rattle.std.proofs.Math.Option.{some}
use Rattle.std.proofs.Math.Arith.{digits_lt}
use Rattle.limits.specs.Limits.{no_cost}
use Rattle.lists.specs.Find.{first}
use Rattle.lists.specs.Tests.{true_fact, false_not_fact}
use Rattle.lent_tables.specs.SheetTables.{SheetTables, arc_tables_of, arcs_long}
use Rattle.graph.specs.Graph.{Graph}
use Rattle.graph.specs.HeldGraph.{graph_in, end_in}
use Rattle.graph.specs.Layout.{is_done, fits}
use Rattle.layout_steps.specs.Steps.{done_at, fits_in, found_as, ArcsHeld}
use Rattle.layout_steps.specs.laws.Tests.{done_in, found_some, found_none}
use Rattle.layout_walk.specs.Plan.{cells_for, Ready}
use Rattle.layout_walk.specs.laws.Walk.{Unfollowed, Walked}
use Rattle.layout_walk.specs.laws.Arcs.{load, arc_on, arc_room, arc_falls}
use Rattle.layout_walk.specs.laws.Walking.{walked_arc}

module _ {n k m : ℕ} {t : SheetTables} {cells : List ℕ} (ready : Ready n k m t cells) where
  -- the graph that the tables hold
  abbrev G : Graph
  G = graph_in n k m t

  -- the cell of a node and a set lies in the table
  pub cell_in : (v w : ℕ) → v < n → w < 2 ^ k → v * 2 ^ k + w < length cells
  cell_in v w on small = lt_of_lt_of_le (digits_lt on small) ready.long_cells

  -- an arc of the tables ends at a node
  end_lt : (e : ℕ) → e < m → get_or t.ends e 0 < n
  end_lt e l = subst (λ (u : ℕ). u < n) (end_in n k m t e l) (ready.finished.sound.end_lt e l)

  module _ {v w at : ℕ} {out then : List ℕ} {node place : ℕ} (h : Walked G cells v w at out then node place) where
    -- the tables hold the landing entry, the arcs and the cells that are looked at
    pub node_held : node < length t.landings
    node_held = lt_of_lt_of_le h.placed.node ready.long.landings

    pub arcs_held : ArcsHeld k m (arc_tables_of t) cells node w
    arcs_held = record {
      terminals = ready.terminals;
      long = arcs_long ready.long;
      here = cell_in node w h.placed.node h.placed.set;
      there = λ e l. cell_in (get_or t.ends e 0) w (end_lt e l) h.placed.set;
    }

    module _ {done : Bool} (test : done ≡ done_at (get_or t.landings node 0) w) where
      same_test : (b : Bool) → done ≡ b → is_done G node w ≡ b
      same_test b is = done_in n k m t node w h.placed.node h.placed.set ∙ sym test ∙ is

      -- nothing is added
      pub walk_ends : done ≡ true → Walked G cells v w at out then node place × T (is_done G node w)
      walk_ends is = (h, true_fact (same_test true is))

      module _ (more : done ≡ false) where
        undone : T (not (is_done G node w))
        undone = false_not_fact (same_test false more)

        -- an arc is followed
        module _ {e : ℕ} (found : Some e ≡ found_as (first (fits_in k m (arc_tables_of t) cells node w) m)) where
          fitting : first (fits G (cells_for G cells) no_cost node w) m ≡ some e
          fitting = found_some (first (fits_in k m (arc_tables_of t) cells node w) m) e found

          pub arc_held : e < m
          arc_held = arc_on G cells ready.finished node w place (length then) h.placed undone e fitting

          same_end : G.end e ≡ get_or t.ends e 0
          same_end = end_in n k m t e arc_held

          pub arc_fits : place < length then
          arc_fits = arc_room G cells ready.finished node w place (length then) h.placed undone e fitting

          pub end_walked : Walked G cells v w at out (set then place e) (get_or t.ends e 0) (place + 1)
          end_walked = subst (λ (u : ℕ). Walked G cells v w at out (set then place e) u (place + 1)) same_end
              (walked_arc G cells v w at out then node place h ready.finished undone e fitting)

          pub end_falls : load k cells (get_or t.ends e 0) w < load k cells node w
          end_falls = subst (λ (u : ℕ). load k cells u w < load k cells node w) same_end
              (arc_falls G cells ready.finished node w place (length then) h.placed undone e fitting)

        -- no arc fits
        pub walk_stops : None ≡ found_as (first (fits_in k m (arc_tables_of t) cells node w) m)
            → Walked G cells v w at out then node place × Unfollowed G cells node w
        walk_stops found = (h, record { undone = undone; no_arc = found_none (first (fits_in k m (arc_tables_of t) cells node w) m) found })
