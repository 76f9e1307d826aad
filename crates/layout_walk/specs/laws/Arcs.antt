-- One arc that is followed: what is listed, what is left to list, and that the size of the set combined with the cell's cost falls.
-- Assumes nothing.
use Rattle.std.specs.Prelude.{ℕ, ◌+◌, ◌^◌, ◌≤◌, ◌<◌, ◌≡◌, refl, not, List, [], ◌∷◌, ◌++◌, T, length, set}
use Rattle.std.proofs.Common.{sym, ap, ◌∙◌, arith, length-append}
use Rattle.std.proofs.Math.Option.{some}
use Rattle.std.specs.Int.Count.{ones}
use Rattle.std.proofs.lemmas.List.Edits.{sets}
use Rattle.std.proofs.Math.Seq.{length-sets}
use Rattle.limits.specs.Limits.{no_cost}
use Rattle.lists.specs.Find.{first}
use Rattle.lists.specs.Stores.{sets_then, sets_over}
use Rattle.lists.specs.Over.{over}
use Rattle.graph.specs.Graph.{Graph}
use Rattle.graph.specs.Layout.{is_done, fits}
use Rattle.graph.proofs.Theorems.{rule_nothing, rule_arc, following_falls, following_leads}
use Rattle.cost_table.specs.Cells.{cell_in}
use Rattle.layout_walk.specs.Plan.{cells_for, laid, Finished}
use Rattle.layout_walk.specs.laws.Walk.{Placed, Stored}

-- ---- the measure

-- the cell's cost and the size of the set
unfoldable pub load : (k : ℕ) → List ℕ → (v w : ℕ) → ℕ
load k cells v w = cell_in cells (2 ^ k) v w + ones w

-- ---- what is listed

-- nothing
pub stored_nothing : (arcs : List ℕ) (at : ℕ) (out : List ℕ) → arcs ≡ [] → Stored arcs at at out out
stored_nothing arcs at out e = record { place = omega (arith, ap length e); entries = sym (ap (sets out at) e) }

-- one arc
pub stored_one : (e at : ℕ) (out : List ℕ) → Stored (e ∷ []) at (at + 1) out (set out at e)
stored_one e at out = record { place = omega arith; entries = refl }

-- some arcs, then others
pub stored_both : (arcs part rest : List ℕ) (at mid r : ℕ) (out then out' : List ℕ) → arcs ≡ part ++ rest
    → Stored part at mid out then → Stored rest mid r then out' → Stored arcs at r out out'
stored_both arcs part rest at mid r out then out' q s t = record {
  place = omega (arith, ap length q, length-append part rest, s.place, t.place);
  entries = sets_then part rest out then out' at mid s.entries s.place t.entries ∙ sym (ap (sets out at) q);
}

-- the table keeps its length
pub stored_length : (arcs : List ℕ) (at r : ℕ) (out out' : List ℕ) → Stored arcs at r out out' → length out' ≡ length out
stored_length arcs at r out out' s = ap length s.entries ∙ length-sets out at arcs

-- from the first place on
pub stored_over : (arcs : List ℕ) (r : ℕ) (out out' : List ℕ) → length arcs ≤ length out → Stored arcs 0 r out out' → (out' ≡ over arcs out) × (r ≡ length arcs)
stored_over arcs r out out' long s = (s.entries ∙ sets_over arcs out long, omega (arith, s.place))

module _ (G : Graph) (cells : List ℕ) (f : Finished G cells) (v w : ℕ) where
  -- ---- nothing is added

  pub nothing_laid : T (is_done G v w) → laid G cells v w ≡ []
  nothing_laid = rule_nothing G f.sound (cells_for G cells) no_cost v w

  module _ (at size : ℕ) (p : Placed G cells v w at size) (undone : T (not (is_done G v w))) where
    -- ---- an arc is followed

    module _ (e : ℕ) (q : first (fits G (cells_for G cells) no_cost v w) G.arcs ≡ some e) where
      pub arc_laid : laid G cells v w ≡ e ∷ laid G cells (G.end e) w
      arc_laid = rule_arc G f.sound (cells_for G cells) no_cost v w e undone q

      pub arc_on : e < G.arcs
      arc_on = (following_leads G f.sound no_cost f.room (cells_for G cells) f.table v w e q).0

      pub arc_room : at < size
      arc_room = omega (arith, p.long, ap length arc_laid)

      pub arc_placed : Placed G cells (G.end e) w (at + 1) size
      arc_placed = record {
        node = f.sound.end_lt e arc_on;
        set = p.set;
        finite = (following_leads G f.sound no_cost f.room (cells_for G cells) f.table v w e q).1;
        long = omega (arith, p.long, ap length arc_laid);
      }

      pub arc_falls : load G.terminals cells (G.end e) w < load G.terminals cells v w
      unfolding load
      arc_falls = following_falls G f.sound (cells_for G cells) no_cost v w e q
