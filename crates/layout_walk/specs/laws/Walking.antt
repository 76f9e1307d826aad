-- A walk along fitting arcs, one arc at a time: what is listed, and what it leaves to list.
-- Assumes nothing.
use Rattle.std.specs.Prelude.{ℕ, ◌+◌, ◌<◌, ◌≡◌, refl, not, List, [], ◌∷◌, ◌++◌, T, length, set}
use Rattle.std.proofs.Common.{sym, ap, ◌∙◌, subst, append_assoc, arith, length-set}
use Rattle.std.proofs.Math.Option.{some}
use Rattle.limits.specs.Limits.{no_cost}
use Rattle.lists.specs.Find.{first}
use Rattle.graph.specs.Graph.{Graph}
use Rattle.graph.specs.Layout.{is_done, fits}
use Rattle.graph.proofs.Theorems.{following_falls}
use Rattle.layout_walk.specs.Plan.{cells_for, laid, Finished}
use Rattle.layout_walk.specs.laws.Walk.{Placed, Stored, Walked}
use Rattle.layout_walk.specs.laws.Arcs.{load, stored_nothing, stored_one, stored_both, stored_length, nothing_laid, arc_laid, arc_placed}

-- before the first arc
pub walked_none : (G : Graph) (cells : List ℕ) (v w at : ℕ) (out : List ℕ) → Placed G cells v w at (length out) → Walked G cells v w at out out v at
walked_none G cells v w at out p = record {
  arcs = [];
  listed = stored_nothing [] at out refl;
  left = refl;
  placed = p;
  cheap = omega arith;
}

module _ (G : Graph) (cells : List ℕ) (v w at : ℕ) (out then : List ℕ) (node place : ℕ) (h : Walked G cells v w at out then node place) where
  -- the table keeps its length
  pub walked_length : length then ≡ length out
  walked_length = stored_length h.arcs at place out then h.listed

  -- the arcs of the node come after those of the walk
  pub walked_stored : (r : ℕ) (out' : List ℕ) → Stored (laid G cells node w) place r then out' → Stored (laid G cells v w) at r out out'
  walked_stored r out' = stored_both (laid G cells v w) h.arcs (laid G cells node w) at place r out then out' h.left h.listed

  -- one arc more
  pub walked_arc : Finished G cells → T (not (is_done G node w)) → (e : ℕ) → first (fits G (cells_for G cells) no_cost node w) G.arcs ≡ some e
      → Walked G cells v w at out (set then place e) (G.end e) (place + 1)
  walked_arc f undone e q = record {
    arcs = h.arcs ++ (e ∷ []);
    listed = stored_both (h.arcs ++ (e ∷ [])) h.arcs (e ∷ []) at place (place + 1) out then (set then place e) refl h.listed (stored_one e place then);
    left = h.left ∙ ap (λ (l : List ℕ). h.arcs ++ l) (arc_laid G cells f node w place (length then) h.placed undone e q)
        ∙ sym (append_assoc h.arcs (e ∷ []) (laid G cells (G.end e) w));
    placed = subst (Placed G cells (G.end e) w (place + 1)) (sym (length-set then place e))
        (arc_placed G cells f node w place (length then) h.placed undone e q);
    cheap = omega (arith, h.cheap, following_falls G f.sound (cells_for G cells) no_cost node w e q);
  }

module _ (G : Graph) (cells : List ℕ) (v w at : ℕ) (out then : List ℕ) (node place : ℕ) (h : Walked G cells v w at out then node place) where
  -- where the walk ends at a node at which nothing is added, all is listed
  pub done_stored : Finished G cells → T (is_done G node w) → Stored (laid G cells v w) at place out then
  done_stored f t = walked_stored G cells v w at out then node place h place then
      (stored_nothing (laid G cells node w) place then (nothing_laid G cells f node w t))

  -- splitting at the node comes after following from v on
  pub stuck_falls : (t : ℕ) → load G.terminals cells v w + load G.terminals cells v w + 1 ≡ t
      → load G.terminals cells node w + load G.terminals cells node w < t
  unfolding load
  stuck_falls t m = omega (arith, h.cheap)
