-- The layout at a closed and supported table: at a finite cell one of its steps applies; each step leads to cells that are finite, and the
-- cell and the size of the set together fall; and what is laid out is a directed subtree whose total is the cell.
-- Assumes nothing.
use Rattle.std.specs.Prelude.{ℕ, zero, suc, ◌+◌, ◌-◌, ◌^◌, ◌≤◌, ◌<◌, ◌≡◌, refl, ◌≢◌, ◌⊎◌, Bool, true, false, not, List, [], ◌∷◌, ◌++◌, T}
use Rattle.std.proofs.Common.{sym, ap, subst, inl, inr, arith, le_antisymm}
use Rattle.std.proofs.Math.Option.{Option, none, some}
use Rattle.std.specs.Int.Bits.{bit_and}
use Rattle.std.specs.Int.Count.{ones}
use Rattle.lists.specs.Tests.{true_fact, false_not_fact, not_both}
use Rattle.lists.specs.Find.{first}
use Rattle.lists.proofs.First.{first_says}
use Rattle.subset.specs.Sets.{single, Part}
use Rattle.subset.specs.laws.Parts.{part_sum, rest_disjoint, part_and_rest}
use Rattle.subset.specs.laws.Sizes.{proper_part_size, rest_size}
use Rattle.graph.specs.Graph.{Graph, Sound, Landing}
use Rattle.graph.specs.Subtrees.{Subtree, Covers, total}
use Rattle.graph.specs.Growth.{kept}
use Rattle.graph.specs.ClosedSupported.{Closed, Support, by_landing, by_arc, by_split, Supported}
use Rattle.graph.specs.Layout.{is_done, fits, splits, layout}
use Rattle.graph.proofs.laws.ClosedTables.{closed_arc, closed_split}
use Rattle.graph.proofs.laws.Growing.{kept_all, whole_subtree}
use Rattle.graph.proofs.laws.LowerBound.{subtree_lower}
use Rattle.graph.proofs.laws.UpperBound.{charge_le_cell, Connected, connected_landing, connected_arc, connected_split, connected_subtree}
use Rattle.graph.proofs.laws.LayoutRule.{fits_facts, facts_fit, splits_facts, facts_split, done_facts, facts_done}
use Rattle.graph.proofs.laws.LayoutRule.{layout_nothing, layout_arc, layout_split}

module _ (G : Graph) (sound : Sound G) (c : ℕ → ℕ → ℕ) (top : ℕ) (C : Closed G c) (S : Supported G c top)
    (room : (v : ℕ) → v < G.nodes → G.charge v ≤ top) where
  -- ---- a step applies

  -- an arc that gives no more than the cell fits
  fits_passes : (v w e : ℕ) → e < G.arcs → G.start e ≡ v → w ≢ 0 → w < 2 ^ G.terminals → c (G.end e) w < top
      → G.weight e + G.charge v + c (G.end e) w ≤ c v w → T (fits G c top v w e)
  fits_passes v w e l q ne small finite h =
      let back : c v w ≤ G.weight e + G.charge v + c (G.end e) w =
      subst (λ (u : ℕ). c u w ≤ G.weight e + G.charge u + c (G.end e) w) q (closed_arc C e w l ne small) in
      facts_fit G c top v w e (q, (finite, le_antisymm h back))

  -- a part that, with the rest, gives no more than the cell splits the set
  splits_passes : (v w y z : ℕ) → v < G.nodes → y ≢ 0 → z ≢ 0 → bit_and y z ≡ 0 → y + z ≡ w → w < 2 ^ G.terminals
      → c v y + c v z ≤ c v w + G.charge v → T (splits G c v w y)
  splits_passes v w y z on ny nz d q small h =
      let rest : w - y ≡ z = omega arith in
      let back = closed_split C v y z on ny nz d (omega arith) in
      facts_split G c v w y (ny, (subst (Part y) q (part_sum y z d), omega (arith, ap (c v) rest, ap (c v) q)))

  -- at a finite cell of a set that is not empty, where the layout is not done, an arc fits or a part splits the set
  pub step_passes : (v w : ℕ) → v < G.nodes → w ≢ 0 → w < 2 ^ G.terminals → c v w < top → T (not (is_done G v w))
      → first (fits G c top v w) G.arcs ≡ none → first (splits G c v w) w ≡ none → ⊥
  step_passes v w on ne small finite more arc part = go (S v w on ne small finite)
    where
      no_arc : (e : ℕ) → e < G.arcs → T (not (fits G c top v w e))
      no_arc = first_says (fits G c top v w) G.arcs none arc

      no_part : (y : ℕ) → y < w → T (not (splits G c v w y))
      no_part = first_says (splits G c v w) w none part

      go : Support G c top v w (c v w) → ⊥
      go (by_landing i l q t h) = not_both (is_done G v w) (facts_done G v w (inr (i, l, q, t))) more
      go (by_arc e l q f h) = not_both (fits G c top v w e) (fits_passes v w e l q ne small f h) (no_arc e l)
      go (by_split y z ny nz d q fy fz h) = not_both (splits G c v w y) (splits_passes v w y z on ny nz d q small h) (no_part y (omega arith))

  -- ---- where a step leads

  -- the arc that is followed starts at v; with the finite cell of its end it makes the cell
  pub arc_found : (v w e : ℕ) → first (fits G c top v w) G.arcs ≡ some e
      → (e < G.arcs) × (G.start e ≡ v) × (c (G.end e) w < top) × (G.weight e + G.charge v + c (G.end e) w ≡ c v w)
  arc_found v w e q =
      let s = first_says (fits G c top v w) G.arcs (some e) q in
      let (starts, (finite, makes)) = fits_facts G c top v w e s.1 in
      (s.0, starts, finite, makes)

  -- the part by which a set is split is neither empty nor the set; its cell and that of the rest are not above the set's, and they make it
  pub part_found : (v w y : ℕ) → v < G.nodes → w < 2 ^ G.terminals → first (splits G c v w) w ≡ some y
      → (y ≢ 0) × (y < w) × Part y w × (c v y ≤ c v w) × (c v (w - y) ≤ c v w) × (c v y + c v (w - y) ≡ c v w + G.charge v)
  part_found v w y on small q =
      let s = first_says (splits G c v w) w (some y) q in
      let (ny, (p, makes)) = splits_facts G c v w y s.1 in
      let below : y < w = s.0 in
      let fy = charge_le_cell G c top S room v y on ny (omega arith) in
      let fz = charge_le_cell G c top S room v (w - y) on (omega arith) (omega arith) in
      (ny, below, p, omega arith, omega arith, makes)

  -- both parts are smaller than the set, and their cells are not above the set's
  pub split_measure : (v w y : ℕ) → v < G.nodes → w < 2 ^ G.terminals → first (splits G c v w) w ≡ some y
      → (c v y + ones y < c v w + ones w) × (c v (w - y) + ones (w - y) < c v w + ones w)
  split_measure v w y on small q =
      let (ny, below, p, ly, lz, _) = part_found v w y on small q in
      (omega (arith, proper_part_size w y p below), omega (arith, rest_size w y p (omega arith)))

  -- ---- what is laid out

  -- the arcs laid out are connected, hold a landing of each terminal of w and cost at most the cell: by induction on the cell and the set
  lays : (b v w : ℕ) → c v w + w < b → v < G.nodes → w ≢ 0 → w < 2 ^ G.terminals → c v w < top → Connected G v w (c v w) (layout G c top v w)
  lays zero v w l on ne small finite = absurd (omega arith)
  lays (suc b) v w l on ne small finite =
      go (is_done G v w) refl (first (fits G c top v w) G.arcs) refl (first (splits G c v w) w) refl
      (λ u y less node filled limit f. lays b u y less node filled limit f)
    where
      go : (t : Bool) → is_done G v w ≡ t → (o : Option ℕ) → first (fits G c top v w) G.arcs ≡ o → (p : Option ℕ) → first (splits G c v w) w ≡ p
          → ((u y : ℕ) → c u y + y < b → u < G.nodes → y ≢ 0 → y < 2 ^ G.terminals → c u y < top → Connected G u y (c u y) (layout G c top u y))
          → Connected G v w (c v w) (layout G c top v w)
      go true t o q p r below = landed (done_facts G v w (true_fact t))
        where
          landed : (w ≡ 0) ⊎ ((i : ℕ) × (i < G.terminals) × (w ≡ single i) × Landing G i v) → Connected G v w (c v w) (layout G c top v w)
          landed (inl z) = absurd (ne z)
          landed (inr (i, li, e, h)) =
              subst (Connected G v w (c v w)) (sym (layout_nothing G sound c top v w (true_fact t)))
              (subst (λ (x : ℕ). Connected G v x (c v w) []) (sym e) (connected_landing G v i (c v w) li h (charge_le_cell G c top S room v w on ne small)))
      go false t (some e) q p r below =
          let (le, starts, f, makes) = arc_found v w e q in
          let later = below (G.end e) w (omega (arith, sound.weight_pos e le)) (sound.end_lt e le) ne small f in
          subst (Connected G v w (c v w)) (sym (layout_arc G sound c top v w e (false_not_fact t) q))
          (subst (λ (u : ℕ). Connected G u w (c v w) (e ∷ layout G c top (G.end e) w)) starts
          (connected_arc G e w (c (G.end e) w) (c v w) (layout G c top (G.end e) w) le later (omega (arith, ap G.charge starts))))
      go false t none q (some y) r below =
          let (ny, ly, part, cy, cz, makes) = part_found v w y on small r in
          let one = below v y (omega arith) on ny (omega arith) (omega arith) in
          let other = below v (w - y) (omega arith) on (omega arith) (omega arith) (omega arith) in
          subst (Connected G v w (c v w)) (sym (layout_split G sound c top v w y (false_not_fact t) q r))
          (subst (λ (x : ℕ). Connected G v x (c v w) (layout G c top v y ++ layout G c top v (w - y))) (part_and_rest w y part)
          (connected_split G v y (w - y) (c v y) (c v (w - y)) (c v w) (layout G c top v y) (layout G c top v (w - y))
          (rest_disjoint w y part) one other (omega arith)))
      go false t none q none r below = absurd (step_passes v w on ne small finite (false_not_fact t) q r)

  -- it is a directed subtree with root v that holds a landing of each terminal of w, and its total is the cell
  pub layout_subtree : (v w : ℕ) → v < G.nodes → w ≢ 0 → w < 2 ^ G.terminals → c v w < top
      → Subtree G v (layout G c top v w) × Covers G v (layout G c top v w) w × (total G v (layout G c top v w) ≡ c v w)
  layout_subtree v w on ne small finite =
      let L : List ℕ = layout G c top v w in
      let j : Connected G v w (c v w) L = lays (suc (c v w + w)) v w (omega arith) on ne small finite in
      let (grown, covers, cheap) = connected_subtree G v w (c v w) L on j in
      let low : c v w ≤ total G v (kept G v L) = subtree_lower G sound c C v (kept G v L) w small grown covers in
      let t : Subtree G v L = whole_subtree G v L on j.on_graph (kept_all G v L sound j.on_graph (omega (arith, j.cheap))) in
      (t, j.covers, le_antisymm j.cheap (subtree_lower G sound c C v L w small t j.covers))
