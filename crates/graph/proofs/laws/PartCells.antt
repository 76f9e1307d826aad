-- The cells of the parts of a set. Where a set and its parts are closed, a cell of the set is at most the least total; so where the proper
-- parts of a set are closed, and two parts that make the set are finite at a node, every proper part is finite there and costs at most as much
-- as these two.
-- Assumes nothing.
use Prim.Native.Nat.{ℕ, zero, suc, ◌+◌, ◌-◌, ◌^◌, ◌≤◌, ◌<◌}
use Rattle.std.specs.Prelude.{◌≡◌, refl, ◌≢◌, List, ◌++◌}
use Rattle.std.proofs.Common.{ap, subst, ⊎_elim, arith}
use Rattle.std.specs.Int.Bits.{and_self}
use Rattle.subset.specs.Sets.{Part}
use Rattle.subset.specs.laws.Parts.{part_has, part_trans, part_le, rest_disjoint, part_and_rest}
use Rattle.graph.specs.Graph.{Graph, Sound}
use Rattle.graph.specs.Subtrees.{Subtree, Covers, total}
use Rattle.graph.specs.LeastTotals.{least_cell, Least, NoSubtree, Room}
use Rattle.graph.specs.Growth.{kept}
use Rattle.graph.specs.ClosedSupported.{ClosedSet, Support, by_landing, by_arc, by_split, Supported}
use Rattle.graph.proofs.laws.SubtreeParts.{total_by_arc}
use Rattle.graph.proofs.laws.UpperBound.{connected_split, connected_subtree, attain_connected}
use Rattle.graph.proofs.laws.LeastMeaning.{table_right}
use Rattle.graph.proofs.laws.Settling.{part_left, part_right}
use Rattle.graph.proofs.laws.CostTable.{cost_table_supported}

-- ---- cells of closed sets are at most the finite cells of a supported table

-- c has the closed sets, and d is supported
module _ (G : Graph) (sound : Sound G) (c d : ℕ → ℕ → ℕ) (top : ℕ) (S : Supported G d top) where
  -- the set and its parts that are not empty are closed
  PartsClosed : ℕ → Type 0
  PartsClosed w = (y : ℕ) → Part y w → y ≢ 0 → ClosedSet G c y

  -- no cell of the set w is above a finite cell of d
  Below : ℕ → Type 0
  Below w = w ≢ 0 → w < 2 ^ G.terminals → PartsClosed w → (v : ℕ) → v < G.nodes → d v w < top → c v w ≤ d v w

  -- for one set, by induction on the cell of d, where it is so for smaller sets
  below_set : (w : ℕ) → ((y : ℕ) → y < w → Below y) → w ≢ 0 → w < 2 ^ G.terminals → PartsClosed w
      → (b v : ℕ) → d v w < b → v < G.nodes → d v w < top → c v w ≤ d v w
  unfolding Below PartsClosed
  below_set w smaller ne small parts zero v lt on finite = absurd (omega arith)
  below_set w smaller ne small parts (suc b) v lt on finite =
      go (S v w on ne small finite) (λ u less on_graph finite_end. below_set w smaller ne small parts b u less on_graph finite_end)
    where
      whole : ClosedSet G c w
      whole = parts w (and_self w) ne

      go : Support G d top v w (d v w) → ((u : ℕ) → d u w < b → u < G.nodes → d u w < top → c u w ≤ d u w) → c v w ≤ d v w
      go (by_landing i l q t h) below = omega (arith, whole.started.landing v i on l q t)
      go (by_arc e l q f h) below =
          let at_end = below (G.end e) (omega (arith, sound.weight_pos e l)) (sound.end_lt e l) f in
          omega (arith, whole.arc e l, ap (λ (u : ℕ). c u w) q, ap G.charge q)
      go (by_split y z ny nz p q fy fz h) below =
          let at_y = smaller y (omega arith) ny (omega arith) (λ x part. parts x (part_trans x y w part (part_left y z w p q))) v on fy in
          let at_z = smaller z (omega arith) nz (omega arith) (λ x part. parts x (part_trans x z w part (part_right y z w p q))) v on fz in
          omega (arith, whole.started.split v y z on ny nz p q)

  -- for all sets, by induction on the set
  below_all : (b w : ℕ) → w < b → Below w
  unfolding Below
  below_all zero w l = absurd (omega arith)
  below_all (suc b) w l = λ ne small parts v on finite.
      below_set w (λ y h. below_all b y (omega arith)) ne small parts (suc (d v w)) v (omega arith) on finite

  pub closed_below_supported : (w : ℕ) → w ≢ 0 → w < 2 ^ G.terminals → ((y : ℕ) → Part y w → y ≢ 0 → ClosedSet G c y)
      → (v : ℕ) → v < G.nodes → d v w < top → c v w ≤ d v w
  unfolding Below PartsClosed
  closed_below_supported w ne small parts v on finite = below_all (suc w) w (omega arith) ne small parts v on finite

-- the table of the least totals is supported
pub closed_below_least : (G : Graph) → Sound G → (c : ℕ → ℕ → ℕ) (top : ℕ) → Room G top
    → (w : ℕ) → w ≢ 0 → w < 2 ^ G.terminals → ((y : ℕ) → Part y w → y ≢ 0 → ClosedSet G c y)
    → (v : ℕ) → v < G.nodes → least_cell G top v w < top → c v w ≤ least_cell G top v w
closed_below_least G sound c top room =
    closed_below_supported G sound c (least_cell G top) top (cost_table_supported G sound (least_cell G top) top room (λ v w on small. refl))

-- ---- no proper part costs more than a split

-- where the proper parts of w are closed, and those of one split are finite
module _ (G : Graph) (sound : Sound G) (c : ℕ → ℕ → ℕ) (top : ℕ) (room : Room G top) (S : Supported G c top) (w : ℕ) (small : w < 2 ^ G.terminals)
    (closed : (y : ℕ) → Part y w → y ≢ 0 → y ≢ w → ClosedSet G c y) (v y : ℕ) (on : v < G.nodes) (part : Part y w) (ne : y ≢ 0) (proper : y ≢ w)
    (finite : c v y < top) (finite_rest : c v (w - y) < top) where
  -- both parts together are held by a subtree that costs no more
  split_subtree : (L : List ℕ) × Subtree G v L × Covers G v L w × (total G v L + G.charge v ≤ c v y + c v (w - y))
  split_subtree =
      let le = part_le y w part in
      let (A, one) = attain_connected G sound c top S v y on ne (omega arith) finite in
      let (B, other) = attain_connected G sound c top S v (w - y) on (λ e. proper (omega arith)) (omega arith) finite_rest in
      let least_charge = total_by_arc G v A in
      let given : ℕ = c v y + c v (w - y) - G.charge v in
      let both = connected_split G v y (w - y) (c v y) (c v (w - y)) given A B (rest_disjoint w y part) one other (omega arith) in
      let (subtree, covers, cheap) = connected_subtree G v (y + (w - y)) given (A ++ B) on both in
      (kept G v (A ++ B), subtree, subst (Covers G v (kept G v (A ++ B))) (part_and_rest w y part) covers, omega (arith, one.cheap))

  pub parts_below : (z : ℕ) → Part z w → z ≢ 0 → z ≢ w → (c v z < top) × (c v z + G.charge v ≤ c v y + c v (w - y))
  parts_below z part-z ne-z proper-z =
      let le_z = part_le z w part-z in
      let (L, subtree, covers, cheap) = split_subtree in
      let finite_z = room v L subtree in
      let least : least_cell G top v z ≤ total G v L = cell_least L subtree (λ i l t. covers i l (part_has z w part-z i t)) in
      let low = closed_below_least G sound c top room z ne-z (omega arith) parts v on (omega arith) in
      (omega arith, omega arith)
    where
      -- a part of z is a proper part of w
      parts : (x : ℕ) → Part x z → x ≢ 0 → ClosedSet G c x
      parts x p n =
          let le = part_le x z p in
          let le_z = part_le z w part-z in
          closed x (part_trans x z w p part-z) n (λ e. proper-z (omega arith))

      -- the cell of z is at most the total of such a subtree
      cell_least : (L : List ℕ) → Subtree G v L → Covers G v L z → least_cell G top v z ≤ total G v L
      cell_least L t cov = ⊎_elim (λ (p : Least G v z (least_cell G top v z)). p.least L t cov)
          (λ (p : (least_cell G top v z ≡ top) × NoSubtree G v z). absurd (p.1 L t cov))
          (table_right G top (least_cell G top) (λ u x on_graph few. refl) v z on ne-z (let le = part_le z w part-z in omega arith))
