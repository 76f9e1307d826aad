-- The upper bound: each finite cell of a supported table, of a set that is not empty, is no less than the total of some directed subtree
-- that holds a landing of each terminal of the set. The cell's support, and those of the cells that it names, give a list of arcs whose
-- starts are all reached from the root, and growth makes a subtree of this list.
-- Assumes nothing.
use Prim.Native.Nat.{ℕ, zero, suc, ◌+◌, ◌^◌, ◌≤◌, ◌<◌}
use Rattle.std.specs.Prelude.{◌≡◌, ◌≢◌, List, [], ◌∷◌, ◌++◌, T, ltb}
use Rattle.std.proofs.Common.{sym, ⊎_elim, arith, eqb→eq, ltb→lt, nltb→le}
use Rattle.std.proofs.Math.Path.{ap, subst}
use Rattle.std.specs.Int.Bits.{bit_and}
use Rattle.lists.specs.Tests.{by_fact, or_cases}
use Rattle.lists.specs.Listed.{listed, listed_head, listed_tail, listed_cases, listed_left, listed_right, listed_append}
use Rattle.lists.specs.Sums.{sum_append}
use Rattle.subset.specs.Sets.{has, single}
use Rattle.subset.specs.laws.Terminals.{has_single, has_sum}
use Rattle.graph.specs.Graph.{Graph, Sound, Landing}
use Rattle.graph.specs.Paths.{DirectedPath}
use Rattle.graph.specs.Subtrees.{Subtree, held, Covers, total}
use Rattle.graph.specs.Growth.{kept}
use Rattle.graph.specs.ClosedSupported.{Support, by_landing, by_arc, by_split, Supported}
use Rattle.graph.proofs.laws.Reaching.{path_same, path_more, path_before}
use Rattle.graph.proofs.laws.Holding.{covers_more, held_reached}
use Rattle.graph.proofs.laws.SubtreeParts.{cost, total_by_arc}
use Rattle.graph.proofs.laws.Growing.{kept_subtree, kept_total, reached_kept}

-- ---- cells and charges

module _ (G : Graph) (c : ℕ → ℕ → ℕ) (top : ℕ) (S : Supported G c top) (room : (v : ℕ) → v < G.nodes → G.charge v ≤ top) where
  -- a cell of a set that is not empty is no less than the charge of its node: by induction on the set
  charge_below : (b v w : ℕ) → w < b → v < G.nodes → w ≢ 0 → w < 2 ^ G.terminals → G.charge v ≤ c v w
  charge_below zero v w l on ne small = absurd (omega arith)
  charge_below (suc b) v w l on ne small = by_fact (ltb (c v w) top) (λ _. G.charge v ≤ c v w)
      (λ t. go (S v w on ne small (ltb→lt (c v w) top t)) (λ y h n k. charge_below b v y h on n k)) (λ t. omega (arith, nltb→le (c v w) top t, room v on))
    where
      go : Support G c top v w (c v w) → ((y : ℕ) → y < b → y ≢ 0 → y < 2 ^ G.terminals → G.charge v ≤ c v y) → G.charge v ≤ c v w
      go (by_landing i li q t h) below = h
      go (by_arc e le q f h) below = omega arith
      go (by_split y z ny nz d q fy fz h) below = omega (arith, below y (omega arith) ny (omega arith), below z (omega arith) nz (omega arith))

  pub charge_le_cell : (v w : ℕ) → v < G.nodes → w ≢ 0 → w < 2 ^ G.terminals → G.charge v ≤ c v w
  charge_le_cell v w = charge_below (suc w) v w (omega arith)

-- ---- connected arcs

-- arcs whose starts are all reached from v, which hold a landing of each terminal of w and cost at most x
pub record Connected (G : Graph) (v w x : ℕ) (L : List ℕ) : Type 0 where
  pub on_graph : (e : ℕ) → T (listed e L) → e < G.arcs
  pub reached : (e : ℕ) → T (listed e L) → DirectedPath G L v (G.start e)
  pub covers : Covers G v L w
  pub cheap : total G v L ≤ x

-- no arc, where a terminal has a landing at v
pub connected_landing : (G : Graph) (v i x : ℕ) → i < G.terminals → Landing G i v → G.charge v ≤ x → Connected G v (single i) x []
connected_landing G v i x l t h = record {
  on_graph = λ e t. absurd t;
  reached = λ e t. absurd t;
  covers = λ j lj tj. (v, listed_head v [], subst (λ (a : ℕ). Landing G a v) (eqb→eq i j (subst T (has_single i j) tj)) t);
  cheap = omega arith;
}

-- an arc, and arcs that are connected from its end
pub connected_arc : (G : Graph) (e w a x : ℕ) (L : List ℕ) → e < G.arcs → Connected G (G.end e) w a L
    → G.weight e + G.charge (G.start e) + a ≤ x → Connected G (G.start e) w x (e ∷ L)
connected_arc G e w a x L l j h = record {
  on_graph = λ d t. ⊎_elim (λ (q : d ≡ e). subst (λ (a : ℕ). a < G.arcs) (sym q) l) (λ (i : T (listed d L)). j.on_graph d i) (listed_cases d e L t);
  reached = λ d t. ⊎_elim (λ (q : d ≡ e). path_same G (e ∷ L) (ap G.start (sym q)))
      (λ (i : T (listed d L)). path_before G e L (j.reached d i)) (listed_cases d e L t);
  covers = λ i li t. let k = j.covers i li t in (k.0, listed_tail k.0 (G.start e) (held G (G.end e) L) k.1, k.2);
  cheap = omega (arith, j.cheap, total_by_arc G (G.start e) (e ∷ L), total_by_arc G (G.end e) L);
}

-- two lists of arcs that are connected from v, for two sets with no terminal in common
pub connected_split : (G : Graph) (v y z a b x : ℕ) (A B : List ℕ) → bit_and y z ≡ 0 → Connected G v y a A → Connected G v z b B
    → a + b ≤ x + G.charge v → Connected G v (y + z) x (A ++ B)
connected_split G v y z a b x A B d p q h = record {
  on_graph = λ e t. ⊎_elim (p.on_graph e) (q.on_graph e) (listed_append e A B t);
  reached = λ e t. ⊎_elim (λ (i : T (listed e A)). path_more G A (A ++ B) (λ x. listed_left x A B) (p.reached e i))
      (λ (i : T (listed e B)). path_more G B (A ++ B) (λ x. listed_right x A B) (q.reached e i)) (listed_append e A B t);
  covers = λ i li t. ⊎_elim (λ (s : T (has y i)). covers_more G v A (A ++ B) y (λ x. listed_left x A B) p.covers i li s)
      (λ (s : T (has z i)). covers_more G v B (A ++ B) z (λ x. listed_right x A B) q.covers i li s)
      (or_cases (has y i) (has z i) (subst T (has_sum y z i d) t));
  cheap = omega (arith, p.cheap, q.cheap, sum_append (cost G) A B, total_by_arc G v A, total_by_arc G v B, total_by_arc G v (A ++ B));
}

-- growth makes a subtree of them
pub connected_subtree : (G : Graph) (v w x : ℕ) (L : List ℕ) → v < G.nodes → Connected G v w x L
    → Subtree G v (kept G v L) × Covers G v (kept G v L) w × (total G v (kept G v L) ≤ x)
connected_subtree G v w x L on j = (
  kept_subtree G v L on j.on_graph,
  (λ i li t. let k = j.covers i li t in (k.0, reached_kept G v L (held_reached G v L j.reached k.0 k.1), k.2)),
  omega (arith, kept_total G v L, j.cheap),
)

-- ---- finite cells

module _ (G : Graph) (sound : Sound G) (c : ℕ → ℕ → ℕ) (top : ℕ) (S : Supported G c top) where
  -- connected arcs cost no more than the cell of v and w
  Attained : ℕ → ℕ → Type 0
  Attained v w = (L : List ℕ) × Connected G v w (c v w) L

  -- and so at each finite cell of w
  Attains : ℕ → Type 0
  Attains w = (v : ℕ) → v < G.nodes → w ≢ 0 → w < 2 ^ G.terminals → c v w < top → Attained v w

  -- for one set, by induction on the cell, where it is so for smaller sets
  attain_set : (w : ℕ) → ((y : ℕ) → y < w → Attains y) → (b v : ℕ) → c v w < b → v < G.nodes → w ≢ 0 → w < 2 ^ G.terminals → c v w < top → Attained v w
  unfolding Attains Attained
  attain_set w smaller zero v lt on ne small finite = absurd (omega arith)
  attain_set w smaller (suc b) v lt on ne small finite =
      go (S v w on ne small finite) (λ u less on_graph finite_end. attain_set w smaller b u less on_graph ne small finite_end)
    where
      go : Support G c top v w (c v w) → ((u : ℕ) → c u w < b → u < G.nodes → c u w < top → Attained u w) → Attained v w
      go (by_landing i li q t h) below = ([], subst (λ (a : ℕ). Connected G v a (c v w) []) (sym q) (connected_landing G v i (c v w) li t h))
      go (by_arc e l q f h) below =
          let (L, from_end) = below (G.end e) (omega (arith, sound.weight_pos e l)) (sound.end_lt e l) f in
          let from_start = connected_arc G e w (c (G.end e) w) (c v w) L l from_end (omega (arith, ap G.charge q)) in
          (e ∷ L, subst (λ (a : ℕ). Connected G a w (c v w) (e ∷ L)) q from_start)
      go (by_split y z ny nz d q fy fz h) below =
          let (A, for_y) = smaller y (omega arith) v on ny (omega arith) fy in
          let (B, for_z) = smaller z (omega arith) v on nz (omega arith) fz in
          let both = connected_split G v y z (c v y) (c v z) (c v w) A B d for_y for_z h in
          (A ++ B, subst (λ (a : ℕ). Connected G v a (c v w) (A ++ B)) q both)

  -- for all sets, by induction on the set
  attain_below : (b w : ℕ) → w < b → Attains w
  unfolding Attains
  attain_below zero w l = absurd (omega arith)
  attain_below (suc b) w l = λ v on ne small finite.
      attain_set w (λ y h. attain_below b y (omega arith)) (suc (c v w)) v (omega arith) on ne small finite

  pub attain_connected : (v w : ℕ) → v < G.nodes → w ≢ 0 → w < 2 ^ G.terminals → c v w < top → (L : List ℕ) × Connected G v w (c v w) L
  unfolding Attains Attained
  attain_connected v w on ne small finite = attain_below (suc w) w (omega arith) v on ne small finite

  -- a subtree with root v that holds a landing of each terminal of w, at no more than the cell
  pub attain : (v w : ℕ) → v < G.nodes → w ≢ 0 → w < 2 ^ G.terminals → c v w < top
      → (L : List ℕ) × Subtree G v L × Covers G v L w × (total G v L ≤ c v w)
  attain v w on ne small finite =
      let (L, connected) = attain_connected v w on ne small finite in
      let (subtree, covers, cheap) = connected_subtree G v w (c v w) L on connected in
      (kept G v L, subtree, covers, cheap)
