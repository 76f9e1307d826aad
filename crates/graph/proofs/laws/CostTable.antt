-- Of the tables without a cell above `top`, the cost table is the one that is closed and supported. That a closed and supported table has
-- the least totals is the lower and the upper bound together. That the cost table is supported: were some finite cell below all that a
-- landing, an arc or a split gives, the table with that cell raised by 1 would be closed too, and by the lower bound no subtree would have
-- the least total.
-- Assumes nothing.
use Rattle.std.specs.Prelude.{ℕ, suc, ◌+◌, ◌-◌, ◌^◌, ◌≤◌, ◌<◌, ◌≡◌, refl, ◌≢◌, Bool, true, false, List, [], ◌∷◌, ◌++◌, ltb}
use Rattle.std.proofs.Common.{sym, ap, ap₂, inl, inr, ⊎_elim, arith, le_antisymm, ltb→lt, nltb→le}
use Rattle.std.proofs.Math.Pow.{pow-lt}
use Rattle.lists.specs.Tests.{by_fact, by_eq, true_fact, false_not_fact}
use Rattle.subset.specs.Sets.{single}
use Rattle.subset.specs.laws.Parts.{single_ne}
use Rattle.graph.specs.Graph.{Graph, Sound}
use Rattle.graph.specs.Subtrees.{Subtree, Covers, total}
use Rattle.graph.specs.LeastTotals.{Least, NoSubtree, IsCostTable, Room}
use Rattle.graph.specs.Growth.{kept}
use Rattle.graph.specs.ClosedSupported.{Closed, Supported, Capped, put}
use Rattle.graph.proofs.laws.SubtreeParts.{arc_of, start_reached, total_by_arc}
use Rattle.graph.proofs.laws.ClosedTables.{closed_landing, closed_arc, closed_split, make_closed}
use Rattle.graph.proofs.laws.LowerBound.{subtree_lower}
use Rattle.graph.proofs.laws.UpperBound.{Connected, connected_landing, connected_arc, connected_split, connected_subtree, attain}
use Rattle.graph.proofs.laws.LeastMeaning.{Right, table_right, table_empty, right_table, room_charge}
use Rattle.graph.proofs.laws.Offers.{offer, offer_support, offer_landing, offer_arc, offer_split, offer_top}
use Rattle.graph.proofs.laws.Lowering.{put_at, by_put}

-- ---- a closed and supported table, no cell of which is above `top`, is the cost table

pub both_cost_table : (G : Graph) → Sound G → (c : ℕ → ℕ → ℕ) (top : ℕ) → Room G top → Capped G c top → Closed G c → Supported G c top
    → IsCostTable G c top
both_cost_table G sound c top room capped C S = right_table G top c C.nothing (λ v w on ne small. go v w on ne small (ltb (c v w) top) refl)
  where
    go : (v w : ℕ) → v < G.nodes → w ≢ 0 → w < 2 ^ G.terminals → (b : Bool) → ltb (c v w) top ≡ b → Right G top v w (c v w)
    go v w on ne small true q =
        let (L, t, cov, le) = attain G sound c top S v w on ne small (ltb→lt (c v w) top (true_fact q)) in
        inl (record {
          tree = L;
          subtree = t;
          covers = cov;
          attained = le_antisymm le (subtree_lower G sound c C v L w small t cov);
          least = λ M u k. subtree_lower G sound c C v M w small u k;
        })
    go v w on ne small false q =
        let e : c v w ≡ top = omega (arith, capped v w on small, nltb→le (c v w) top (false_not_fact q)) in
        inr (e, λ L t k. absurd (omega (arith, subtree_lower G sound c C v L w small t k, room v L t)))

-- ---- the cost table is closed

module _ (G : Graph) (sound : Sound G) (c : ℕ → ℕ → ℕ) (top : ℕ) (room : Room G top) (table : IsCostTable G c top) where
  -- a cell of a set that is not empty is at most what connected arcs cost
  cell_le : (v w x : ℕ) (L : List ℕ) → v < G.nodes → w ≢ 0 → w < 2 ^ G.terminals → Connected G v w x L → c v w ≤ x
  cell_le v w x L on ne small j = go (table_right G top c table v w on ne small) (connected_subtree G v w x L on j)
    where
      go : Right G top v w (c v w) → Subtree G v (kept G v L) × Covers G v (kept G v L) w × (total G v (kept G v L) ≤ x) → c v w ≤ x
      go (inl p) (t, k, h) = omega (arith, p.least (kept G v L) t k)
      go (inr p) (t, k, h) = absurd (p.1 (kept G v L) t k)

  -- and at most `top`
  cell_top : (v w : ℕ) → v < G.nodes → w ≢ 0 → w < 2 ^ G.terminals → c v w ≤ top
  cell_top v w on ne small = ⊎_elim (λ (p : Least G v w (c v w)). omega (arith, p.attained, room v p.tree p.subtree))
      (λ (p : (c v w ≡ top) × NoSubtree G v w). omega (arith, p.0)) (table_right G top c table v w on ne small)

  -- and at least the charge of its node
  charge_le_least : (v w : ℕ) → v < G.nodes → w ≢ 0 → w < 2 ^ G.terminals → G.charge v ≤ c v w
  charge_le_least v w on ne small = ⊎_elim (λ (p : Least G v w (c v w)). omega (arith, p.attained, total_by_arc G v p.tree))
      (λ (p : (c v w ≡ top) × NoSubtree G v w). omega (arith, p.0, room_charge G top room v on)) (table_right G top c table v w on ne small)

  -- some connected arcs cost no more than a finite cell
  cell_connected : (v w : ℕ) → v < G.nodes → w ≢ 0 → w < 2 ^ G.terminals → c v w < top → (L : List ℕ) × Connected G v w (c v w) L
  cell_connected v w on ne small fin = ⊎_elim
      (λ (p : Least G v w (c v w)). (
        p.tree,
        record {
          on_graph = arc_of p.subtree;
          reached = start_reached p.subtree;
          covers = p.covers;
          cheap = omega (arith, p.attained);
        },
      ))
      (λ (p : (c v w ≡ top) × NoSubtree G v w). absurd (omega (arith, p.0))) (table_right G top c table v w on ne small)

  pub cost_table_capped : Capped G c top
  cost_table_capped v w on small = by_eq w 0 (λ _. c v w ≤ top)
      (λ e. omega (arith, ap (c v) e, table_empty G top c table v on)) (λ ne. cell_top v w on ne small)

  pub cost_table_closed : Closed G c
  cost_table_closed = make_closed
      (table_empty G top c table)
      (λ v i on li t. cell_le v (single i) (G.charge v) [] on (single_ne i) (pow-lt li) (connected_landing G v i (G.charge v) li t (omega arith)))
      (λ e w le ne small.
      let u : ℕ = G.start e in
      let v : ℕ = G.end e in
      let given : ℕ = G.weight e + G.charge u + c v w in
      by_fact (ltb (c v w) top) (λ _. c u w ≤ given)
      (λ t.
      let (L, connected) = cell_connected v w (sound.end_lt e le) ne small (ltb→lt (c v w) top t) in
      cell_le u w given (e ∷ L) (sound.start_lt e le) ne small (connected_arc G e w (c v w) given L le connected (omega arith)))
      (λ t. omega (arith, cell_top u w (sound.start_lt e le) ne small, nltb→le (c v w) top t)))
      (λ v y z on ny nz d small.
      let given : ℕ = c v y + c v z - G.charge v in
      let floor_y = charge_le_least v y on ny (omega arith) in
      let floor_z = charge_le_least v z on nz (omega arith) in
      let capped = cell_top v (y + z) on (omega arith) small in
      by_fact (ltb (c v y) top) (λ _. c v (y + z) + G.charge v ≤ c v y + c v z)
      (λ t. by_fact (ltb (c v z) top) (λ _. c v (y + z) + G.charge v ≤ c v y + c v z)
      (λ s.
      let (A, for_y) = cell_connected v y on ny (omega arith) (ltb→lt (c v y) top t) in
      let (B, for_z) = cell_connected v z on nz (omega arith) (ltb→lt (c v z) top s) in
      let both = connected_split G v y z (c v y) (c v z) given A B d for_y for_z (omega arith) in
      omega (arith, cell_le v (y + z) given (A ++ B) on (omega arith) small both))
      (λ s. omega (arith, nltb→le (c v z) top s)))
      (λ t. omega (arith, nltb→le (c v y) top t)))

-- ---- a closed table with a cell below its offer raised by 1 is closed

-- where no cell of a set that is not empty is less than the charge of its node, and the cell of v and w is below its offer
module _ (G : Graph) (c : ℕ → ℕ → ℕ) (top v w : ℕ) (C : Closed G c)
    (charge_le_cell : (u y : ℕ) → u < G.nodes → y ≢ 0 → y < 2 ^ G.terminals → G.charge u ≤ c u y)
    (ne : w ≢ 0) (low : c v w < offer G c top v w) where
  -- the table with that cell raised
  abbrev raised : ℕ → ℕ → ℕ
  raised = put c v w (suc (c v w))

  raised_ge : (u y : ℕ) → c u y ≤ raised u y
  raised_ge u y = by_put c v w (suc (c v w)) u y (λ x. c u y ≤ x) (λ p q. omega (arith, ap₂ c p q)) (omega arith)

  raise_closed : Closed G raised
  raise_closed = make_closed
      (λ u on. by_put c v w (suc (c v w)) u 0 (λ x. x ≡ 0) (λ p q. absurd (ne (sym q))) (C.nothing u on))
      (λ u i on li t. by_put c v w (suc (c v w)) u (single i) (λ x. x ≤ G.charge u)
      (λ p q. omega (arith, ap₂ (offer G c top) p q, offer_landing G c top u i li t)) (closed_landing C u i on li t))
      (λ e y le ny small.
      let a : ℕ = G.start e in
      let b : ℕ = G.end e in
      by_put c v w (suc (c v w)) a y (λ x. x ≤ G.weight e + G.charge a + raised b y)
      (λ p q. by_fact (ltb (c b y) top) (λ _. suc (c v w) ≤ G.weight e + G.charge a + raised b y)
      (λ t. omega (arith, ap₂ (offer G c top) p q, offer_arc G c top e y le (ltb→lt (c b y) top t), raised_ge b y))
      (λ t. omega (arith, offer_top G c top v w, nltb→le (c b y) top t, raised_ge b y)))
      (omega (arith, closed_arc C e y le ny small, raised_ge b y)))
      (λ u y z on ny nz d small.
      let floor_y = charge_le_cell u y on ny (omega arith) in
      let floor_z = charge_le_cell u z on nz (omega arith) in
      let ge_y = raised_ge u y in
      let ge_z = raised_ge u z in
      by_put c v w (suc (c v w)) u (y + z) (λ x. x + G.charge u ≤ raised u y + raised u z)
      (λ p q.
      let here = ap₂ (offer G c top) p q in
      let capped = offer_top G c top v w in
      by_fact (ltb (c u y) top) (λ _. suc (c v w) + G.charge u ≤ raised u y + raised u z)
      (λ t. by_fact (ltb (c u z) top) (λ _. suc (c v w) + G.charge u ≤ raised u y + raised u z)
      (λ s. omega (arith, offer_split G c top u y z ny nz d (ltb→lt (c u y) top t) (ltb→lt (c u z) top s)))
      (λ s. omega (arith, nltb→le (c u z) top s)))
      (λ t. omega (arith, nltb→le (c u y) top t)))
      (omega (arith, closed_split C u y z on ny nz d small)))

-- ---- the cost table is supported

pub cost_table_supported : (G : Graph) → Sound G → (c : ℕ → ℕ → ℕ) (top : ℕ) → Room G top → IsCostTable G c top → Supported G c top
cost_table_supported G sound c top room table v w on ne small fin = offer_support G c top v w (c v w) over fin
  where
    over : offer G c top v w ≤ c v w
    over = by_fact (ltb (c v w) (offer G c top v w)) (λ _. offer G c top v w ≤ c v w)
        (λ t.
        let low = ltb→lt (c v w) (offer G c top v w) t in
        let more : ℕ → ℕ → ℕ = put c v w (suc (c v w)) in
        let closed : Closed G more = raise_closed G c top v w (cost_table_closed G sound c top room table) (charge_le_least G sound c top room table) ne low in
        absurd (⊎_elim
        (λ (p : Least G v w (c v w)).
        let lower : more v w ≤ total G v p.tree = subtree_lower G sound more closed v p.tree w small p.subtree p.covers in
        let contradiction : ⊥ = omega (arith, p.attained, put_at c v w (suc (c v w))) in contradiction)
        (λ (p : (c v w ≡ top) × NoSubtree G v w). let contradiction : ⊥ = omega (arith, p.0) in contradiction) (table_right G top c table v w on ne small)))
        (λ t. nltb→le (c v w) (offer G c top v w) t)
