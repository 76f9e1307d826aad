-- What the computed least total says: it is the total of some directed subtree, and none has less; or there is no such subtree. A table is
-- the cost table exactly where its cells are such totals. How large a least total can be.
-- Assumes nothing.
use Rattle.std.specs.Prelude.{ℕ, ◌+◌, ◌-◌, ◌*◌, ◌^◌, ◌≤◌, ◌<◌, ◌≡◌, refl, ◌≢◌, ◌⊎◌, Bool, ◌&&◌, cond, T}
use Rattle.std.proofs.Common.{sym, ap, ◌∙◌, subst, inl, inr, arith, pow_pos}
use Rattle.std.proofs.Math.Option.{Option, none, some, get_or}
use mathlib.Core.List.{List, [], map, Memᴰ}
use Rattle.std.proofs.Math.Decide.{ℕ_discrete}
use Rattle.lists.specs.Tests.{by_eq, and_left, and_right, and_both}
use Rattle.lists.specs.Listed.{listed}
use Rattle.lists.specs.Least.{IsLeast, least_is_least}
use Rattle.lists.specs.Rising.{rising, rising_same}
use Rattle.lists.specs.Members.{member_select, select_member, value_listed, listed_member, select_sublist}
use Rattle.lists.specs.Sublists.{sublists}
use Rattle.lists.specs.Sums.{Same, same_listed}
use Rattle.subset.specs.laws.Terminals.{has_empty}
use Rattle.graph.specs.Graph.{Graph, Sound, all_arcs}
use Rattle.graph.specs.Subtrees.{Subtree, Covers, total, is_subtree, is_covering}
use Rattle.graph.specs.LeastTotals.{subtrees_for, least_total, least_cell, NoSubtree, Least, IsLeastTotal, IsCostTable, Room}
use Rattle.graph.proofs.laws.Holding.{covers_more}
use Rattle.graph.proofs.laws.SubtreeParts.{arc_of, same_subtree, same_total, root_subtree, total_by_arc}
use Rattle.graph.proofs.laws.SubtreeSize.{subtree_total}
use Rattle.graph.proofs.laws.SubtreeTest.{test_subtree, subtree_passes, test_covers, covers_passes}
use Rattle.graph.proofs.laws.UniquePaths.{subtree_distinct}

module _ (G : Graph) (v w : ℕ) where
  -- the test by which the subtrees are selected
  abbrev test : List ℕ → Bool
  test L = is_subtree G v L && is_covering G v L w

  -- each list that is selected is a subtree that holds a landing of each terminal of w
  found_subtree : (L : List ℕ) → Memᴰ L (subtrees_for G v w) → Subtree G v L × Covers G v L w
  found_subtree L m =
      let t : T (test L) = (select_member test (sublists (all_arcs G)) m).1 in
      (test_subtree G v L (and_left (is_subtree G v L) (is_covering G v L w) t), test_covers G v L w (and_right (is_subtree G v L) (is_covering G v L w) t))

  -- and the total of each such subtree is among those of the selected ones: its arcs in rising order are one of them
  subtree_found : (L : List ℕ) → Subtree G v L → Covers G v L w → T (listed (total G v L) (map (total G v) (subtrees_for G v w)))
  subtree_found L t cov =
      let K : List ℕ = rising G.arcs L in
      let same : Same L K = rising_same G.arcs L (arc_of t) (subtree_distinct G v L t) in
      let subtree : T (is_subtree G v K) = subtree_passes G v K (same_subtree G v L K same t) in
      let covering : T (is_covering G v K w) = covers_passes G v K w (covers_more G v L K w (same_listed L K same) cov) in
      let passes : T (test K) = and_both (is_subtree G v K) (is_covering G v K w) subtree covering in
      subst (λ (x : ℕ). T (listed x (map (total G v) (subtrees_for G v w)))) (sym (same_total G v L K same))
      (value_listed (total G v) (subtrees_for G v w) (member_select test (sublists (all_arcs G)) (select_sublist (λ e. listed e L) (all_arcs G)) passes))

  -- the computed least total is the least
  pub least_total_lem : IsLeastTotal G v w (least_total G v w)
  least_total_lem = go (least_total G v w) (least_is_least (map (total G v) (subtrees_for G v w)))
    where
      go : (o : Option ℕ) → IsLeast (map (total G v) (subtrees_for G v w)) o → IsLeastTotal G v w o
      go none e = λ L t cov. absurd (subst (λ (l : List ℕ). T (listed (total G v L) l)) e (subtree_found L t cov))
      go (some x) s =
          let (L, m, q) = listed_member (total G v) (subtrees_for G v w) x s.0 in
          let (t, cov) = found_subtree L m in
          record { tree = L; subtree = t; covers = cov; attained = q; least = λ M u k. s.1 (total G v M) (subtree_found M u k) }

-- there is one least total
pub least_unique : (G : Graph) (v w : ℕ) (a b : Option ℕ) → IsLeastTotal G v w a → IsLeastTotal G v w b → a ≡ b
least_unique G v w none none p q = refl
least_unique G v w none (some y) p q = absurd (p q.tree q.subtree q.covers)
least_unique G v w (some x) none p q = absurd (q p.tree p.subtree p.covers)
least_unique G v w (some x) (some y) p q = ap some (omega (
  arith,
  p.attained,
  q.attained,
  p.least q.tree q.subtree q.covers,
  q.least p.tree p.subtree p.covers,
))

-- ---- cells

-- x is the least total of v and w, or `top` where there is none
abbrev pub Right : Graph → ℕ → ℕ → ℕ → ℕ → Type 0
Right G top v w x = Least G v w x ⊎ ((x ≡ top) × NoSubtree G v w)

-- the computed least total is right, and a right number is the computed one
pub total_right : (G : Graph) (top v w : ℕ) → Right G top v w (get_or (least_total G v w) top)
total_right G top v w = go (least_total G v w) (least_total_lem G v w)
  where
    go : (o : Option ℕ) → IsLeastTotal G v w o → Right G top v w (get_or o top)
    go none p = inr (refl, p)
    go (some x) p = inl p

pub right_total : (G : Graph) (top v w x : ℕ) → Right G top v w x → x ≡ get_or (least_total G v w) top
right_total G top v w x (inl p) = ap (λ (o : Option ℕ). get_or o top) (least_unique G v w (some x) (least_total G v w) p (least_total_lem G v w))
right_total G top v w x (inr p) = p.0 ∙ ap (λ (o : Option ℕ). get_or o top) (least_unique G v w none (least_total G v w) p.1 (least_total_lem G v w))

-- the cell of a set that is not empty
pub cell_total : (G : Graph) (top v w : ℕ) → w ≢ 0 → least_cell G top v w ≡ get_or (least_total G v w) top
cell_total G top v w ne = by_eq w 0 (λ b. cond b 0 (get_or (least_total G v w) top) ≡ get_or (least_total G v w) top) (λ e. absurd (ne e)) (λ _. refl)

-- a table is the cost table exactly where the cells of the empty set are 0 and the others are right
pub table_right : (G : Graph) (top : ℕ) (c : ℕ → ℕ → ℕ) → IsCostTable G c top
    → (v w : ℕ) → v < G.nodes → w ≢ 0 → w < 2 ^ G.terminals → Right G top v w (c v w)
table_right G top c table v w on ne small = subst (Right G top v w) (sym (table v w on small ∙ cell_total G top v w ne)) (total_right G top v w)

pub table_empty : (G : Graph) (top : ℕ) (c : ℕ → ℕ → ℕ) → IsCostTable G c top → (v : ℕ) → v < G.nodes → c v 0 ≡ 0
table_empty G top c table v on = table v 0 on (pow_pos G.terminals)

-- where no node is charged, the root alone is a least subtree for the empty set
pub empty_least : (G : Graph) (v : ℕ) → v < G.nodes → G.charge v ≡ 0 → Least G v 0 0
empty_least G v on free = record {
  tree = [];
  subtree = root_subtree G v on;
  covers = λ i _ t. absurd (subst T (has_empty i) t);
  attained = omega (arith, free);
  least = λ L _ _. omega arith;
}

-- so that there every cell of the cost table is right
pub uncharged_right : (G : Graph) (top : ℕ) (c : ℕ → ℕ → ℕ) → IsCostTable G c top → ((v : ℕ) → G.charge v ≡ 0)
    → (v w : ℕ) → v < G.nodes → w < 2 ^ G.terminals → Right G top v w (c v w)
uncharged_right G top c table free v w on small = by_empty (ℕ_discrete w 0)
  where
    by_empty : Dec (w ≡ 0) → Right G top v w (c v w)
    by_empty (yes e) =
        subst (λ (x : ℕ). Right G top v x (c v x)) (sym e)
        (subst (Right G top v 0) (sym (table_empty G top c table v on)) (inl (empty_least G v on (free v))))
    by_empty (no ne) = table_right G top c table v w on ne small

pub right_table : (G : Graph) (top : ℕ) (c : ℕ → ℕ → ℕ) → ((v : ℕ) → v < G.nodes → c v 0 ≡ 0)
    → ((v w : ℕ) → v < G.nodes → w ≢ 0 → w < 2 ^ G.terminals → Right G top v w (c v w)) → IsCostTable G c top
right_table G top c empty right v w on small = by_eq w 0 (λ b. c v w ≡ cond b 0 (get_or (least_total G v w) top))
    (λ e. ap (c v) e ∙ empty v on) (λ ne. right_total G top v w (c v w) (right v w on ne small))

-- ---- limits

-- the limit of a least total, where no arc weighs more than p, and no node is charged more than q
pub least_bound : (G : Graph) → Sound G → (p q : ℕ) → ((e : ℕ) → e < G.arcs → G.weight e ≤ p) → ((v : ℕ) → v < G.nodes → G.charge v ≤ q)
    → (v w x : ℕ) → Least G v w x → x ≤ p * (G.nodes - 1) + q * G.nodes
least_bound G sound p q heavy dear v w x l = omega (arith, l.attained, subtree_total G sound p q heavy dear v l.tree l.subtree)

-- so `top` is above every subtree's total where it is above that limit
pub room_above : (G : Graph) → Sound G → (p q top : ℕ) → ((e : ℕ) → e < G.arcs → G.weight e ≤ p) → ((v : ℕ) → v < G.nodes → G.charge v ≤ q)
    → p * (G.nodes - 1) + q * G.nodes < top → Room G top
room_above G sound p q top heavy dear lt r L t = omega (arith, subtree_total G sound p q heavy dear r L t)

-- where it is above every subtree's total, it is above every charge
pub room_charge : (G : Graph) (top : ℕ) → Room G top → (v : ℕ) → v < G.nodes → G.charge v < top
room_charge G top room v on = omega (arith, room v [] (root_subtree G v on), total_by_arc G v [])
