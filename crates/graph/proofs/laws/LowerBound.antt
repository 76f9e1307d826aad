-- The lower bound: no directed subtree that holds a landing of each terminal of a set costs less than the cell of its root and the set in a
-- closed table. Each terminal is assigned to a held landing, and the arcs, in a grown order, are contracted one by one, the last first: the
-- terminals of an arc's end are assigned to its start. At last all are assigned to the root.
-- Assumes nothing.
use Rattle.std.specs.Prelude.{ℕ, ◌+◌, ◌^◌, ◌≤◌, ◌<◌, ◌≡◌, refl, ◌≢◌, Bool, true, false, not, ◌&&◌, ◌||◌, cond, List, [], ◌∷◌, T, eqb}
use Rattle.std.proofs.Common.{sym, ap, ◌∙◌, subst, ⊎_elim, arith, le_of_eq, eqb→eq}
use Rattle.std.proofs.Math.Bool.{or-true, or-false, and-or_distrib_left}
use Rattle.std.proofs.Math.Decide.{dec_lt}
use Rattle.std.proofs.Math.Dec.{eqb_refl}
use Rattle.lists.specs.Tests.{by_eq, eq_fact, ne_fact, fact_true, not_fact_false, true_fact, same_tests, not_both, and_left, and_right, and_both, and_not}
use Rattle.lists.specs.Listed.{listed, listed_head, listed_tail, listed_cases, listed_only, Distinct, unlisted_differ}
use Rattle.lists.specs.Sums.{sum_by, sum_le, sum_raise, Same, same_listed}
use Rattle.subset.specs.Sets.{has}
use Rattle.subset.specs.SetOf.{set_of_lt, set_of_same, set_of_has}
use Rattle.graph.specs.Graph.{Graph, Sound, Landing}
use Rattle.graph.specs.Subtrees.{Subtree, held, Covers, total}
use Rattle.graph.specs.Growth.{kept}
use Rattle.graph.specs.ClosedSupported.{Closed}
use Rattle.graph.proofs.laws.Holding.{held_after, held_after_lem, covers_more}
use Rattle.graph.proofs.laws.SubtreeParts.{cost, total_by_arc, arc_of}
use Rattle.graph.proofs.laws.GrownLists.{Grown}
use Rattle.graph.proofs.laws.Growing.{growth, kept_listed, subtree_kept, kept_same}
use Rattle.graph.proofs.laws.Charged.{charged, passing, charged_arc, charged_union, landed_all}

-- ---- contracting arcs: the end of each becomes its start

-- the node y after node t became node u
abbrev merge : ℕ → ℕ → ℕ → ℕ
merge u t y = cond (eqb y t) u y

-- the node that x is after all arcs of a list were contracted, the last first
abbrev merged : Graph → List ℕ → ℕ → ℕ
merged G [] x = x
merged G (e ∷ L) x = merge (G.start e) (G.end e) (merged G L x)

-- y is then u exactly where it was u or t
merge_at : (u t y : ℕ) → eqb (merge u t y) u ≡ (eqb y u || eqb y t)
merge_at u t y = by_eq y t (λ b. eqb (cond b u y) u ≡ (eqb y u || b)) (λ _. fact_true (eqb_refl u) ∙ sym (or-true (eqb y u))) (λ _. sym (or-false (eqb y u)))

-- any other node is what it was
merge_other : (u t y h : ℕ) → h ≢ u → h ≢ t → eqb (merge u t y) h ≡ eqb y h
merge_other u t y h p q = by_eq y t (λ b. eqb (cond b u y) h ≡ eqb y h)
    (λ e. differ (λ r. p (sym r)) ∙ sym (differ (λ r. q (sym r ∙ e)))) (λ _. refl)
  where
    differ : {a b : ℕ} → a ≢ b → eqb a b ≡ false
    differ n = not_fact_false (ne_fact n)

-- after all arcs of a grown list were contracted, a node that it holds is one that was held before it
merged_held : (G : Graph) (H L : List ℕ) (x : ℕ) → Grown G H L → T (listed x (held_after G H L)) → T (listed (merged G L x) H)
merged_held G H [] x g t = t
merged_held G H (e ∷ L) x g t = by_eq (merged G L x) (G.end e) (λ b. T (listed (cond b (G.start e) (merged G L x)) H)) (λ _. g.0)
    (λ n. ⊎_elim (λ q. absurd (n q)) (λ i. i) (listed_cases (merged G L x) (G.end e) H (merged_held G (G.end e ∷ H) L x g.2 t)))

-- ---- terminals assigned to nodes

-- the terminals of w that are assigned to h, where terminal i is assigned to s i
abbrev assigned : Graph → ℕ → (ℕ → ℕ) → ℕ → ℕ
assigned G w s h = passing G (λ i. has w i && eqb (s i) h)

module _ (G : Graph) (sound : Sound G) (c : ℕ → ℕ → ℕ) (C : Closed G c) (w : ℕ) where
  -- the cell of h and the terminals assigned to it
  abbrev cell_at : (ℕ → ℕ) → ℕ → ℕ
  cell_at s h = charged G c h (assigned G w s h)

  -- the assignment s after arc e was contracted: the terminals of its end are assigned to its start
  abbrev contract : ℕ → (ℕ → ℕ) → ℕ → ℕ
  contract e s i = merge (G.start e) (G.end e) (s i)

  -- the cell of the start rises by no more than the arc's weight and the cell of the end
  contract_start : (e : ℕ) (s : ℕ → ℕ) → e < G.arcs → G.start e ≢ G.end e
      → cell_at (contract e s) (G.start e) ≤ cell_at s (G.start e) + (G.weight e + cell_at s (G.end e))
  contract_start e s l n =
      let u : ℕ = G.start e in
      let t : ℕ = G.end e in
      let at_start : ℕ → Bool = λ i. has w i && eqb (s i) u in
      let at_end : ℕ → Bool = λ i. has w i && eqb (s i) t in
      let apart : (i : ℕ) → i < G.terminals → T (at_start i) → T (not (at_end i)) =
      λ i _ h. and_not (has w i) (eqb (s i) t) (ne_fact (λ q. n (sym (eqb→eq (s i) u (and_right (has w i) (eqb (s i) u) h)) ∙ q))) in
      let same : assigned G w (contract e s) u ≡ passing G (λ i. at_start i || at_end i) =
      set_of_same G.terminals (λ i. has w i && eqb (merge u t (s i)) u) (λ i. at_start i || at_end i)
      (λ i _. ap (λ (b : Bool). has w i && b) (merge_at u t (s i)) ∙ and-or_distrib_left (has w i) (eqb (s i) u) (eqb (s i) t)) in
      omega (
        arith,
        ap (charged G c u) same,
        charged_union G c C u at_start at_end (sound.start_lt e l) apart,
        charged_arc G c C e (passing G at_end) l (set_of_lt G.terminals at_end),
      )

  -- the terminals of other nodes stay
  contract_other : (e h : ℕ) (s : ℕ → ℕ) → h ≢ G.start e → h ≢ G.end e → assigned G w (contract e s) h ≡ assigned G w s h
  contract_other e h s p q =
      set_of_same G.terminals (λ i. has w i && eqb (contract e s i) h) (λ i. has w i && eqb (s i) h)
      (λ i _. ap (λ (b : Bool). has w i && b) (merge_other (G.start e) (G.end e) (s i) h p q))

  -- Where no node's terminals cost more than its charge, and all arcs of a grown list are contracted: the cells of the nodes that were held
  -- before the list come to no more than the charges of these nodes and what the arcs cost.
  contract_all : (L H : List ℕ) (s : ℕ → ℕ) → Grown G H L → Distinct H
      → ((h : ℕ) → T (listed h H) → h < G.nodes) → ((e : ℕ) → T (listed e L) → e < G.arcs)
      → ((h : ℕ) → h < G.nodes → cell_at s h ≤ G.charge h)
      → sum_by (cell_at (λ i. merged G L (s i))) H ≤ sum_by G.charge H + sum_by (cost G) L
  contract_all [] H s g d on arcs base = omega (arith, sum_le (cell_at s) G.charge H (λ h t. base h (on h t)))
  contract_all (e ∷ L) H s g d on arcs base =
      let u : ℕ = G.start e in
      let t : ℕ = G.end e in
      let later : ℕ → ℕ = λ i. merged G L (s i) in
      let l : e < G.arcs = arcs e (listed_head e L) in
      let not_end : (h : ℕ) → T (listed h H) → h ≢ t = λ h i q. not_both (listed t H) (subst (λ (x : ℕ). T (listed x H)) q i) g.1 in
      let on_graph : (h : ℕ) → T (listed h (t ∷ H)) → h < G.nodes =
      λ h i. ⊎_elim (λ q. subst (λ (x : ℕ). x < G.nodes) (sym q) (sound.end_lt e l)) (λ j. on h j) (listed_cases h t H i) in
      let below : cell_at later t + sum_by (cell_at later) H ≤ (G.charge t + sum_by G.charge H) + sum_by (cost G) L =
      contract_all L (t ∷ H) s g.2 (unlisted_differ t H g.1, d) on_graph (λ d i. arcs d (listed_tail d e L i)) base in
      let raised : sum_by (cell_at (contract e later)) H ≤ sum_by (cell_at later) H + (G.weight e + cell_at later t) =
      sum_raise (cell_at later) (cell_at (contract e later)) u (G.weight e + cell_at later t) H d
      (λ h i n. le_of_eq (ap (charged G c h) (contract_other e h later n (not_end h i)))) (contract_start e later l (not_end u g.0)) in
      omega arith

-- ---- the lower bound

-- a held landing for each terminal of w; any node for the others
held_landing : (G : Graph) (r : ℕ) (L : List ℕ) (w : ℕ) → Covers G r L w
    → (i : ℕ) → (v : ℕ) × (i < G.terminals → T (has w i) → T (listed v (held G r L)) × Landing G i v)
held_landing G r L w cov i = go (dec_lt i G.terminals) (has w i) refl
  where
    go : Dec (i < G.terminals) → (b : Bool) → has w i ≡ b
        → (v : ℕ) × (i < G.terminals → T (has w i) → T (listed v (held G r L)) × Landing G i v)
    go (yes l) true e = let k = cov i l (true_fact e) in (k.0, λ _ _. (k.1, k.2))
    go (yes l) false e = (0, λ _ t. absurd (subst T e t))
    go (no n) b e = (0, λ l _. absurd (n l))

module _ (G : Graph) (sound : Sound G) (c : ℕ → ℕ → ℕ) (C : Closed G c) where
  -- of a grown list: each terminal is assigned to a held landing, and all arcs are contracted
  grown_lower : (r : ℕ) (L : List ℕ) (w : ℕ) → r < G.nodes → w < 2 ^ G.terminals → Grown G (r ∷ []) L → ((e : ℕ) → T (listed e L) → e < G.arcs)
      → Covers G r L w → c r w ≤ total G r L
  grown_lower r L w on small g arcs cov =
      let s : ℕ → ℕ = λ i. (held_landing G r L w cov i).0 in
      let last : ℕ → ℕ = λ i. merged G L (s i) in
      let held_at : (i : ℕ) → i < G.terminals → T (has w i) → T (listed (s i) (held G r L)) = λ i li t. ((held_landing G r L w cov i).1 li t).0 in
      let landing_at : (i : ℕ) → i < G.terminals → T (has w i) → Landing G i (s i) = λ i li t. ((held_landing G r L w cov i).1 li t).1 in
      let base : (h : ℕ) → h < G.nodes → charged G c h (assigned G w s h) ≤ G.charge h =
      λ h l. landed_all G c C h l (λ i. has w i && eqb (s i) h)
      (λ i li t. subst (λ (x : ℕ). Landing G i x) (eqb→eq (s i) h (and_right (has w i) (eqb (s i) h) t))
      (landing_at i li (and_left (has w i) (eqb (s i) h) t))) in
      let sum = contract_all G sound c C w L (r ∷ []) s g (tt, tt) (λ h t. subst (λ (x : ℕ). x < G.nodes) (sym (listed_only h r t)) on) arcs base in
      let at_root : (i : ℕ) → i < G.terminals → T (has w i) → T (eqb (last i) r) =
      λ i li t. eq_fact (listed_only (last i) r (merged_held G (r ∷ []) L (s i) g (held_after_lem G r L (s i) (held_at i li t)))) in
      let same : assigned G w last r ≡ w =
      set_of_same G.terminals (λ i. has w i && eqb (last i) r) (has w)
      (λ i li. same_tests (has w i && eqb (last i) r) (has w i) (and_left (has w i) (eqb (last i) r))
      (λ t. and_both (has w i) (eqb (last i) r) t (at_root i li t)))
      ∙ set_of_has G.terminals w small in
      let cell : c r w ≤ charged G c r w =
      by_eq w 0 (λ b. c r w ≤ cond b (G.charge r) (c r w)) (λ e. omega (arith, ap (c r) e, C.nothing r on)) (λ _. omega arith) in
      omega (arith, ap (charged G c r) same, total_by_arc G r L)

-- of any subtree: growth keeps all of its arcs, in a grown order
pub subtree_lower : (G : Graph) → Sound G → (c : ℕ → ℕ → ℕ) → Closed G c → (r : ℕ) (L : List ℕ) (w : ℕ) → w < 2 ^ G.terminals
    → Subtree G r L → Covers G r L w → c r w ≤ total G r L
subtree_lower G sound c C r L w small t cov =
    let K : List ℕ = kept G r L in
    let same : Same L K = kept_same G r L (subtree_kept G r L t) in
    let arcs : (e : ℕ) → T (listed e K) → e < G.arcs = λ e i. arc_of t e (kept_listed G r L e i) in
    let covers : Covers G r K w = covers_more G r L K w (same_listed L K same) cov in
    omega (
      arith,
      same (cost G),
      total_by_arc G r L,
      total_by_arc G r K,
      grown_lower G sound c C r K w t.root small (growth G r L).grown arcs covers,
    )
