-- Directed subtrees in document 004's words: "A directed subtree T of G has a node r, called the root, such that every other node of T is
-- reachable from r through a unique directed path." Of lists of different arcs of the graph, none of them a loop, document 01's definition
-- (`Subtree`) says the same: `subtree-one-path` and `one-path-subtree`.
-- Assumes nothing.
use Rattle.std.specs.Prelude.{ℕ, ◌<◌, ◌≡◌, refl, ◌≢◌, List, [], ◌∷◌, ◌++◌, T, length}
use Rattle.std.proofs.Common.{sym, ap, ap₂, ◌∙◌, subst, arith, length-append}
use Rattle.std.proofs.Math.Decide.{ℕ_discrete}
use Rattle.lists.specs.Every.{Every, every_append}
use Rattle.lists.specs.Last.{by_last, every_last, last_same}
use Rattle.lists.specs.Listed.{listed, every_listed, listed_every, Distinct}
use Rattle.lists.specs.DistinctValues.{one_entry, entries_distinct, values_distinct}
use Rattle.graph.specs.Graph.{Graph}
use Rattle.graph.specs.Paths.{Leads, DirectedPath, Touched, at_start, at_end, OnePath}
use Rattle.graph.specs.Subtrees.{Subtree, held}
use Rattle.graph.proofs.laws.Reaching.{leads_append, path_same}
use Rattle.graph.proofs.laws.Holding.{reached_held}
use Rattle.graph.proofs.laws.SubtreeParts.{start_reached}

-- ---- rows of listed arcs, and their last arcs

module _ (G : Graph) (L : List ℕ) where
  -- the row is one of listed arcs that leads from u to v
  abbrev IsWay : ℕ → List ℕ → ℕ → Type 0
  IsWay u row v = Every (λ e. T (listed e L)) row × Leads G u row v

  -- a row with a last arc leads to that arc's end, and without it to that arc's start
  leads_last : (u v : ℕ) (row : List ℕ) (e : ℕ) → Leads G u (row ++ (e ∷ [])) v → Leads G u row (G.start e) × (G.end e ≡ v)
  leads_last u v [] e h = (sym h.0, h.1)
  leads_last u v (d ∷ row) e h = let r = leads_last (G.end d) v row e h.1 in ((h.0, r.0), r.1)

  -- the same of a row of listed arcs
  way_last : (u v : ℕ) (row : List ℕ) (e : ℕ) → IsWay u (row ++ (e ∷ [])) v → IsWay u row (G.start e) × (T (listed e L) × (G.end e ≡ v))
  way_last u v row e h =
      let (each, t) = every_last (λ d. T (listed d L)) row e h.0 in
      let (leads, q) = leads_last u v row e h.1 in
      ((each, leads), (t, q))

  -- a path, one arc more, and a row from the arc's end
  abbrev path_on : {u v : ℕ} (e : ℕ) → T (listed e L) → DirectedPath G L u (G.start e) → (row : List ℕ) → IsWay (G.end e) row v → DirectedPath G L u v
  path_on {u} {v} e t p row h = record {
    row = p.row ++ (e ∷ row);
    each = every_append (λ d. T (listed d L)) p.row (e ∷ row) p.each (t, h.0);
    leads = leads_append G u (G.start e) v p.row (e ∷ row) p.leads (refl, h.1);
  }

-- a row with more arcs is another row
longer : (row : List ℕ) (e : ℕ) (more : List ℕ) → row ++ (e ∷ more) ≢ row
longer row e more q = omega (arith, ap length q, length-append row (e ∷ more))

-- ---- a subtree has one path to each node

module _ (G : Graph) (r : ℕ) (L : List ℕ) (s : Subtree G r L) where
  -- a row with a last arc does not lead from the root to the root
  not_back : (row : List ℕ) (e v : ℕ) → IsWay G L r (row ++ (e ∷ [])) v → r ≢ v
  not_back row e v h q =
      let (_, (t, end)) = way_last G L r v row e h in
      every_listed (λ d. G.end d ≢ r) L s.root_free e t (end ∙ sym q)

  -- two last arcs end at one node, so they are one arc; the rows before them lead to its start
  last_one : (a b : List ℕ) (e d v : ℕ) → ((u : ℕ) (b : List ℕ) → IsWay G L r a u → IsWay G L r b u → a ≡ b)
      → IsWay G L r (a ++ (e ∷ [])) v → IsWay G L r (b ++ (d ∷ [])) v → a ++ (e ∷ []) ≡ b ++ (d ∷ [])
  last_one a b e d v before g h =
      let (to-e, (te, qe)) = way_last G L r v a e g in
      let (to-d, (td, qd)) = way_last G L r v b d h in
      let arcs : e ≡ d = one_entry G.end L s.apart e d te td (qe ∙ sym qd) in
      let rows : a ≡ b = before (G.start d) b (subst (λ (x : ℕ). IsWay G L r a (G.start x)) arcs to-e) to-d in
      ap₂ (λ (l : List ℕ) (x : ℕ). l ++ (x ∷ [])) rows arcs

  -- no other row of listed arcs leads from the root to where this row does
  abbrev Only : List ℕ → Type 0
  Only a = (v : ℕ) (b : List ℕ) → IsWay G L r a v → IsWay G L r b v → a ≡ b

  only_row : (row : List ℕ) → Only row
  only_row = by_last Only
      (λ v b g h. by_last (λ b. IsWay G L r b v → [] ≡ b) (λ _. refl) (λ b d _ h. absurd (not_back b d v h g.1)) b h)
      (λ a e before v b g h. by_last (λ b. IsWay G L r b v → a ++ (e ∷ []) ≡ b)
      (λ h. absurd (not_back a e v g h.1)) (λ b d _ h. last_one a b e d v before g h) b h)

  -- two paths from the root to one node are one
  pub subtree_only_path : (v : ℕ) (p q : DirectedPath G L r v) → p.row ≡ q.row
  subtree_only_path v p q = only_row p.row v q.row (p.each, p.leads) (q.each, q.leads)

  -- the path to a touched node
  touched_path : (v : ℕ) → Touched G L v → DirectedPath G L r v
  touched_path v (at_start e t q) = subst (λ (x : ℕ). DirectedPath G L r x) q (start_reached s e t)
  touched_path v (at_end e t q) = path_on G L e t (start_reached s e t) [] (tt, q)

  -- the touched nodes are held
  pub touched_held : (v : ℕ) → Touched G L v → T (listed v (held G r L))
  touched_held v t = reached_held G r L (touched_path v t)

  -- document 01's subtrees are as document 004 says
  pub subtree_one_path : (v : ℕ) → v ≢ r → Touched G L v → OnePath G L r v
  subtree_one_path v _ t = record { path = touched_path v t; only = λ other. subtree_only_path v other (touched_path v t) }

  -- a subtree's arcs differ
  pub subtree_distinct : Distinct L
  subtree_distinct = entries_distinct G.end L s.apart

  -- and no arc is a loop
  pub subtree_no_loop : Every (λ e. G.start e ≢ G.end e) L
  subtree_no_loop = listed_every (λ e. G.start e ≢ G.end e) L λ e t q.
      let p = start_reached s e t in
      longer p.row e [] (subtree_only_path (G.start e) (path_on G L e t p [] (tt, sym q)) p)

-- ---- one path to each node makes a subtree

module _ (G : Graph) (r : ℕ) (L : List ℕ) (no_loop : Every (λ e. G.start e ≢ G.end e) L)
    (one : (v : ℕ) → v ≢ r → Touched G L v → OnePath G L r v) where
  -- a path leads to the start of each arc
  start_path : (e : ℕ) → T (listed e L) → DirectedPath G L r (G.start e)
  start_path e t = go (ℕ_discrete (G.start e) r)
    where
      go : Dec (G.start e ≡ r) → DirectedPath G L r (G.start e)
      go (yes q) = path_same G L (sym q)
      go (no n) = (one (G.start e) n (at_start e t refl)).path

  -- an arc that ended at the root would make a second, longer path to its start
  ends_off_root : (e : ℕ) → T (listed e L) → G.end e ≢ r
  ends_off_root e t q =
      let off_root : G.start e ≢ r = λ b. every_listed (λ d. G.start d ≢ G.end d) L no_loop e t (b ∙ sym q) in
      let there = one (G.start e) off_root (at_start e t refl) in
      let p = there.path in
      let round = path_on G L e t p p.row (p.each, subst (λ (x : ℕ). Leads G x p.row (G.start e)) (sym q) p.leads) in
      longer p.row e p.row (there.only round)

  -- two arcs with one end are the last arcs of the one path there
  one_last : (e d : ℕ) → T (listed e L) → T (listed d L) → G.end e ≡ G.end d → e ≡ d
  one_last e d t u q =
      let p = start_path e t in
      let o = start_path d u in
      let there = one (G.end d) (ends_off_root d u) (at_end d u refl) in
      last_same p.row o.row e d (there.only (path_on G L e t p [] (tt, q)) ∙ sym (there.only (path_on G L d u o [] (tt, refl))))

-- what is as document 004 says is a subtree of document 01
pub one_path_subtree : (G : Graph) (r : ℕ) (L : List ℕ) → r < G.nodes
    → Every (λ e. e < G.arcs) L → Distinct L → Every (λ e. G.start e ≢ G.end e) L
    → ((v : ℕ) → v ≢ r → Touched G L v → OnePath G L r v) → Subtree G r L
one_path_subtree G r L root on_graph distinct no_loop one = record {
  root = root;
  on_graph = on_graph;
  root_free = listed_every (λ e. G.end e ≢ r) L (ends_off_root G r L no_loop one);
  apart = values_distinct G.end L distinct (one_last G r L no_loop one);
  joined = listed_every (λ e. DirectedPath G L r (G.start e)) L (start_path G r L no_loop one);
}
