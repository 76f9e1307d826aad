-- Which nodes a list of arcs holds: the root and the ends of its arcs. More arcs hold no fewer nodes.
-- Which nodes are held after arcs were added one by one to some held nodes; from a root alone they are the nodes that the arcs hold.
-- Assumes nothing.
use Rattle.std.specs.Prelude.{ℕ, ◌≡◌, ◌⊎◌, List, [], ◌∷◌, map, T}
use Rattle.std.proofs.Common.{sym, ap, subst, inl, inr, ⊎_elim}
use Rattle.lists.specs.Listed.{listed, listed_head, listed_same, listed_tail, listed_cases, listed_only, listed_value, value_of}
use Rattle.graph.specs.Graph.{Graph}
use Rattle.graph.specs.Paths.{DirectedPath}
use Rattle.graph.specs.Subtrees.{held, Covers}
use Rattle.graph.proofs.laws.Reaching.{path_same, path_then, path_carries}

-- an arc of the list ends at x
abbrev pub EndsAt : Graph → List ℕ → ℕ → Type 0
EndsAt G L x = (e : ℕ) × T (listed e L) × (G.end e ≡ x)

module _ (G : Graph) (r : ℕ) where
  -- a listed arc's end is held
  end_held : (L : List ℕ) (e : ℕ) → T (listed e L) → T (listed (G.end e) (held G r L))
  end_held L e t = listed_tail (G.end e) r (map G.end L) (listed_value G.end L e t)

  -- a held node is the root or the end of a listed arc
  pub held_cases : (L : List ℕ) (x : ℕ) → T (listed x (held G r L)) → (x ≡ r) ⊎ EndsAt G L x
  held_cases L x t = ⊎_elim (λ (q : x ≡ r). inl q) (λ (i : T (listed x (map G.end L))). inr (value_of G.end L x i)) (listed_cases x r (map G.end L) t)

  -- more arcs hold no fewer nodes, so they cover no fewer terminals
  held_more : (A B : List ℕ) → ((e : ℕ) → T (listed e A) → T (listed e B)) → (x : ℕ) → T (listed x (held G r A)) → T (listed x (held G r B))
  held_more A B sub x t = ⊎_elim (λ (q : x ≡ r). listed_same x r (map G.end B) q)
      (λ (d : EndsAt G A x).
      let (e, i, q) = d in
      subst (λ (y : ℕ). T (listed y (held G r B))) q (end_held B e (sub e i))) (held_cases A x t)

  pub covers_more : (A B : List ℕ) (w : ℕ) → ((e : ℕ) → T (listed e A) → T (listed e B)) → Covers G r A w → Covers G r B w
  covers_more A B w sub cov i l t = let k = cov i l t in (k.0, held_more A B sub k.0 k.1, k.2)

  -- where each start is reached, each held node is
  pub held_reached : (L : List ℕ) → ((e : ℕ) → T (listed e L) → DirectedPath G L r (G.start e))
      → (x : ℕ) → T (listed x (held G r L)) → DirectedPath G L r x
  held_reached L joined x t = ⊎_elim (λ (q : x ≡ r). path_same G L (sym q))
      (λ (d : EndsAt G L x).
      let (e, i, q) = d in
      path_then G L e i (joined e i) q) (held_cases L x t)

  -- what a list of arcs reaches, it holds
  pub reached_held : (L : List ℕ) {x : ℕ} → DirectedPath G L r x → T (listed x (held G r L))
  reached_held L p = path_carries G L (λ v. T (listed v (held G r L))) (λ e t _. end_held L e t) p (listed_head r (map G.end L))

-- ---- arcs added one by one

-- the nodes held after the arcs, where H were held before
abbrev pub held_after : Graph → List ℕ → List ℕ → List ℕ
held_after G H [] = H
held_after G H (e ∷ L) = held_after G (G.end e ∷ H) L

module _ (G : Graph) where
  -- nodes held before are held after
  pub after_keeps : (L H : List ℕ) (x : ℕ) → T (listed x H) → T (listed x (held_after G H L))
  after_keeps [] H x t = t
  after_keeps (e ∷ L) H x t = after_keeps L (G.end e ∷ H) x (listed_tail x (G.end e) H t)

  -- so is the end of each arc
  after_end : (L H : List ℕ) (e : ℕ) → T (listed e L) → T (listed (G.end e) (held_after G H L))
  after_end [] H e t = absurd t
  after_end (d ∷ L) H e t = ⊎_elim (λ (q : e ≡ d). after_keeps L (G.end d ∷ H) (G.end e) (listed_same (G.end e) (G.end d) H (ap G.end q)))
      (λ (i : T (listed e L)). after_end L (G.end d ∷ H) e i) (listed_cases e d L t)

  -- such a node was held before, or is the end of one of the arcs
  after_cases : (L H : List ℕ) (x : ℕ) → T (listed x (held_after G H L)) → T (listed x H) ⊎ EndsAt G L x
  after_cases [] H x t = inl t
  after_cases (d ∷ L) H x t = go (after_cases L (G.end d ∷ H) x t)
    where
      go : T (listed x (G.end d ∷ H)) ⊎ EndsAt G L x → T (listed x H) ⊎ EndsAt G (d ∷ L) x
      go (inl i) = ⊎_elim (λ (q : x ≡ G.end d). inr (d, listed_head d L, sym q)) (λ (j : T (listed x H)). inl j) (listed_cases x (G.end d) H i)
      go (inr (e, i, q)) = inr (e, listed_tail e d L i, q)

  -- from the root alone, they are the nodes that the arcs hold
  pub held_after_lem : (r : ℕ) (L : List ℕ) (x : ℕ) → T (listed x (held G r L)) → T (listed x (held_after G (r ∷ []) L))
  held_after_lem r L x t = ⊎_elim (λ (q : x ≡ r). after_keeps L (r ∷ []) x (listed_same x r [] q))
      (λ (d : EndsAt G L x).
      let (e, i, q) = d in
      subst (λ (y : ℕ). T (listed y (held_after G (r ∷ []) L))) q (after_end L (r ∷ []) e i)) (held_cases G r L x t)

  pub after_held : (r : ℕ) (L : List ℕ) (x : ℕ) → T (listed x (held_after G (r ∷ []) L)) → T (listed x (held G r L))
  after_held r L x t = ⊎_elim (λ (i : T (listed x (r ∷ []))). listed_same x r (map G.end L) (listed_only x r i))
      (λ (d : EndsAt G L x).
      let (e, i, q) = d in
      subst (λ (y : ℕ). T (listed y (held G r L))) q (end_held G r L e i)) (after_cases L (r ∷ []) x t)
