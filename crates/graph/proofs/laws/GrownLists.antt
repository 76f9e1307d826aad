-- Lists of arcs in a grown order: each arc in turn starts at a node that is held already and ends at one that is not. From a root alone
-- such a list is a directed subtree.
-- Assumes nothing.
use Rattle.std.specs.Prelude.{ℕ, ◌+◌, ◌≤◌, ◌<◌, ◌≡◌, refl, ◌≢◌, not, List, [], ◌∷◌, T, eqb}
use Rattle.std.proofs.Common.{sym, ap, subst, ⊎_elim, arith}
use Rattle.lists.specs.Tests.{by_eq, eq_fact, not_both}
use Rattle.lists.specs.Count.{bit, bit_passed}
use Rattle.lists.specs.Listed.{listed, listed_head, listed_same, listed_tail, listed_cases, listed_only, listed_every, Distinct}
use Rattle.lists.specs.Sums.{sum_entry}
use Rattle.graph.specs.Graph.{Graph}
use Rattle.graph.specs.Paths.{DirectedPath}
use Rattle.graph.specs.Subtrees.{Subtree}
use Rattle.graph.proofs.laws.Reaching.{path_same, path_then}
use Rattle.graph.proofs.laws.SubtreeParts.{endings, make_subtree}

-- the arcs are in a grown order from the held nodes H
abbrev pub Grown : Graph → List ℕ → List ℕ → Type 0
Grown G H [] = Unit {0}
Grown G H (e ∷ L) = T (listed (G.start e) H) × T (not (listed (G.end e) H)) × Grown G (G.end e ∷ H) L

module _ (G : Graph) where
  -- none of them ends at a node of H
  grown_free : (H L : List ℕ) (x : ℕ) → Grown G H L → T (listed x H) → endings G x L ≡ 0
  grown_free H [] x g t = refl
  grown_free H (e ∷ L) x g t = by_eq x (G.end e) (λ b. bit b + endings G x L ≡ 0)
      (λ q. absurd (not_both (listed (G.end e) H) (subst (λ (y : ℕ). T (listed y H)) q t) g.1))
      (λ _. omega (arith, grown_free (G.end e ∷ H) L x g.2 (listed_tail x (G.end e) H t)))

  -- and at most one ends at each node
  grown_few : (H L : List ℕ) (x : ℕ) → Grown G H L → endings G x L ≤ 1
  grown_few H [] x g = omega arith
  grown_few H (e ∷ L) x g = by_eq x (G.end e) (λ b. bit b + endings G x L ≤ 1)
      (λ q. omega (arith, grown_free (G.end e ∷ H) L x g.2 (listed_same x (G.end e) H q)))
      (λ _. omega (arith, grown_few (G.end e ∷ H) L x g.2))

  -- so no arc is listed twice
  pub grown_distinct : (H L : List ℕ) → Grown G H L → Distinct L
  grown_distinct H [] g = tt
  grown_distinct H (e ∷ L) g = (listed_every (λ d. e ≢ d) L other, grown_distinct (G.end e ∷ H) L g.2)
    where
      other : (d : ℕ) → T (listed d L) → e ≢ d
      other d t q =
          let x : ℕ = G.end e in
          let at_d : bit (eqb x (G.end d)) ≡ 1 = bit_passed (eqb x (G.end d)) (eq_fact (ap G.end q)) in
          omega (arith, grown_free (x ∷ H) L x g.2 (listed_head x H), sum_entry (λ a. bit (eqb x (G.end a))) d L t)

  -- where the arcs of A reach the nodes of H from r, and the arcs of a grown list are among them, they reach the starts of these arcs
  pub grown_joined : (r : ℕ) (A H L : List ℕ) → Grown G H L
      → ((h : ℕ) → T (listed h H) → DirectedPath G A r h) → ((e : ℕ) → T (listed e L) → T (listed e A))
      → (e : ℕ) → T (listed e L) → DirectedPath G A r (G.start e)
  grown_joined r A H [] g at sub e t = absurd t
  grown_joined r A H (d ∷ L) g at sub e t =
      let first : DirectedPath G A r (G.start d) = at (G.start d) g.0 in
      let more : (h : ℕ) → T (listed h (G.end d ∷ H)) → DirectedPath G A r h =
      λ h i. ⊎_elim (λ (q : h ≡ G.end d). path_then G A d (sub d (listed_head d L)) first (sym q))
      (λ (j : T (listed h H)). at h j) (listed_cases h (G.end d) H i) in
      ⊎_elim (λ (q : e ≡ d). subst (λ (y : ℕ). DirectedPath G A r (G.start y)) (sym q) first)
      (λ (i : T (listed e L)). grown_joined r A (G.end d ∷ H) L g.2 more (λ x j. sub x (listed_tail x d L j)) e i) (listed_cases e d L t)

  -- any arcs reach the root from itself
  pub root_reached : (r : ℕ) (A : List ℕ) (h : ℕ) → T (listed h (r ∷ [])) → DirectedPath G A r h
  root_reached r A h t = path_same G A (sym (listed_only h r t))

  -- from a root alone, a grown list is a subtree
  pub grown_subtree : (r : ℕ) (L : List ℕ) → r < G.nodes → Grown G (r ∷ []) L → ((e : ℕ) → T (listed e L) → e < G.arcs) → Subtree G r L
  grown_subtree r L on g arcs = make_subtree on arcs (grown_free (r ∷ []) L r g (listed_head r [])) (λ v. grown_few (r ∷ []) L v g)
      (grown_joined r L (r ∷ []) L g (root_reached r L) (λ e t. t))
