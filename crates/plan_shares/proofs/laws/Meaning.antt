-- What the definitions of specs/Shares.antt say, in the words of document 02, W-204: where a station sits; which stations sit at or below a site; who
-- pays more of a price.
-- Assumes nothing.
use Rattle.std.specs.Prelude.{ℕ, ◌+◌, ◌/◌, ◌%◌, ◌≤◌, ◌<◌, ◌≡◌, refl, ◌↔◌, Bool, not, ◌&&◌, cond, List, T, ltb}
use Rattle.std.proofs.Common.{sym, subst, arith, ltb→lt, nltb→le}
use Rattle.std.proofs.Math.Option.{Option, none, some}
use Rattle.lists.specs.Tests.{by_fact, not_both, and_left, and_right, and_both, choice_first}
use Rattle.lists.specs.Count.{bit}
use Rattle.lists.specs.Listed.{listed}
use Rattle.lists.proofs.First.{first_says}
use Rattle.lists.specs.Sums.{sum_to_fewer}
use Rattle.subset.specs.Sets.{has}
use Rattle.graph.specs.Graph.{Graph, Landing}
use Rattle.graph.specs.Paths.{DirectedPath}
use Rattle.graph.specs.Subtrees.{held}
use Rattle.graph.proofs.Theorems.{reach_test}
use Rattle.graph.proofs.laws.Reaching.{path_same}
use Rattle.graph.proofs.laws.ReachTest.{path_reached}
use Rattle.plan_shares.specs.Shares.{payers_to, part_of, seat, is_below, sits_below}

-- ---- seats

module _ (G : Graph) (r : ℕ) (L : List ℕ) (i : ℕ) where
  -- the plan holds node v, which is a landing of terminal i
  abbrev lands : ℕ → Bool
  lands v = listed v (held G r L) && has (G.landings v) i

  -- "A station sits at its lowest-numbered landing in a sending plan": the plan holds the seat, which is a landing, and no lower landing
  pub seat_lowest : (u : ℕ) → seat G r L i ≡ some u
      → (u < G.nodes) × T (listed u (held G r L)) × Landing G i u × ((v : ℕ) → v < u → T (listed v (held G r L)) → Landing G i v → ⊥)
  seat_lowest u sits =
      let (on, found, none_lower) = first_says lands G.nodes (some u) sits in (
        on,
        and_left (listed u (held G r L)) (has (G.landings u) i) found,
        and_right (listed u (held G r L)) (has (G.landings u) i) found,
        λ v l at land. not_both (lands v) (and_both (listed v (held G r L)) (has (G.landings v) i) at land) (none_lower v l),
      )

  -- where terminal i has no seat, the plan holds no landing of it
  pub seat_none : seat G r L i ≡ none → (v : ℕ) → v < G.nodes → T (listed v (held G r L)) → Landing G i v → ⊥
  seat_none nowhere v on at land =
      not_both (lands v) (and_both (listed v (held G r L)) (has (G.landings v) i) at land) (first_says lands G.nodes none nowhere v on)

  -- terminal i sits "at or below" its own seat
  pub sits_at : (u : ℕ) → seat G r L i ≡ some u → T (sits_below G r L u i)
  sits_at u sits = subst (λ (o : Option ℕ). T (is_below G r L u o)) (sym sits) (path_reached G L u u (path_same G L refl))

  -- and at or below exactly the nodes from which a directed path of listed arcs leads to its seat
  pub sits_below_iff : (u v : ℕ) → seat G r L i ≡ some u → T (sits_below G r L v i) ↔ DirectedPath G L v u
  sits_below_iff u v sits = subst (λ (o : Option ℕ). T (is_below G r L v o) ↔ DirectedPath G L v u) (sym sits) (reach_test G L v u)

-- ---- parts of a price: with `parts_whole` of specs/laws/Parts.antt, which says what they make, these leave one way to split it

module _ (pays : ℕ → Bool) where
  -- "the lowest stations pay one cent more until the remainder is used": of two payers the lower pays as much as the higher or one cent more
  pub lower_pays_more : (m price i j : ℕ) → i < j → T (pays i) → T (pays j)
      → (part_of pays m price j ≤ part_of pays m price i) × (part_of pays m price i ≤ part_of pays m price j + 1)
  lower_pays_more m price i j l pi pj = (omega (arith, of_i, of_j, odd.0), omega (arith, of_i, of_j, odd.1))
    where
      odd_cent : ℕ → ℕ
      odd_cent x = bit (ltb (payers_to pays x) (price % m))

      of_i : part_of pays m price i ≡ price / m + odd_cent i
      of_i = choice_first (pays i) (price / m + odd_cent i) 0 pi

      of_j : part_of pays m price j ≡ price / m + odd_cent j
      of_j = choice_first (pays j) (price / m + odd_cent j) 0 pj

      odd : (odd_cent j ≤ odd_cent i) × (odd_cent i ≤ odd_cent j + 1)
      odd =
          let a : ℕ = payers_to pays i in
          let b : ℕ = payers_to pays j in
          let rest : ℕ = price % m in
          let more : a ≤ b = sum_to_fewer i j (λ x. bit (pays x)) (omega arith) in
          by_fact (ltb a rest) (λ x. (bit (ltb b rest) ≤ bit x) × (bit x ≤ bit (ltb b rest) + 1))
          (λ _. by_fact (ltb b rest) (λ y. (bit y ≤ 1) × (1 ≤ bit y + 1)) (λ _. (omega arith, omega arith)) (λ _. (omega arith, omega arith)))
          (λ s. by_fact (ltb b rest) (λ y. (bit y ≤ 0) × (0 ≤ bit y + 1))
          (λ t. absurd (omega (arith, more, nltb→le a rest s, ltb→lt b rest t))) (λ _. (omega arith, omega arith)))

  -- only the payers pay
  pub others_pay_nothing : (m price i : ℕ) → T (not (pays i)) → part_of pays m price i ≡ 0
  others_pay_nothing m price i out =
      by_fact (pays i) (λ b. T (not b) → cond b (price / m + bit (ltb (payers_to pays i) (price % m))) 0 ≡ 0) (λ _ t. absurd t) (λ _ _. refl) out
