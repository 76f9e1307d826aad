-- Where a plan holds a landing of a terminal, the terminal has a seat, which the plan holds. Where no tree with the same root costs less, a terminal
-- sits at or below the end of each arc: nothing is unassigned.
-- Assumes nothing.
use Rattle.std.specs.Prelude.{ℕ, ◌+◌, ◌≤◌, ◌<◌, ◌≡◌, refl, ◌⊎◌, Bool, not, List, T, eqb}
use Rattle.std.proofs.Common.{sym, ap, inl, inr, ⊎_elim, arith}
use Rattle.std.proofs.Math.Option.{Option, none, some}
use Rattle.std.proofs.Math.Decide.{ℕ_discrete}
use Rattle.std.proofs.Math.Dec.{eqb_refl}
use Rattle.lists.specs.Tests.{by_fact, ne_fact, not_both}
use Rattle.lists.specs.Count.{bit}
use Rattle.lists.specs.Select.{select}
use Rattle.lists.specs.Listed.{listed, listed_select, select_listed, listed_count, count_listed, unlisted_count, Distinct}
use Rattle.lists.specs.Sums.{sum_by, sum_at_most, sum_entry, count_sum, passing_one}
use Rattle.lists.specs.Remaining.{remaining, sum_remaining}
use Rattle.graph.specs.Graph.{Graph, Sound, Landing}
use Rattle.graph.specs.Paths.{DirectedPath}
use Rattle.graph.specs.Subtrees.{Subtree, held, CoversAll, total}
use Rattle.graph.specs.Growth.{kept}
use Rattle.graph.proofs.laws.Reaching.{path_same, path_then, path_carries}
use Rattle.graph.proofs.laws.Holding.{held_reached}
use Rattle.graph.proofs.laws.SubtreeParts.{cost, total_by_arc, arc_of, start_reached, held_lt}
use Rattle.graph.proofs.laws.UniquePaths.{subtree_distinct}
use Rattle.graph.proofs.laws.Growing.{kept_listed, kept_subtree, reached_kept}
use Rattle.plan_shares.specs.Shares.{payers_to, seat, sits_below, payers_at, unpaid_at, unassigned}
use Rattle.plan_shares.proofs.laws.Meaning.{seat_lowest, seat_none, sits_below_iff}
use Rattle.plan_shares.proofs.laws.Parts.{served_paid}

-- where a plan holds a landing of terminal i, the terminal has a seat, which the plan holds
pub seat_held : (G : Graph) → Sound G → (r : ℕ) (L : List ℕ) → Subtree G r L → (i v : ℕ) → T (listed v (held G r L)) → Landing G i v
    → (u : ℕ) × (seat G r L i ≡ some u) × T (listed u (held G r L)) × Landing G i u
seat_held G sound r L s i v at land = go (seat G r L i) refl
  where
    go : (o : Option ℕ) → seat G r L i ≡ o → (u : ℕ) × (seat G r L i ≡ some u) × T (listed u (held G r L)) × Landing G i u
    go none q = absurd (seat_none G r L i q v (held_lt s sound v at) at land)
    go (some u) q =
        let (_, seat_at, lands, _) = seat_lowest G r L i u q in
        (u, q, seat_at, lands)

-- where none of the terminals below n pays, terminal i of them does not
none_pays : (pays : ℕ → Bool) (n i : ℕ) → payers_to pays n ≡ 0 → i < n → T (not (pays i))
none_pays pays n i nobody l = by_fact (pays i) (λ b. T (not b)) (λ t. absurd (omega (arith, passing_one pays n i l t))) (λ _. tt)

-- ---- a list without one of its arcs

-- d is another arc than e; the list without arc e
abbrev is_other : (e d : ℕ) → Bool
is_other e d = not (eqb d e)

abbrev without : ℕ → List ℕ → List ℕ
without e L = select (is_other e) L

-- without arc e a node is still reached, or it is reached from the end of e
detour : (G : Graph) (r e : ℕ) (L : List ℕ) {v : ℕ} → DirectedPath G L r v → DirectedPath G (without e L) r v ⊎ DirectedPath G L (G.end e) v
detour G r e L p = path_carries G L Found carry p (inl (path_same G (without e L) refl))
  where
    Found : ℕ → Type 0
    Found v = DirectedPath G (without e L) r v ⊎ DirectedPath G L (G.end e) v

    carry : (d : ℕ) → T (listed d L) → Found (G.start d) → Found (G.end d)
    carry d t (inr x) = inr (path_then G L d t x refl)
    carry d t (inl x) = go (ℕ_discrete d e)
      where
        go : Dec (d ≡ e) → Found (G.end d)
        go (yes q) = inr (path_same G L (ap G.end (sym q)))
        go (no n) = inl (path_then G (without e L) d (listed_select d (is_other e) L t (ne_fact n)) x refl)

-- different entries of a list, without its entry e: the sum over them is less than that over the list by the value at e, or by more
sum_without : (f : ℕ → ℕ) (e : ℕ) (L K : List ℕ) → Distinct K → ((d : ℕ) → T (listed d K) → T (listed d L)) → T (listed e L) → T (not (listed e K))
    → sum_by f K + f e ≤ sum_by f L
sum_without f e L K differ sub t out =
    let rest : List ℕ = remaining L K in
    let counts = sum_remaining (λ d. bit (eqb e d)) L K differ sub in
    let left : T (listed e rest) =
    count_listed e rest (omega (arith, counts, listed_count e L t, unlisted_count e K out, count_sum e L, count_sum e K, count_sum e rest)) in
    omega (arith, sum_remaining f L K differ sub, sum_entry f e rest left)

-- ---- a tree than which none with its root costs less

module _ (G : Graph) (sound : Sound G) (r : ℕ) (L : List ℕ) (s : Subtree G r L) (covers : CoversAll G r L)
    (least : (M : List ℕ) → Subtree G r M → CoversAll G r M → total G r L ≤ total G r M) where
  -- a terminal sits at or below the end of each arc: else the tree without the arc, grown, would cover all terminals and cost less
  serves : (e : ℕ) → T (listed e L) → payers_at G r L (G.end e) ≡ 0 → ⊥
  serves e t nobody = omega (
    arith,
    least K tree all,
    total_by_arc G r L,
    total_by_arc G r K,
    sum_without (cost G) e L K (subtree_distinct G r K tree) within t out,
    sound.weight_pos e (arc_of s e t),
  )
    where
      N : List ℕ
      N = without e L

      K : List ℕ
      K = kept G r N

      within : (d : ℕ) → T (listed d K) → T (listed d L)
      within d i = (select_listed d (is_other e) L (kept_listed G r N d i)).0

      out : T (not (listed e K))
      out = by_fact (listed e K) (λ b. T (not b))
          (λ i. absurd (not_both (eqb e e) (eqb_refl e) (select_listed e (is_other e) L (kept_listed G r N e i)).1)) (λ _. tt)

      tree : Subtree G r K
      tree = kept_subtree G r N s.root (λ d i. arc_of s d (select_listed d (is_other e) L i).0)

      -- a seat is not at or below the end of the arc, so it is still reached
      still_reached : (i u : ℕ) → i < G.terminals → seat G r L i ≡ some u → T (listed u (held G r L)) → DirectedPath G N r u
      still_reached i u l sits at =
          let apart : T (not (sits_below G r L (G.end e) i)) = none_pays (sits_below G r L (G.end e)) G.terminals i nobody l in
          ⊎_elim (λ (p : DirectedPath G N r u). p)
          (λ (p : DirectedPath G L (G.end e) u). absurd (not_both (sits_below G r L (G.end e) i) ((sits_below_iff G r L i u (G.end e) sits).1 p) apart))
          (detour G r e L (held_reached G r L (start_reached s) u at))

      all : CoversAll G r K
      all i l =
          let (v, at, land) = covers i l in
          let (u, sits, seat_at, lands) = seat_held G sound r L s i v at land in
          (u, reached_kept G r N (still_reached i u l sits seat_at), lands)

  -- "For the engine's plans the unassigned sum is 0"
  pub none_unassigned : unassigned G r L ≡ 0
  none_unassigned = omega (
    arith,
    sum_at_most (λ e. unpaid_at G r L (G.end e) (G.weight e)) 0 L
        (λ e t. omega (arith, served_paid (payers_at G r L (G.end e)) (G.weight e) (serves e t))),
  )
