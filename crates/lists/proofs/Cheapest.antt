-- Of the numbers that pass, the lowest of those that cost least: what is found, and when it is.
-- Assumes nothing.
use Rattle.std.specs.Prelude.{ℕ, ◌≤◌, ◌<◌, ◌≡◌, Bool, not, ◌&&◌, ◌||◌, T, leb, ltb}
use Rattle.std.proofs.Common.{ap, ap₂, ◌∙◌, ⊎_elim, arith, leb→le, le→leb, ltb→lt, nltb→le}
use Rattle.std.proofs.Math.Option.{none, some}
use Rattle.lists.specs.Tests.{by_fact, not_both, and_left, and_right, and_both, or_cases}
use Rattle.lists.specs.Find.{all_to, all_at, all_of_lem, all_same, first_same}
use Rattle.lists.proofs.First.{first_found, first_says}
use Rattle.lists.specs.Least.{LeastPassing, least_passing}
use Rattle.lists.specs.Cheapest.{is_cheapest, lowest_cheapest, LowestCheapest}

module _ (p : ℕ → Bool) (f : ℕ → ℕ) (n : ℕ) where
  -- the number u does not pass, or it costs no less than v
  abbrev no_cheaper : ℕ → ℕ → Bool
  no_cheaper v u = not (p u) || leb (f v) (f u)

  -- what the test says, and when it passes
  cheapest_facts : (v : ℕ) → T (is_cheapest p f n v) → T (p v) × ((u : ℕ) → u < n → T (p u) → f v ≤ f u)
  cheapest_facts v t =
      let no_cheaper_lem : T (all_to (no_cheaper v) n) = and_right (p v) (all_to (no_cheaper v) n) t in (
        and_left (p v) (all_to (no_cheaper v) n) t,
        λ u l s. ⊎_elim (λ (fails : T (not (p u))). absurd (not_both (p u) s fails)) (λ (h : T (leb (f v) (f u))). leb→le (f v) (f u) h)
            (or_cases (not (p u)) (leb (f v) (f u)) (all_at (no_cheaper v) n no_cheaper_lem u l)),
      )

  facts_cheapest : (v : ℕ) → T (p v) → ((u : ℕ) → u < n → T (p u) → f v ≤ f u) → T (is_cheapest p f n v)
  facts_cheapest v t h = and_both (p v) (all_to (no_cheaper v) n) t
      (all_of_lem (no_cheaper v) n (λ u l. by_fact (p u) (λ b. (T b → f v ≤ f u) → T (not b || leb (f v) (f u)))
      (λ _ k. le→leb (f v) (f u) (k tt)) (λ _ _. tt) (h u l)))

  -- the number that is found is the lowest of those that pass and cost least
  pub found_cheapest : (v : ℕ) → lowest_cheapest p f n ≡ some v → LowestCheapest p f n v
  found_cheapest v q =
      let (l, t, before) = first_says (is_cheapest p f n) n (some v) q in
      let (passes, cheapest) = cheapest_facts v t in
      record {
        below = l;
        passes = passes;
        cheapest = cheapest;
        lowest = λ u lu pu. by_fact (ltb (f v) (f u)) (λ _. f v < f u) (λ s. ltb→lt (f v) (f u) s)
            (λ s.
            let also : T (is_cheapest p f n u) = facts_cheapest u pu (λ x lx px. omega (arith, nltb→le (f v) (f u) s, cheapest x lx px)) in
            absurd (not_both (is_cheapest p f n u) also (before u lu)));
      }

  -- and that number is found
  pub cheapest_found : (v : ℕ) → LowestCheapest p f n v → lowest_cheapest p f n ≡ some v
  cheapest_found v h = first_found (is_cheapest p f n) n v h.below (facts_cheapest v h.passes h.cheapest) (λ u l.
      by_fact (is_cheapest p f n u) (λ b. T (not b))
      (λ t.
      let (passes, cheapest) = cheapest_facts u t in
      absurd (omega (arith, h.lowest u l passes, cheapest v h.below h.passes)))
      (λ t. tt))

  -- none is found only where no number passes
  pub none_found : lowest_cheapest p f n ≡ none → (u : ℕ) → u < n → T (not (p u))
  none_found q =
      let says = first_says (is_cheapest p f n) n none q in
      ⊎_elim (λ (b : LeastPassing f p n).
      let (v, l, t, h) = b in absurd (not_both (is_cheapest p f n v) (facts_cheapest v t h) (says v l)))
      (λ (h : (u : ℕ) → u < n → T (not (p u))). h) (least_passing f p n)

-- ---- tests and costs that agree below n

pub cheapest_same : (p q : ℕ → Bool) (f g : ℕ → ℕ) (n : ℕ) → ((u : ℕ) → u < n → p u ≡ q u) → ((u : ℕ) → u < n → f u ≡ g u)
    → lowest_cheapest p f n ≡ lowest_cheapest q g n
cheapest_same p q f g n tests costs = first_same (is_cheapest p f n) (is_cheapest q g n) n (λ v on.
    ap₂ ◌&&◌ (tests v on) (all_same (λ u. not (p u) || leb (f v) (f u)) (λ u. not (q u) || leb (g v) (g u)) n
    (λ u l. ap (λ (b : Bool). not b || leb (f v) (f u)) (tests u l) ∙ ap₂ (λ (x y : ℕ). not (q u) || leb x y) (costs v on) (costs u l))))
