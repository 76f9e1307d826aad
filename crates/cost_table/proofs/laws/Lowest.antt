-- The search for the lowest of the numbers at which a function is least, number after number.
-- Assumes nothing.
use Rattle.std.specs.Prelude.{ℕ, ◌+◌, ◌≤◌, ◌≡◌, Bool, cond, ltb}
use Rattle.std.proofs.Common.{sym, ap, ap₂, ◌∙◌, subst, arith, ltb→lt, nltb→le}
use Rattle.lists.specs.Tests.{by_fact}
use Rattle.lists.specs.Below.{below_more}
use Rattle.cost_table.specs.Cheapest.{LowestTo}

module _ (f : ℕ → ℕ) where
  -- of one number
  pub lowest_one : LowestTo f 1 0
  lowest_one = record {
    below = omega arith;
    passes = tt;
    cheapest = λ u l _. below_more (λ u. f 0 ≤ f u) 0 (λ u l. absurd (omega arith)) (omega arith) u l;
    lowest = λ u l _. absurd (omega arith);
  }

  -- with one number more, which is taken where it costs less
  pub lowest_more : (n r : ℕ) → LowestTo f n r → LowestTo f (n + 1) (cond (ltb (f n) (f r)) n r)
  lowest_more n r h = by_fact (ltb (f n) (f r)) (λ b. LowestTo f (n + 1) (cond b n r))
      (λ t.
      let less = ltb→lt (f n) (f r) t in
      record {
        below = omega arith;
        passes = tt;
        cheapest = λ u l _. below_more (λ u. f n ≤ f u) n (λ u l. omega (arith, h.cheapest u l tt)) (omega arith) u l;
        lowest = λ u l _. omega (arith, h.cheapest u l tt);
      })
      (λ t.
      let more = nltb→le (f n) (f r) t in
      record {
        below = omega (arith, h.below);
        passes = tt;
        cheapest = λ u l _. below_more (λ u. f r ≤ f u) n (λ u l. h.cheapest u l tt) more u l;
        lowest = h.lowest;
      })

  pub lowest_next : (n r q : ℕ) → LowestTo f n r → q ≡ cond (ltb (f n) (f r)) n r → LowestTo f (n + 1) q
  lowest_next n r q h e = rw e (lowest_more n r h)

  -- the choice between two numbers at which the function is x and y, as a comparison of x and y makes it
  pub chosen : (first second x y : ℕ) → y ≡ f second → x ≡ f first → (b : Bool) → ltb y x ≡ b
      → cond (ltb (f second) (f first)) second first ≡ cond b second first
  chosen first second x y there here b t = ap (λ (c : Bool). cond c second first) (ap₂ ltb (sym there) (sym here) ∙ t)

  -- of all numbers
  pub lowest_all : (n i r : ℕ) → i ≡ n → LowestTo f i r → LowestTo f n r
  lowest_all n i r e h = subst (λ (j : ℕ). LowestTo f j r) e h
