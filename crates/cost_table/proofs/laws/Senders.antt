-- The lowest of the numbers at which the cost of the senders is least: where that cost is finite it is a sender, and the lowest of the cheapest
-- senders; where it is "none", every sender's is.
-- Assumes nothing.
use Rattle.std.specs.Prelude.{ℕ, ◌≤◌, ◌<◌, ◌≡◌, Bool, true, false, cond, T}
use Rattle.std.proofs.Common.{sym, ap, ◌∙◌, arith}
use Rattle.limits.specs.Limits.{no_cost}
use Rattle.lists.specs.Tests.{choice_passed, choice_first}
use Rattle.lists.specs.Cheapest.{LowestCheapest}
use Rattle.cost_table.specs.Cheapest.{of_senders, LowestTo}

module _ (is_sender : ℕ → Bool) (c : ℕ → ℕ) where
  -- by the test of the flag
  pub sender_costs : (v x : ℕ) → is_sender v ≡ true → x ≡ c v → x ≡ of_senders is_sender c v
  sender_costs v x e is = is ∙ sym (ap (λ (b : Bool). cond b (c v) no_cost) e)

  pub other_costs : (v : ℕ) → is_sender v ≡ false → no_cost ≡ of_senders is_sender c v
  other_costs v e = sym (ap (λ (b : Bool). cond b (c v) no_cost) e)

  -- a sender costs what it costs, and what is finite is a sender's
  cost_is : (v : ℕ) → T (is_sender v) → of_senders is_sender c v ≡ c v
  cost_is v s = choice_first (is_sender v) (c v) no_cost s

  pub finite_sender : (v : ℕ) → of_senders is_sender c v < no_cost → T (is_sender v) × (of_senders is_sender c v ≡ c v)
  finite_sender v finite = choice_passed (is_sender v) (c v) no_cost (λ e. omega arith)

  module _ (n r : ℕ) (h : LowestTo (of_senders is_sender c) n r) where
    pub lowest_sender : of_senders is_sender c r < no_cost → LowestCheapest is_sender c n r
    lowest_sender finite =
        let (sender, is) = finite_sender r finite in
        record {
          below = h.below;
          passes = sender;
          cheapest = λ u l s. omega (arith, h.cheapest u l tt, is, cost_is u s);
          lowest = λ u l s. omega (arith, h.lowest u l tt, is, cost_is u s);
        }

    pub no_sender_lem : no_cost ≤ of_senders is_sender c r → (u : ℕ) → u < n → T (is_sender u) → no_cost ≤ c u
    no_sender_lem none u l s = omega (arith, h.cheapest u l tt, cost_is u s)
