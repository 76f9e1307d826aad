-- The parts of a price and what nobody pays make the price; so the shares of a plan and the unassigned sum make the total of its legs' prices.
-- Assumes nothing.
use Rattle.std.specs.Prelude.{ℕ, zero, suc, ◌+◌, ◌*◌, ◌/◌, ◌%◌, ◌≤◌, min, ◌≡◌, refl, ◌≢◌, Bool, cond, List, [], ◌∷◌, ltb}
use Rattle.std.proofs.Common.{ap, ◌∙◌, arith, div-add-mod', mod-lt, mul_comm, ltb→lt, nltb→le}
use Rattle.lists.specs.Tests.{by_fact, by_eq}
use Rattle.lists.specs.Count.{bit}
use Rattle.lists.specs.Sums.{sum_by, sum_to, sum_to_sum_by}
use Rattle.graph.specs.Graph.{Graph}
use Rattle.plan_shares.specs.Shares.{payers_to, part_of, unpaid_of, sits_below, part_at, unpaid_at, share_of, unassigned}

-- ---- one price

module _ (pays : ℕ → Bool) where
  -- of the terminals below i each payer pays q, and the lowest rest of them one cent more
  abbrev paid_to : (q rest i : ℕ) → ℕ
  paid_to q rest i = sum_to i (λ j. cond (pays j) (q + bit (ltb (payers_to pays j) rest)) 0)

  paid_below : (q rest i : ℕ) → paid_to q rest i ≡ payers_to pays i * q + min rest (payers_to pays i)
  paid_below q rest zero = omega arith
  paid_below q rest (suc i) =
      let m : ℕ = payers_to pays i in
      by_fact (pays i) (λ b. cond b (q + bit (ltb m rest)) 0 + paid_to q rest i ≡ (bit b + m) * q + min rest (bit b + m))
      (λ _. by_fact (ltb m rest) (λ b. (q + bit b) + paid_to q rest i ≡ (1 + m) * q + min rest (1 + m))
      (λ t. omega (arith, paid_below q rest i, ltb→lt m rest t)) (λ t. omega (arith, paid_below q rest i, nltb→le m rest t)))
      (λ _. omega (arith, paid_below q rest i))

  none_paid : (price i : ℕ) → payers_to pays i ≡ 0 → (m : ℕ) → sum_to i (part_of pays m price) ≡ 0
  none_paid price zero none m = refl
  none_paid price (suc i) none m =
      by_fact (pays i) (λ b. bit b + payers_to pays i ≡ 0 → cond b (price / m + bit (ltb (payers_to pays i) (price % m))) 0 + sum_to i (part_of pays m price) ≡ 0)
      (λ _ h. absurd (omega arith)) (λ _ h. omega (arith, none_paid price i (omega arith) m)) none

  -- the parts of the terminals below k, and what nobody pays, make the price
  pub parts_whole : (k price : ℕ) → sum_to k (part_of pays (payers_to pays k) price) + unpaid_of (payers_to pays k) price ≡ price
  parts_whole k price =
      let m : ℕ = payers_to pays k in
      by_eq m 0 (λ b. sum_to k (part_of pays m price) + cond b price 0 ≡ price)
      (λ none. omega (arith, none_paid price k none m))
      (λ some.
      let one : 1 ≤ m = omega arith in
      omega (arith, paid_below (price / m) (price % m) k, div-add-mod' price m, mod-lt price one, mul_comm (price / m) m))

-- where somebody pays, nothing is unpaid
pub served_paid : (m price : ℕ) → m ≢ 0 → unpaid_of m price ≡ 0
served_paid m price n = by_eq m 0 (λ b. cond b price 0 ≡ 0) (λ e. absurd (n e)) (λ _. refl)

-- ---- a plan

module _ (G : Graph) (r : ℕ) (L : List ℕ) where
  -- "the shares and the unassigned sum make the total of leg prices"
  pub shares_whole : sum_to G.terminals (share_of G r L) + unassigned G r L ≡ sum_by G.weight L
  shares_whole = ap (λ (x : ℕ). x + unassigned G r L) (sum_to_sum_by G.terminals part L) ∙ go L
    where
      part : ℕ → ℕ → ℕ
      part e i = part_at G r L (G.end e) (G.weight e) i

      go : (M : List ℕ) → sum_by (λ e. sum_to G.terminals (part e)) M + sum_by (λ e. unpaid_at G r L (G.end e) (G.weight e)) M ≡ sum_by G.weight M
      go [] = refl
      go (e ∷ M) = omega (arith, parts_whole (sits_below G r L (G.end e)) G.terminals (G.weight e), go M)
