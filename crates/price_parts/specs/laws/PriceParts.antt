-- A part of a price is at most the price, and so is what nobody pays of it; where nobody pays, each part is 0.
-- Assumes nothing.
use Rattle.std.specs.Prelude.{ℕ, ◌≤◌, ◌<◌, ◌≡◌}
use Rattle.std.proofs.Common.{arith}
use Rattle.lists.specs.Sums.{sum_to_entry}
use Rattle.subset.specs.Sets.{has}
use Rattle.plan_shares.proofs.laws.Parts.{parts_whole}
use Rattle.price_parts.specs.Splitting.{paid_by, paid_by_none}

module _ (k payers price : ℕ) where
  -- the parts, and what nobody pays, make the price; so none of them is more
  pub part_le : (i : ℕ) → i < k → paid_by k payers price i ≤ price
  part_le i l = omega (arith, sum_to_entry k i (paid_by k payers price) l, parts_whole (has payers) k price)

  pub unpaid_le : paid_by_none k payers price ≤ price
  unpaid_le = omega (arith, parts_whole (has payers) k price)

  -- where nobody pays, each part is 0
  pub part_none : (i : ℕ) → i < k → paid_by_none k payers price ≡ price → paid_by k payers price i ≡ 0
  part_none i l e = omega (arith, sum_to_entry k i (paid_by k payers price) l, parts_whole (has payers) k price)
