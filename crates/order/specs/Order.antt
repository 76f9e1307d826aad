-- The order of the subsets (document 01, "Subsets"): by size, then by number.
-- Assumes nothing.
use Rattle.std.specs.Prelude.{ℕ, suc, ◌^◌, List, eqb, get_or}
use Rattle.std.specs.Int.Count.{ones}
use Rattle.limits.specs.Limits.{max_terminals}
use Rattle.lists.specs.Joined.{joined}
use Rattle.lists.specs.Numbers.{numbers}
use Rattle.lists.specs.Select.{select}

-- the numbers below n of size s, rising
unfoldable pub of_size : (ℕ → ℕ) → ℕ → ℕ → List ℕ
of_size size n s = select (λ w. eqb (size w) s) (numbers 0 n)

-- the sets of k stations: for each size 0 to k, the numbers below 2^k of that size, rising
unfoldable pub order_by : (ℕ → ℕ) → ℕ → List ℕ
order_by size k = joined (of_size size (2 ^ k)) (numbers 0 (suc k))

-- the order: the size is the number of ones
unfoldable pub order : List ℕ
order = order_by ones max_terminals

-- the subset at a position of the order
unfoldable pub in_order : ℕ → ℕ
in_order i = get_or order i 0
