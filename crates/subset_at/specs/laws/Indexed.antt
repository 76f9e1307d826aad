-- The order of the sets of k stations is an index of these numbers by their size.
-- Assumes nothing.
use Rattle.std.specs.Prelude.{ℕ, suc, ◌^◌, ◌≡◌, refl}
use Rattle.arc_index.specs.Index.{by_end}
use Rattle.order.specs.Order.{of_size, order_by}

pub order_index : (size : ℕ → ℕ) (k : ℕ) → order_by size k ≡ by_end (suc k) (2 ^ k) size
unfolding order_by of_size
order_index size k = refl
