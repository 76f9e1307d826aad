-- The cheapest sender of a set in a list of cells for k terminals: of the senders whose cell of the set is least, the lowest.
-- Assumes nothing.
use Rattle.std.specs.Prelude.{ℕ, ◌^◌, Bool, true, cond, List}
use Rattle.limits.specs.Limits.{no_cost}
use Rattle.lists.specs.Cheapest.{LowestCheapest}
use Rattle.landing_entries.specs.Entries.{is_sender_at}
use Rattle.cost_table.specs.Cells.{cell_in}

-- the cells of the set w, by node
abbrev pub column_in : List ℕ → (k w : ℕ) → ℕ → ℕ
column_in cells k w v = cell_in cells (2 ^ k) v w

-- the cost of a sender; any other node has "none"
abbrev pub of_senders : (ℕ → Bool) → (ℕ → ℕ) → ℕ → ℕ
of_senders is_sender c v = cond (is_sender v) (c v) no_cost

-- the cells of the set w, of the senders by the landing entries
abbrev pub sender_column : (cells landings : List ℕ) → (k w : ℕ) → ℕ → ℕ
sender_column cells landings k w = of_senders (is_sender_at landings) (column_in cells k w)

-- r is the lowest of the numbers below n at which f is least: every number passes
abbrev pub LowestTo : (ℕ → ℕ) → (n r : ℕ) → Type 0
LowestTo f n r = LowestCheapest (λ _. true) f n r
