-- What the splitting of prices asks and gives: one price over a set of stations, and the prices of the first records' legs, each over the set of
-- stations that a table has for the leg's end.
-- Assumes nothing.
use Rattle.std.specs.Prelude.{ℕ, ◌+◌, ◌^◌, ◌≤◌, ◌<◌, ◌≡◌, cond, List, ltb, length, get_or, set}
use Rattle.limits.specs.Limits.{max_terminals, no_cost}
use Rattle.lists.specs.Count.{bit}
use Rattle.lists.specs.Sums.{sum_to}
use Rattle.subset.specs.Sets.{has}
use Rattle.planfile.specs.Format.{listed_arc}
use Rattle.plan_shares.specs.Shares.{payers_to, part_of, unpaid_of}

-- ---- one station's part

-- what a payer pays of a price with this quotient and this remainder, where so many payers are lower stations
abbrev pub payer_part : (quotient remainder lower : ℕ) → ℕ
payer_part quotient remainder lower = quotient + bit (ltb lower remainder)

-- what terminal i pays of it, where the set has the payers
abbrev pub part_in : (payers quotient remainder lower i : ℕ) → ℕ
part_in payers quotient remainder lower i = cond (has payers i) (payer_part quotient remainder lower) 0

-- it is paid: added to terminal i's share; and how many payers there are up to terminal i
pub record PaidAt (payers quotient remainder lower i : ℕ) (before after : List ℕ) (upto : ℕ) : Type 0 where
  pub shares : after ≡ set before i (get_or before i 0 + part_in payers quotient remainder lower i)
  pub counted : upto ≡ bit (has payers i) + lower

-- ---- one price

-- each share and the price together are a cost
abbrev pub RoomFor : ℕ → List ℕ → Type 0
RoomFor price shares = (i : ℕ) → i < length shares → get_or shares i 0 + price ≤ no_cost

-- what terminal i of k pays of a price, where the set has the payers; and what nobody pays
abbrev pub paid_by : (k payers price i : ℕ) → ℕ
paid_by k payers price i = part_of (has payers) (payers_to (has payers) k) price i

abbrev pub paid_by_none : (k payers price : ℕ) → ℕ
paid_by_none k payers price = unpaid_of (payers_to (has payers) k) price

-- the price is split over the payers
pub record SplitInto (price payers : ℕ) (before after : List ℕ) (rest : ℕ) : Type 0 where
  pub size : length after ≡ length before
  pub paid : (i : ℕ) → i < length before → get_or after i 0 ≡ get_or before i 0 + paid_by (length before) payers price i
  pub unpaid : rest ≡ paid_by_none (length before) payers price

-- ---- one arc's weight

-- arc e is in the tables, the payers are terminals that have shares, and each share has room for the weight
pub record ArcReady (e : ℕ) (ends weights served shares : List ℕ) : Type 0 where
  pub in_ends : e < length ends
  pub in_weights : e < length weights
  pub in_served : get_or ends e 0 < length served
  pub few : length shares ≤ max_terminals
  pub payers : get_or served (get_or ends e 0) 0 < 2 ^ length shares
  pub room : RoomFor (get_or weights e 0) shares

-- its weight is split over the set that the table has for its end
abbrev pub ArcSplit : (e : ℕ) → (ends weights served before after : List ℕ) → (rest : ℕ) → Type 0
ArcSplit e ends weights served before after rest = SplitInto (get_or weights e 0) (get_or served (get_or ends e 0) 0) before after rest

-- ---- the listed arcs

-- the weight of record j's arc, and the set that the table has for its end
abbrev pub weight_at : (file weights : List ℕ) → ℕ → ℕ
weight_at file weights j = get_or weights (listed_arc file j) 0

abbrev pub set_at : (file ends served : List ℕ) → ℕ → ℕ
set_at file ends served j = get_or served (get_or ends (listed_arc file j) 0) 0

-- the first records' arcs are in the tables, the sets are sets of k terminals, and the weights together are a cost
pub record ListedReady (file : List ℕ) (count : ℕ) (ends weights served : List ℕ) (k : ℕ) : Type 0 where
  pub few : k ≤ max_terminals
  pub in_ends : (j : ℕ) → j < count → listed_arc file j < length ends
  pub in_weights : (j : ℕ) → j < count → listed_arc file j < length weights
  pub in_served : (j : ℕ) → j < count → get_or ends (listed_arc file j) 0 < length served
  pub sets : (j : ℕ) → j < count → set_at file ends served j < 2 ^ k
  pub low : sum_to count (weight_at file weights) ≤ no_cost

-- the shares of k terminals after the first records, and what nobody pays of them
pub record ListedSplit (file : List ℕ) (count : ℕ) (ends weights served : List ℕ) (k : ℕ) (shares : List ℕ) (rest : ℕ) : Type 0 where
  pub size : length shares ≡ k
  pub paid : (i : ℕ) → i < k → get_or shares i 0 ≡ sum_to count (λ j. paid_by k (set_at file ends served j) (weight_at file weights j) i)
  pub unpaid : rest ≡ sum_to count (λ j. paid_by_none k (set_at file ends served j) (weight_at file weights j))
