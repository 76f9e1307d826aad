-- The shares of the stations in a plan with root r and the listed legs L (document 02, W-204): where a station sits, which stations sit at or below a
-- site, each one's part of a price, a station's share, and the unassigned sum.
-- Assumes nothing.
use Rattle.std.specs.Prelude.{ℕ, ◌+◌, ◌/◌, ◌%◌, Bool, false, cond, ◌&&◌, List, map, eqb, ltb}
use Rattle.std.proofs.Math.Option.{Option, none, some}
use Rattle.lists.specs.Count.{bit}
use Rattle.lists.specs.Listed.{listed}
use Rattle.lists.specs.Find.{first}
use Rattle.lists.specs.Numbers.{numbers}
use Rattle.lists.specs.Sums.{sum_by, sum_to}
use Rattle.subset.specs.Sets.{has}
use Rattle.graph.specs.Graph.{Graph}
use Rattle.graph.specs.Paths.{is_reached}
use Rattle.graph.specs.Subtrees.{held}

-- ---- one price

-- how many of the terminals below i pay, where `pays j` says whether terminal j does
abbrev pub payers_to : (pays : ℕ → Bool) → ℕ → ℕ
payers_to pays i = sum_to i (λ j. bit (pays j))

-- what terminal i pays of a price that m terminals pay: "Each of m stations pays the quotient by m, and the lowest stations pay one cent more until
-- the remainder is used": as many of the lowest as the remainder says
abbrev pub part_of : (pays : ℕ → Bool) → (m price i : ℕ) → ℕ
part_of pays m price i = cond (pays i) (price / m + bit (ltb (payers_to pays i) (price % m))) 0

-- what nobody pays of it: all, where no terminal pays
abbrev pub unpaid_of : (m price : ℕ) → ℕ
unpaid_of m price = cond (eqb m 0) price 0

-- ---- a plan

module _ (G : Graph) (r : ℕ) (L : List ℕ) where
  -- "A station sits at its lowest-numbered landing in a sending plan": the lowest of the nodes that the plan holds and that are landings of terminal i
  abbrev pub seat : ℕ → Option ℕ
  seat i = first (λ v. listed v (held G r L) && has (G.landings v) i) G.nodes

  -- a seat is at or below v: a directed path of listed legs leads there from v, which with no leg leads to v itself
  abbrev pub is_below : ℕ → Option ℕ → Bool
  is_below v none = false
  is_below v (some u) = is_reached G L v u

  -- terminal i is one of "the stations sitting at or below" node v
  abbrev pub sits_below : (v i : ℕ) → Bool
  sits_below v i = is_below v (seat i)

  -- how many these are
  abbrev pub payers_at : ℕ → ℕ
  payers_at v = payers_to (sits_below v) G.terminals

  -- a price "is split over the stations sitting at or below" node v: what terminal i pays of it, and what nobody pays
  abbrev pub part_at : (v price i : ℕ) → ℕ
  part_at v price i = part_of (sits_below v) (payers_at v) price i

  abbrev pub unpaid_at : (v price : ℕ) → ℕ
  unpaid_at v price = unpaid_of (payers_at v) price

  -- the share of terminal i: "A leg's price is split over the stations sitting at or below its end"
  abbrev pub share_of : ℕ → ℕ
  share_of i = sum_by (λ e. part_at (G.end e) (G.weight e) i) L

  -- the shares of all terminals
  abbrev pub shares_of : List ℕ
  shares_of = map share_of (numbers 0 G.terminals)

  -- "A leg serving no station goes to an unassigned sum"
  abbrev pub unassigned : ℕ
  unassigned = sum_by (λ e. unpaid_at (G.end e) (G.weight e)) L
