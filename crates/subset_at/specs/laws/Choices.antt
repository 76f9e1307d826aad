-- A set whose stations are chosen from the highest one on, as the code does: what is left to choose at each station, and what it begins with.
-- Assumes nothing.
use Rattle.std.specs.Prelude.{ℕ, suc, ◌+◌, ◌-◌, ◌*◌, ◌/◌, ◌^◌, ◌≤◌, ◌<◌, ◌≡◌, length}
use Rattle.std.proofs.Common.{sym, ap₂, ◌∙◌, mul-le-mul, pow_mono}
use Rattle.std.proofs.Math.Path.{ap}
use native.Mathlib.Omega.{arith}
use Rattle.limits.specs.Limits.{max_terminals, max_subsets}
use Rattle.subset_at.specs.declared.Choice.{Choice}
use Rattle.order.specs.Order.{order, in_order}
use Rattle.subset_at.specs.laws.Stations.{set_at}
use Rattle.subset_at.specs.laws.Counts.{how_many, with_highest, counts_more, highest_count, with_count}
use Rattle.subset_at.specs.laws.Positions.{set_of, set_without, set_with, set_none}
use Rattle.subset_at.specs.laws.Sizes.{RangeAt, size_place, next_place, place_in, count_le, size_le, at_size}

-- s of the h lowest stations are to be chosen: n counts the ways, and b of them stand before one of them
pub record Ways (h s n b : ℕ) : Type 0 where
  pub few : h ≤ max_terminals
  pub counted : n ≡ how_many h s
  pub within : b < n

abbrev pub Open : Choice → Type 0
Open c = Ways c.stations c.size c.count c.before

-- the set that is looked for: what is chosen, and the way that is left
abbrev pub wanted : Choice → ℕ
wanted c = c.chosen + set_of c.stations c.size c.before

-- ---- one station

module _ {h s n b : ℕ} (W : Ways h s n b) where
  -- the products and the counts are small
  pub few_ways : n ≤ max_subsets
  few_ways = omega (arith, W.counted, count_le h s, pow_mono {j = max_terminals} W.few)

  pub small_size : s ≤ max_terminals
  small_size = omega (arith, size_le h s (omega (arith, W.counted, W.within, next_place h s, place_in h (s + 1))), W.few)

  pub product_le : n * s ≤ max_subsets * max_terminals
  product_le = mul-le-mul few_ways small_size

  module _ (some : 0 < h) where
    is : h ≡ suc (h - 1)
    is = omega arith

    with_is : n * s / h ≡ length (with_highest (h - 1) s)
    with_is = ap₂ (λ (x y : ℕ). x * s / y) (W.counted ∙ ap (λ (x : ℕ). how_many x s) is) is ∙ with_count (h - 1) s

    all_ways : n ≡ how_many (h - 1) s + n * s / h
    all_ways = omega (arith, W.counted, ap (λ (x : ℕ). how_many x s) is, counts_more (h - 1) s, with_is)

    pub with_le : n * s / h ≤ n
    with_le = omega (arith, all_ways)

    -- the ways without the highest station stand first
    module _ (first : b < n - n * s / h) where
      pub ways_without : Ways (h - 1) s (n - n * s / h) b
      ways_without = record { few = omega (arith, W.few); counted = omega (arith, all_ways); within = first }

      pub same_without : set_of (h - 1) s b ≡ set_of h s b
      same_without = sym (ap (λ (x : ℕ). set_of x s b) is ∙ set_without (h - 1) s b (omega (arith, all_ways)))

    -- and then those with it
    module _ (later : n - n * s / h ≤ b) where
      abbrev rest : ℕ
      rest = b - (n - n * s / h)

      later_set : (0 < s) × (set_of (suc (h - 1)) s (how_many (h - 1) s + rest) ≡ 2 ^ (h - 1) + set_of (h - 1) (s - 1) rest)
      later_set = set_with (h - 1) s rest (omega (arith, all_ways, with_is, W.within))

      pub size_some : 0 < s
      size_some = later_set.0

      pub same_with : set_of h s b ≡ 2 ^ (h - 1) + set_of (h - 1) (s - 1) rest
      same_with =
          let e : b ≡ how_many (h - 1) s + rest = omega (arith, all_ways) in
          ap₂ (λ (x y : ℕ). set_of x s y) is e ∙ later_set.1

      pub ways_with : Ways (h - 1) (s - 1) (n * s / h) rest
      ways_with = record { few = omega (arith, W.few); counted = with_is ∙ highest_count (h - 1) s size_some; within = omega (arith, all_ways, W.within) }

-- no station is left: the set is chosen
pub all_chosen : (h s b chosen : ℕ) → h ≡ 0 → chosen + set_of h s b ≡ chosen
all_chosen h s b chosen none = omega (arith, ap (λ (x : ℕ). set_of x s b) none, set_none s b)

-- ---- the first choice

-- nothing is chosen yet: the sets of the size of the one at a position, of ten stations
module _ {i s f l : ℕ} (R : RangeAt max_terminals i s f l) where
  count_is : l - f ≡ how_many max_terminals s
  count_is = omega (arith, R.from, R.to, next_place max_terminals s)

  pub first_ways : Ways max_terminals s (l - f) (i - f)
  first_ways = record { few = omega arith; counted = count_is; within = omega (arith, R.low, R.high) }

  pub first_set : 0 + set_of max_terminals s (i - f) ≡ in_order i
  unfolding in_order order
  first_set =
      let e : size_place max_terminals s + (i - f) ≡ i = omega (arith, R.from, R.low) in
      omega (
        arith,
        at_size max_terminals s (i - f) (omega (arith, count_is, R.low, R.high)),
        ap (set_at max_terminals) e,
      )
