-- Where the sets of each size stand: behind those of the smaller sizes, so that the place of a size is the sum of the counts before it.
-- Assumes nothing.
use Rattle.std.specs.Prelude.{ℕ, suc, ◌+◌, ◌-◌, ◌*◌, ◌/◌, ◌^◌, ◌≤◌, ◌<◌, ◌≡◌, refl}
use Rattle.std.proofs.Common.{sym, ap₂, ◌∙◌, mul-le-mul, add-one, arith, pow_mono}
use Rattle.std.proofs.Math.Path.{ap}
use mathlib.Core.List.{List}
use Rattle.std.proofs.Math.ListN.{get_or}
use Rattle.std.specs.Int.Count.{ones}
use Rattle.std.proofs.lemmas.Nat.{ones-le}
use Rattle.limits.specs.Limits.{max_terminals, max_subsets}
use Rattle.arc_index.specs.Index.{place_of}
use Rattle.arc_index.proofs.laws.Places.{place_more, place_rises, place_le, last_place}
use Rattle.arc_index.proofs.laws.ByEnd.{group_entry, group_ends}
use Rattle.order.specs.Order.{of_size}
use Rattle.subset_at.specs.laws.Indexed.{order_index}
use Rattle.subset_at.specs.laws.Stations.{set_at}
use Rattle.subset_at.specs.laws.Counts.{how_many, one_empty, next_count, some_larger}
use Rattle.subset_at.specs.laws.Positions.{set_of}

-- the place of the sets of s of k stations
abbrev pub size_place : (k s : ℕ) → ℕ
size_place k s = place_of (2 ^ k) ones s

module _ (k : ℕ) where
  place_next : (s : ℕ) → size_place k (suc s) ≡ size_place k s + how_many k s
  unfolding of_size
  place_next s = place_more (2 ^ k) ones s

  pub next_place : (s : ℕ) → size_place k (s + 1) ≡ size_place k s + how_many k s
  next_place s = ap (size_place k) (add-one s) ∙ place_next s

  place_last : size_place k (suc k) ≡ 2 ^ k
  place_last = last_place (2 ^ k) ones (suc k) (λ w l. omega (arith, ones-le k w l))

  -- no place is behind the last
  pub place_in : (s : ℕ) → size_place k s ≤ 2 ^ k
  place_in s = place_le (2 ^ k) ones s

  -- there are no more sets of one size than of all
  pub count_le : (s : ℕ) → how_many k s ≤ 2 ^ k
  count_le s = omega (arith, place_next s, place_in (suc s))

  -- a place that is not the last is that of a size that sets have
  pub size_le : (s : ℕ) → size_place k s < 2 ^ k → s ≤ k
  size_le s l =
      let high : suc k ≤ s → ⊥ = λ h. omega (arith, place_rises (2 ^ k) ones (suc k) s h, place_last) in
      omega arith

  -- entry b of the sets of size s
  pub at_size : (s b : ℕ) → b < how_many k s → set_at k (size_place k s + b) ≡ set_of k s b
  unfolding of_size
  at_size s b here =
      ap (λ (o : List ℕ). get_or o (size_place k s + b) 0) (order_index ones k)
      ∙ group_entry (2 ^ k) ones (suc k) s b (omega (arith, size_le s (omega (arith, place_next s, place_in (suc s))))) here

  -- the sets from the place of a size up to the next have that size
  pub size_here : (s i : ℕ) → size_place k s ≤ i → i < size_place k (s + 1) → ones (set_at k i) ≡ s
  size_here s i low high =
      ap (λ (o : List ℕ). ones (get_or o i 0)) (order_index ones k)
      ∙ (group_ends (2 ^ k) ones (suc k) s (omega (arith, size_le s (omega (arith, place_in (s + 1))))) i low high).1

  -- where they end, and the order does not, stands a set of one station more
  pub size_behind : (s : ℕ) → 0 < how_many k s → size_place k (s + 1) < 2 ^ k → ones (set_at k (size_place k (s + 1))) ≡ s + 1
  size_behind s some on =
      let more : s < k = omega (arith, size_le (s + 1) on) in
      let larger : 0 < how_many k (s + 1) = omega (arith, ap (how_many k) (add-one s), some_larger k s more some) in
      size_here (s + 1) (size_place k (s + 1)) (omega arith) (omega (arith, next_place (s + 1)))

-- position i is among those of the sets of s of k stations, which stand from f up to l
pub record RangeAt (k i s f l : ℕ) : Type 0 where
  pub from : f ≡ size_place k s
  pub to : l ≡ size_place k (s + 1)
  pub low : f ≤ i
  pub high : i < l

-- ---- from size to size

-- position i is at or behind f, the place of the sets of s of k stations, of which there are n
pub record SizeFrom (k i s f n : ℕ) : Type 0 where
  pub few : k ≤ max_terminals
  pub on : i < 2 ^ k
  pub from : f ≡ size_place k s
  pub counted : n ≡ how_many k s
  pub low : f ≤ i

pub first_size : {k i : ℕ} → k ≤ max_terminals → i < 2 ^ k → SizeFrom k i 0 0 1
first_size {k} few on = record { few = few; on = on; from = refl; counted = sym (one_empty k); low = omega arith }

module _ {k i s f n : ℕ} (F : SizeFrom k i s f n) where
  pub in_stations : s ≤ k
  in_stations = size_le k s (omega (arith, F.from, F.low, F.on))

  last_is : f + n ≡ size_place k (s + 1)
  last_is = omega (arith, F.from, F.counted, next_place k s)

  pub last_small : f + n ≤ max_subsets
  last_small = omega (arith, last_is, place_in k (s + 1), pow_mono {j = max_terminals} F.few)

  pub size_product : n * (k - s) ≤ max_subsets * max_terminals
  size_product =
      let few : n ≤ max_subsets = omega (arith, last_small) in
      let rest : k - s ≤ max_terminals = omega (arith, F.few) in
      mul-le-mul few rest

  -- it is behind the sets of this size
  pub next_size : n ≤ i - f → SizeFrom k i (s + 1) (f + n) (n * (k - s) / (s + 1))
  next_size past = record {
    few = F.few;
    on = F.on;
    from = last_is;
    counted =
        ap₂ (λ (x y : ℕ). x * (k - s) / y) F.counted (add-one s) ∙ next_count k s (k - s) (omega (arith, in_stations))
        ∙ ap (how_many k) (sym (add-one s));
    low = omega (arith, F.low);
  }

  -- it is one of them
  pub size_found : i - f < n → RangeAt k i s f (f + n)
  size_found here = record { from = F.from; to = last_is; low = F.low; high = omega (arith, F.low) }
