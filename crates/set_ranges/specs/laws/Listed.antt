-- The sets of k stations in their order, as the index of their numbers by their size; and what the order has, for the ranges of one size.
-- Assumes nothing.
use Rattle.std.specs.Prelude.{ℕ, ◌+◌, ◌^◌, ◌≤◌, ◌<◌, ◌≡◌, ◌≢◌, ◌⊎◌, List, ◌++◌, map, length, get_or, take, drop}
use Rattle.std.proofs.Common.{sym, ap, ap₂, ◌∙◌, subst₂, inl, inr, zero-add, add-one, arith, pow_mono, length-take-le, get_or-take}
use Rattle.std.proofs.Math.Decide.{dec_lt}
use Rattle.std.specs.Int.Count.{ones}
use Rattle.std.proofs.lemmas.Nat.{ones-le}
use Rattle.std.proofs.Math.ListN.{get_or-append}
use Rattle.std.proofs.Math.Seq.{take-append_seam}
use Rattle.limits.specs.Limits.{max_terminals, max_subsets}
use Rattle.lists.specs.Numbers.{numbers, length_values, get_d_values}
use Rattle.lists.specs.Over.{over, relent_length}
use Rattle.arc_index.specs.Index.{by_end}
use Rattle.order.specs.Order.{order_by}
use Rattle.order.proofs.laws.BySize.{same_order_by}
use Rattle.subset_at.specs.laws.Indexed.{order_index}
use Rattle.subset_at.specs.laws.Counts.{how_many}
use Rattle.subset_at.specs.laws.Sizes.{RangeAt, next_place, place_in, size_here, size_behind}
use Rattle.subset_at.specs.laws.Stations.{set_at, length_sets, set_below, sizes_rise, set_position, one_set_position}
use Rattle.order_ranges.specs.laws.Ranges.{Ordered, SizeEnd, entry_of}

-- ---- the sizes

-- there are at most 1,024 sets
pub few_sets : (k : ℕ) {m : ℕ} → k ≤ max_terminals → m ≡ 2 ^ k → m ≤ max_subsets
few_sets k few is = omega (arith, pow_mono {j = max_terminals} few)

-- as many entries of a table
pub few_sizes : (k m : ℕ) (old : List ℕ) → k ≤ max_terminals → m ≡ 2 ^ k → length old ≡ max_subsets → length (take m old) ≤ max_subsets
few_sizes k m old few is long = let fits = few_sets k few is in omega (arith, length-take-le m old (omega arith))

-- the sizes of m sets, written as the first entries of a table
size_at : (m : ℕ) (old new : List ℕ) → m ≤ length old → new ≡ map ones (numbers 0 (length (take m old))) → (w : ℕ) → w < m
    → get_or (new ++ drop m old) w 0 ≡ ones w
size_at m old new long written w l =
    let n : ℕ = length (take m old) in
    let few : w < n = omega (arith, length-take-le m old long) in
    get_or-append new (drop m old) 0 w (omega (arith, ap length written, length_values ones 0 n))
    ∙ ap (λ (t : List ℕ). get_or t w 0) written ∙ get_d_values ones 0 n w 0 few ∙ ap ones (zero-add w)

-- what is asked of an index by size: the size of a set of k stations is below k + 1
pub index_asked : (k m : ℕ) (old new sets : List ℕ) → k ≤ max_terminals → m ≡ 2 ^ k → length old ≡ max_subsets → length new ≡ length (take m old)
    → new ≡ map ones (numbers 0 (length (take m old))) → 2 ^ k ≤ length sets
    → (m ≤ length (new ++ drop m old)) × ((w : ℕ) → w < m → get_or (new ++ drop m old) w 0 < k + 1) × (m ≤ length sets) × (k + 1 + 1 ≤ max_terminals + 2)
index_asked k m old new sets few is long so_many written wide =
    let fits = few_sets k few is in (
      omega (arith, relent_length m old new so_many long fits),
      λ w l. omega (arith, size_at m old new (omega arith) written w l, ones-le k w (omega arith)),
      omega arith,
      omega arith,
    )

-- ---- the index by size

-- indexed by what is their size, the numbers below 2^k stand in their order
index_order : (k m : ℕ) (sizes : List ℕ) → m ≡ 2 ^ k → ((w : ℕ) → w < m → get_or sizes w 0 ≡ ones w)
    → by_end (k + 1) m (λ w. get_or (take m sizes) w 0) ≡ order_by ones k
index_order k m sizes is sized =
    let size : ℕ → ℕ = λ w. get_or (take m sizes) w 0 in
    ap₂ (λ (n j : ℕ). by_end n j size) (add-one k) is
    ∙ sym (order_index size k)
    ∙ same_order_by size ones k (λ w l. get_or-take m sizes w 0 (omega arith) ∙ sized w (omega arith))

-- so what is indexed by the sizes that are written is the order
pub sets_listed : (k m : ℕ) (old new sets : List ℕ) {after : List ℕ} → k ≤ max_terminals → m ≡ 2 ^ k → length old ≡ max_subsets
    → new ≡ map ones (numbers 0 (length (take m old))) → after ≡ over (by_end (k + 1) m (λ w. get_or (take m (new ++ drop m old)) w 0)) sets
    → after ≡ over (order_by ones k) sets
sets_listed k m old new sets few is long written indexed =
    let fits = few_sets k few is in
    indexed ∙ ap (λ (l : List ℕ). over l sets) (index_order k m (new ++ drop m old) is (size_at m old new (omega arith) written))

-- ---- what the order has

ordered : (k : ℕ) → Ordered (entry_of (order_by ones k)) (2 ^ k) (2 ^ k)
ordered k = record {
  rises = sizes_rise k;
  apart = λ i j lt l e. let same = one_set_position k i j (omega arith) l e in omega arith;
  below = set_below k;
  found = set_position k;
}

-- the positions of one size, from one of them on
pub size_end : {k i s f l : ℕ} → RangeAt k i s f l → SizeEnd (set_at k) (2 ^ k) i l
size_end {k} {i} {s} {l = l} R = record {
  rising = R.high;
  range = record {
    rising = omega (arith, R.high);
    bound = omega (arith, R.to, place_in k (s + 1));
    same = λ a b af al bf bl. here a af al ∙ sym (here b bf bl);
  };
  ends = go (dec_lt l (2 ^ k));
}
  where
    here : (a : ℕ) → i ≤ a → a < l → ones (set_at k a) ≡ s
    here a low high = size_here k s a (omega (arith, R.from, R.low)) (omega (arith, R.to))

    go : Dec (l < 2 ^ k) → (l ≡ 2 ^ k) ⊎ (ones (set_at k l) ≢ ones (set_at k i))
    go (yes on) = inr (λ e.
        let some : 0 < how_many k s = omega (arith, R.from, R.to, R.low, R.high, next_place k s) in
        let behind = size_behind k s some (omega (arith, R.to)) in
        omega (arith, ap (λ (x : ℕ). ones (set_at k x)) R.to, here i (omega arith) R.high))
    go (no past) = inl (omega (arith, R.to, place_in k (s + 1)))

-- ---- in a table

-- the first entries of a table that begins with the order
pub listed_first : (k m : ℕ) (old : List ℕ) {sets : List ℕ} → m ≡ 2 ^ k → sets ≡ over (order_by ones k) old → take m sets ≡ order_by ones k
listed_first k m old is listed = ap₂ take (is ∙ sym (length_sets k)) listed ∙ take-append_seam (order_by ones k) (drop (length (order_by ones k)) old)

module _ (k : ℕ) {sets : List ℕ} (is : sets ≡ order_by ones k) where
  pub length_is : length sets ≡ 2 ^ k
  length_is = ap length is ∙ length_sets k

  pub ordered_in : Ordered (entry_of sets) (length sets) (2 ^ k)
  ordered_in = subst₂ (λ (l : List ℕ) (m : ℕ). Ordered (entry_of l) m (2 ^ k)) (sym is) (sym length_is) (ordered k)

  pub end_in : {first last : ℕ} → SizeEnd (set_at k) (2 ^ k) first last → SizeEnd (entry_of sets) (length sets) first last
  end_in {first} {last} E = subst₂ (λ (l : List ℕ) (m : ℕ). SizeEnd (entry_of l) m first last) (sym is) (sym length_is) E
