-- The sets below a number, kept in their order from the table of all sets: each set is written behind those that are kept.
-- Assumes nothing.
use Rattle.std.specs.Prelude.{ℕ, ◌+◌, ◌≤◌, ◌<◌, ◌≡◌, ◌≢◌, ◌⊎◌, List, map, length, set}
use Rattle.std.proofs.Common.{sym, ap, ◌∙◌, subst, inl, inr, zero-add, arith}
use Rattle.std.proofs.Math.Path.{subst₂}
use Rattle.std.proofs.Math.Decide.{ℕ_discrete}
use Rattle.std.specs.Int.Count.{ones}
use Rattle.std.proofs.Math.ListN.{length-set}
use Rattle.std.proofs.Math.Seq.{get_or-set_same, get_or-set_other}
use Rattle.limits.specs.Limits.{max_subsets}
use Rattle.lists.specs.Numbers.{numbers, length_values, get_d_values}
use Rattle.order.specs.Order.{in_order}
use Rattle.order.proofs.laws.Rule.{never_falls, position, one_position}
use Rattle.order_ranges.specs.laws.Ranges.{Ordered, entry_of}

-- the position of the order at which a kept entry stood
pub record Stood (sets : List ℕ) (size p i : ℕ) : Type 0 where
  pub place : ℕ
  pub earlier : place < p
  pub same : entry_of sets i ≡ in_order place
  pub below : entry_of sets i < size

-- of the first p sets those below `size` are kept, `count` of them; the sets from p on are where they stood
pub record Kept (size p count : ℕ) (sets : List ℕ) : Type 0 where
  pub long : length sets ≡ max_subsets
  pub few : count ≤ p
  pub bound : p ≤ max_subsets
  pub rest : (i : ℕ) → p ≤ i → i < max_subsets → entry_of sets i ≡ in_order i
  pub stood : (i : ℕ) → i < count → Stood sets size p i
  pub rises : (i j : ℕ) → i ≤ j → j < count → ones (entry_of sets i) ≤ ones (entry_of sets j)
  pub apart : (i j : ℕ) → i < j → j < count → entry_of sets i ≢ entry_of sets j
  pub found : (q : ℕ) → q < p → in_order q < size → (i : ℕ) × (i < count) × (entry_of sets i ≡ in_order q)

pub kept_none : {size : ℕ} {sets : List ℕ} → sets ≡ map in_order (numbers 0 max_subsets) → Kept size 0 0 sets
kept_none {size} {sets} is = record {
  long = ap length is ∙ length_values in_order 0 max_subsets;
  few = omega arith;
  bound = omega arith;
  rest = λ i _ l. ap (λ (s : List ℕ). entry_of s i) is ∙ get_d_values in_order 0 max_subsets i 0 l ∙ ap in_order (zero-add i);
  stood = λ i l. absurd (omega arith);
  rises = λ i j _ l. absurd (omega arith);
  apart = λ i j _ l. absurd (omega arith);
  found = λ q l _. absurd (omega arith);
}

module _ {size p count : ℕ} {sets : List ℕ} (K : Kept size p count sets) (on : p < max_subsets) where
  after : List ℕ
  after = set sets count (entry_of sets p)

  is : entry_of sets p ≡ in_order p
  is = K.rest p (omega arith) on

  old : (i : ℕ) → i ≢ count → entry_of after i ≡ entry_of sets i
  unfolding after
  old i ne = get_or-set_other sets count i (entry_of sets p) 0 ne

  new : entry_of after count ≡ in_order p
  unfolding after
  new = get_or-set_same sets count (entry_of sets p) 0 (omega (arith, K.few, K.long)) ∙ is

  after_length : length after ≡ max_subsets
  unfolding after
  after_length = length-set sets count (entry_of sets p) ∙ K.long

  after_rest : (i : ℕ) → p + 1 ≤ i → i < max_subsets → entry_of after i ≡ in_order i
  after_rest i l b = old i (λ e. omega (arith, K.few)) ∙ K.rest i (omega arith) b

  after_stood : (i : ℕ) → i < count → Stood after size (p + 1) i
  after_stood i l =
      let s = K.stood i l in
      let same = old i (λ e. omega arith) in
      record { place = s.place; earlier = omega (arith, s.earlier); same = same ∙ s.same; below = omega (arith, s.below) }

  -- the set is not below `size`: it is not kept
  passed : size ≤ entry_of sets p → Kept size (p + 1) count after
  passed large = record {
    long = after_length;
    few = omega (arith, K.few);
    bound = omega arith;
    rest = after_rest;
    stood = after_stood;
    rises = λ i j le l. omega (arith, K.rises i j le l, ap ones (old i (λ e. omega arith)), ap ones (old j (λ e. omega arith)));
    apart = λ i j lt l e. K.apart i j lt l (sym (old i (λ z. omega arith)) ∙ e ∙ old j (λ z. omega arith));
    found = λ q l small. go q l small (ℕ_discrete q p);
  }
    where
      go : (q : ℕ) → q < p + 1 → in_order q < size → Dec (q ≡ p) → (i : ℕ) × (i < count) × (entry_of after i ≡ in_order q)
      go q l small (yes e) = absurd (omega (arith, ap in_order e, is))
      go q l small (no ne) = let (i, li, s) = K.found q (omega arith) small in (i, li, old i (λ e. omega arith) ∙ s)

  -- it is: it is kept
  taken : entry_of sets p < size → Kept size (p + 1) (count + 1) after
  taken small = record {
    long = after_length;
    few = omega (arith, K.few);
    bound = omega arith;
    rest = after_rest;
    stood = λ i l. stands i l (ℕ_discrete i count);
    rises = λ i j le l. rising i j le l (ℕ_discrete i count) (ℕ_discrete j count);
    apart = λ i j lt l e. differ i j lt l e (ℕ_discrete j count);
    found = λ q l sm. go q l sm (ℕ_discrete q p);
  }
    where
      stands : (i : ℕ) → i < count + 1 → Dec (i ≡ count) → Stood after size (p + 1) i
      stands i l (yes e) =
          subst (Stood after size (p + 1)) (sym e)
          (record { place = p; earlier = omega arith; same = new; below = omega (arith, new, is) })
      stands i l (no ne) = after_stood i (omega arith)

      rising : (i j : ℕ) → i ≤ j → j < count + 1 → Dec (i ≡ count) → Dec (j ≡ count) → ones (entry_of after i) ≤ ones (entry_of after j)
      rising i j le l d (no ne) =
          omega (arith, K.rises i j le (omega arith), ap ones (old i (λ e. omega arith)), ap ones (old j (λ e. omega arith)))
      rising i j le l (yes d) (yes e) = omega (arith, ap (λ (x : ℕ). ones (entry_of after x)) d, ap (λ (x : ℕ). ones (entry_of after x)) e)
      rising i j le l (no d) (yes e) =
          let s = after_stood i (omega arith) in
          omega (
            arith,
            ap ones s.same,
            never_falls s.place p (omega (arith, s.earlier)) on,
            ap ones new,
            ap (λ (x : ℕ). ones (entry_of after x)) e,
          )

      differ : (i j : ℕ) → i < j → j < count + 1 → entry_of after i ≡ entry_of after j → Dec (j ≡ count) → ⊥
      differ i j lt l e (no ne) = K.apart i j lt (omega arith) (sym (old i (λ z. omega arith)) ∙ e ∙ old j (λ z. omega arith))
      differ i j lt l e (yes q) =
          let s = K.stood i (omega arith) in
          let here = sym s.same ∙ sym (old i (λ z. omega arith)) ∙ e ∙ ap (entry_of after) q ∙ new in
          let z = one_position s.place p (omega (arith, s.earlier)) on here in
          omega (arith, s.earlier)

      go : (q : ℕ) → q < p + 1 → in_order q < size → Dec (q ≡ p) → (i : ℕ) × (i < count + 1) × (entry_of after i ≡ in_order q)
      go q l sm (yes e) = (count, omega arith, new ∙ ap in_order (sym e))
      go q l sm (no ne) = let (i, li, s) = K.found q (omega arith) sm in (i, omega arith, old i (λ e. omega arith) ∙ s)

  -- by the test
  pub kept_next : {Less More : Type 0} {w count' : ℕ} → w ≡ entry_of sets p → (Less → w < size) → (More → size ≤ w)
      → (Less × (count' ≡ count + 1)) ⊎ (More × (count' ≡ count)) → Kept size (p + 1) count' (set sets count w)
  unfolding after
  kept_next {w = w} e less more (inl (t, q)) =
      subst₂ (λ (c x : ℕ). Kept size (p + 1) c (set sets count x)) (sym q) (sym e) (taken (omega (arith, less t)))
  kept_next {w = w} e less more (inr (t, q)) =
      subst₂ (λ (c x : ℕ). Kept size (p + 1) c (set sets count x)) (sym q) (sym e) (passed (omega (arith, more t)))

-- all sets are done
pub kept_all : {size p count : ℕ} {sets : List ℕ} → size ≤ max_subsets → max_subsets ≤ p → Kept size p count sets
    → (count ≤ max_subsets) × Ordered (entry_of sets) count size
kept_all {size} {p} {count} {sets} few all K = (
  omega (arith, K.few, K.bound),
  record {
    rises = K.rises;
    apart = K.apart;
    below = λ i l. (K.stood i l).below;
    found = λ w l.
        let (q, lq, e) = position w (omega arith) in
        let (i, li, s) = K.found q (omega arith) (omega arith) in
        (i, li, s ∙ e);
  },
)
