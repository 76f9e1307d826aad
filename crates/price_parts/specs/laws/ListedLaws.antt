-- The prices of the listed arcs, split record by record: the shares after the first records, and what keeps each of them, and what nobody pays,
-- a cost.
-- Assumes nothing.
use Rattle.std.specs.Prelude.{ℕ, ◌+◌, ◌^◌, ◌≤◌, ◌<◌, ◌≡◌, refl, List, length, get_or, replicate}
use Rattle.std.proofs.Common.{sym, ap, ◌∙◌, subst, arith}
use Rattle.std.proofs.lemmas.List.{length-replicate, get_or-replicate}
use Rattle.limits.specs.Limits.{no_cost}
use Rattle.lists.specs.Sums.{sum_to, sum_to_more, sum_to_fewer, sum_to_le}
use Rattle.planfile.specs.Format.{listed_arc}
use Rattle.price_parts.specs.Splitting.{RoomFor, paid_by, paid_by_none, weight_at, set_at, SplitInto, ArcReady, ArcSplit, ListedReady, ListedSplit}
use Rattle.price_parts.specs.laws.PriceParts.{part_le, unpaid_le}

-- ---- what is asked at a record

module _ {file : List ℕ} {count : ℕ} {ends weights served : List ℕ} {k : ℕ} where
  -- the weights up to record j are a cost
  weights_low : (j : ℕ) → ListedReady file count ends weights served k → j < count
      → weight_at file weights j + sum_to j (weight_at file weights) ≤ no_cost
  weights_low j ready l =
      omega (arith, sum_to_more j (weight_at file weights), sum_to_fewer (j + 1) count (weight_at file weights) (omega arith), ready.low)

  -- record j's arc e can be split
  pub listed_asked : {j e rest : ℕ} {shares : List ℕ} → ListedReady file count ends weights served k
      → ListedSplit file j ends weights served k shares rest → j < count → e ≡ listed_arc file j → ArcReady e ends weights served shares
  listed_asked {j} {e} {rest} {shares} ready done l here = record {
    in_ends = omega (arith, ready.in_ends j l);
    in_weights = omega (arith, ready.in_weights j l);
    in_served = subst (λ (x : ℕ). get_or ends x 0 < length served) (sym here) (ready.in_served j l);
    few = omega (arith, ready.few, done.size);
    payers = subst (λ (n : ℕ). get_or served (get_or ends e 0) 0 < 2 ^ n) (sym done.size)
        (subst (λ (x : ℕ). get_or served (get_or ends x 0) 0 < 2 ^ k) (sym here) (ready.sets j l));
    room = room;
  }
    where
      room : RoomFor (get_or weights e 0) shares
      room i b =
          let part : ℕ → ℕ = λ n. paid_by k (set_at file ends served n) (weight_at file weights n) i in
          let inside : i < k = omega (arith, done.size) in
          let low : sum_to j part ≤ sum_to j (weight_at file weights) =
          sum_to_le j part (weight_at file weights) (λ n _. part_le k (set_at file ends served n) (weight_at file weights n) i inside) in
          omega (arith, done.paid i inside, weights_low j ready l, ap (λ (x : ℕ). get_or weights x 0) here)

  -- what nobody pays stays a cost
  pub listed_fits : {j e rest r : ℕ} {shares after : List ℕ} → ListedReady file count ends weights served k
      → ListedSplit file j ends weights served k shares rest → j < count → e ≡ listed_arc file j
      → ArcSplit e ends weights served shares after r → rest + r ≤ no_cost
  listed_fits {j} {e} {rest} {r} {shares} ready done l here split =
      let none : ℕ → ℕ = λ n. paid_by_none k (set_at file ends served n) (weight_at file weights n) in
      let low : sum_to j none ≤ sum_to j (weight_at file weights) =
      sum_to_le j none (weight_at file weights) (λ n _. unpaid_le k (set_at file ends served n) (weight_at file weights n)) in
      omega (
        arith,
        done.unpaid,
        split.unpaid,
        unpaid_le (length shares) (get_or served (get_or ends e 0) 0) (get_or weights e 0),
        weights_low j ready l,
        ap (λ (x : ℕ). get_or weights x 0) here,
      )

-- ---- record by record

-- no record yet: the shares of k terminals are cleared
module _ {shares : List ℕ} (k : ℕ) (cleared : shares ≡ replicate k 0) where
  cleared_size : length shares ≡ k
  cleared_size = ap length cleared ∙ length-replicate k 0

  pub listed_none : {file ends weights served : List ℕ} → ListedSplit file 0 ends weights served (length shares) shares 0
  listed_none = record {
    size = refl;
    paid = λ i l. ap (λ (s : List ℕ). get_or s i 0) cleared ∙ get_or-replicate k i 0 0 (omega (arith, cleared_size));
    unpaid = refl;
  }

  -- there are as many of them as terminals
  pub cleared_ready : {file ends weights served : List ℕ} {count : ℕ} → ListedReady file count ends weights served k
      → ListedReady file count ends weights served (length shares)
  cleared_ready {file} {ends} {weights} {served} {count} ready =
      subst (λ (n : ℕ). ListedReady file count ends weights served n) (sym cleared_size) ready

  -- all records
  pub listed_all : {file ends weights served after : List ℕ} {j count rest : ℕ} → ListedSplit file j ends weights served (length shares) after rest
      → j ≡ count → ListedSplit file count ends weights served k after rest
  listed_all {file} {ends} {weights} {served} {after} {j} {count} {rest} done e =
      subst (λ (n : ℕ). ListedSplit file count ends weights served n after rest) cleared_size
      (subst (λ (m : ℕ). ListedSplit file m ends weights served (length shares) after rest) e done)

-- one record more
pub listed_more : {file ends weights served : List ℕ} {k j e rest r : ℕ} {shares after : List ℕ}
    → ListedSplit file j ends weights served k shares rest → e ≡ listed_arc file j
    → ArcSplit e ends weights served shares after r → ListedSplit file (j + 1) ends weights served k after (rest + r)
listed_more {file} {ends} {weights} {served} {k} {j} {e} {rest} {r} {shares} {after} done here split =
    let price : ℕ = weight_at file weights j in
    let payers : ℕ = set_at file ends served j in
    let s : SplitInto price payers shares after r =
    subst (λ (x : ℕ). ArcSplit x ends weights served shares after r) here split in
    record {
      size = s.size ∙ done.size;
      paid = λ i l. omega (
        arith,
        s.paid i (omega (arith, done.size)),
        ap (λ (n : ℕ). paid_by n payers price i) done.size,
        done.paid i l,
        sum_to_more j (λ n. paid_by k (set_at file ends served n) (weight_at file weights n) i),
      );
      unpaid = omega (
        arith,
        s.unpaid,
        ap (λ (n : ℕ). paid_by_none n payers price) done.size,
        done.unpaid,
        sum_to_more j (λ n. paid_by_none k (set_at file ends served n) (weight_at file weights n)),
      );
    }
