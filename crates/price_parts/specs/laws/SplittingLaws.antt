-- One price, split terminal by terminal: the shares after the first i terminals, and what keeps each share a cost.
-- Assumes nothing.
use Rattle.std.specs.Prelude.{ℕ, ◌+◌, ◌/◌, ◌%◌, ◌^◌, ◌≤◌, ◌<◌, ◌≡◌, refl, ◌≢◌, ◌⊎◌, Bool, true, false, cond, List, eqb, ltb, length, get_or, set}
use Rattle.std.proofs.Common.{sym, ap, ◌∙◌, subst, inl, inr, arith, ltb→lt, nltb→le, length-set, get_or-set_same, get_or-set_other, eq-eqb, ne_eqb}
use Rattle.std.proofs.Math.Decide.{ℕ_discrete}
use Rattle.std.specs.Int.Count.{ones}
use Rattle.std.proofs.lemmas.List.{set-get_or}
use Rattle.limits.specs.Limits.{no_cost}
use Rattle.lists.specs.Tests.{by_fact}
use Rattle.lists.specs.Count.{bit}
use Rattle.lists.specs.Sums.{sum_to_more, passing_most}
use Rattle.subset.specs.Sets.{has}
use Rattle.subset.specs.laws.Sizes.{ones_count}
use Rattle.plan_shares.specs.Shares.{payers_to}
use Rattle.price_parts.specs.Splitting.{payer_part, part_in, PaidAt, RoomFor, paid_by, SplitInto}
use Rattle.price_parts.specs.laws.PriceParts.{part_le, part_none}

-- ---- one terminal

-- the odd cent: where fewer payers than the remainder says are lower, and only there
pub odd_cent_lem : (lower remainder : ℕ)
    → ((lower < remainder) × (bit (ltb lower remainder) ≡ 1)) ⊎ ((remainder ≤ lower) × (bit (ltb lower remainder) ≡ 0))
odd_cent_lem lower remainder =
    by_fact (ltb lower remainder) (λ b. ((lower < remainder) × (bit b ≡ 1)) ⊎ ((remainder ≤ lower) × (bit b ≡ 0)))
    (λ t. inl (ltb→lt lower remainder t, refl)) (λ t. inr (nltb→le lower remainder t, refl))

-- what a payer pays; its share has room for it
module _ (payers quotient remainder lower i : ℕ) where
  payer_pays : has payers i ≡ true → part_in payers quotient remainder lower i ≡ payer_part quotient remainder lower
  payer_pays payer = ap (λ (b : Bool). cond b (payer_part quotient remainder lower) 0) payer

  pub payer_room : (share : ℕ) → has payers i ≡ true → share + part_in payers quotient remainder lower i ≤ no_cost
      → share + payer_part quotient remainder lower ≤ no_cost
  payer_room share payer room = omega (arith, payer_pays payer)

module _ {payers quotient remainder lower i : ℕ} where
  -- a terminal that is no payer pays nothing, and is not counted
  pub pays_nothing : (shares : List ℕ) → has payers i ≡ false → PaidAt payers quotient remainder lower i shares shares lower
  pays_nothing shares out =
      let none : get_or shares i 0 + part_in payers quotient remainder lower i ≡ get_or shares i 0 =
      omega (arith, ap (λ (b : Bool). cond b (payer_part quotient remainder lower) 0) out) in
      record {
        shares = sym (ap (λ (x : ℕ). set shares i x) none ∙ set-get_or shares i 0);
        counted = omega (arith, ap bit out);
      }

  -- a payer pays its part, and is counted
  pub pays_part : {part : ℕ} (shares : List ℕ) → has payers i ≡ true → part ≡ payer_part quotient remainder lower
      → PaidAt payers quotient remainder lower i shares (set shares i (get_or shares i 0 + part)) (lower + 1)
  pays_part shares payer e = record {
    shares = ap (λ (x : ℕ). set shares i (get_or shares i 0 + x)) (e ∙ sym (payer_pays payers quotient remainder lower i payer));
    counted = omega (arith, ap bit payer);
  }

-- ---- the first terminals

-- the price is split over the payers below i, of whom there are `lower`
pub record PaidTo (price payers : ℕ) (before after : List ℕ) (i lower : ℕ) : Type 0 where
  pub size : length after ≡ length before
  pub counted : lower ≡ payers_to (has payers) i
  pub paid : (j : ℕ) → j < i → get_or after j 0 ≡ get_or before j 0 + paid_by (length before) payers price j
  pub later : (j : ℕ) → i ≤ j → get_or after j 0 ≡ get_or before j 0

-- m is the number of payers, as the set's size
pub record Payers (payers k m : ℕ) : Type 0 where
  pub below : payers < 2 ^ k
  pub sized : m ≡ ones payers

payers_number : {payers k m : ℕ} → Payers payers k m → m ≡ payers_to (has payers) k
payers_number {payers} {k} p = p.sized ∙ ones_count k payers p.below

-- ---- nobody pays

pub nobody_pays : {payers m : ℕ} (price : ℕ) (shares : List ℕ) → Payers payers (length shares) m → m ≡ 0
    → SplitInto price payers shares shares price
nobody_pays {payers} price shares p none =
    let k : ℕ = length shares in
    let all : price ≡ cond (eqb (payers_to (has payers) k) 0) price 0 =
    sym (ap (λ (b : Bool). cond b price 0) (eq-eqb (payers_to (has payers) k) 0 (sym (payers_number p) ∙ none))) in
    record {
      size = refl;
      paid = λ i l. omega (arith, part_none k payers price i l (sym all));
      unpaid = all;
    }

-- ---- terminal by terminal

pub paid_none : {price payers : ℕ} {shares : List ℕ} → PaidTo price payers shares shares 0 0
paid_none = record {
  size = refl;
  counted = refl;
  paid = λ j l. absurd (omega arith);
  later = λ j l. refl;
}

-- what terminal i pays is its part of the price
part_here : {price payers : ℕ} {before after : List ℕ} {i lower : ℕ} (m : ℕ) → Payers payers (length before) m
    → PaidTo price payers before after i lower → part_in payers (price / m) (price % m) lower i ≡ paid_by (length before) payers price i
part_here {price} {payers} {before} {after} {i} {lower} m p t =
    ap (λ (n : ℕ). part_in payers (price / n) (price % n) lower i) (payers_number p)
    ∙ ap (λ (n : ℕ). part_in payers (price / payers_to (has payers) (length before)) (price % payers_to (has payers) (length before)) n i) t.counted

-- there is room for it
pub part_fits : {price payers : ℕ} {before after : List ℕ} {i lower : ℕ} (m : ℕ) → Payers payers (length before) m
    → PaidTo price payers before after i lower → RoomFor price before → i < length before → get_or after i 0 + part_in payers (price / m) (price % m) lower i ≤ no_cost
part_fits {price} {payers} {before} {after} {i} m p t room l =
    omega (arith, part_here m p t, t.later i (omega arith), room i l, part_le (length before) payers price i l)

-- no more terminals pay than there are below i
pub payers_few : {price payers : ℕ} {before after : List ℕ} {i lower : ℕ} → PaidTo price payers before after i lower → lower ≤ i
payers_few {price} {payers} {before} {after} {i} t = omega (arith, t.counted, passing_most (has payers) i)

-- one terminal more
pub paid_more : {price payers : ℕ} {before shares after : List ℕ} {i lower upto : ℕ} (m : ℕ) → Payers payers (length before) m
    → PaidTo price payers before shares i lower → i < length before → PaidAt payers (price / m) (price % m) lower i shares after upto
    → PaidTo price payers before after (i + 1) upto
paid_more {price} {payers} {before} {shares} {after} {i} {lower} m p t l now =
    let part : ℕ = part_in payers (price / m) (price % m) lower i in
    let same : get_or after i 0 ≡ get_or shares i 0 + part =
    ap (λ (s : List ℕ). get_or s i 0) now.shares ∙ get_or-set_same shares i (get_or shares i 0 + part) 0 (omega (arith, t.size)) in
    let other : (j : ℕ) → j ≢ i → get_or after j 0 ≡ get_or shares j 0 =
    λ j n. ap (λ (s : List ℕ). get_or s j 0) now.shares ∙ get_or-set_other shares i j (get_or shares i 0 + part) 0 n in
    record {
      size = ap length now.shares ∙ length-set shares i (get_or shares i 0 + part) ∙ t.size;
      counted = omega (arith, now.counted, t.counted, sum_to_more i (λ j. bit (has payers j)));
      paid = λ j b. go j b same other (ℕ_discrete j i);
      later = λ j b. other j (λ e. omega arith) ∙ t.later j (omega arith);
    }
  where
    go : (j : ℕ) → j < i + 1 → get_or after i 0 ≡ get_or shares i 0 + part_in payers (price / m) (price % m) lower i
        → ((j : ℕ) → j ≢ i → get_or after j 0 ≡ get_or shares j 0)
        → Dec (j ≡ i) → get_or after j 0 ≡ get_or before j 0 + paid_by (length before) payers price j
    go j b same other (yes e) =
        subst (λ (x : ℕ). get_or after x 0 ≡ get_or before x 0 + paid_by (length before) payers price x) (sym e)
        (omega (arith, same, part_here m p t, t.later i (omega arith)))
    go j b same other (no n) = other j n ∙ t.paid j (omega arith)

-- all terminals
pub paid_all : {price payers : ℕ} {before after : List ℕ} {i lower : ℕ} (m : ℕ) → Payers payers (length before) m → m ≢ 0
    → PaidTo price payers before after i lower → length before ≤ i → SplitInto price payers before after 0
paid_all {price} {payers} {before} m p some t l = record {
  size = t.size;
  paid = λ j b. t.paid j (omega arith);
  unpaid = sym (ap (λ (b : Bool). cond b price 0)
      (ne_eqb (payers_to (has payers) (length before)) 0 (λ e. some (payers_number p ∙ e))));
}
