-- The nodes at which some terminal by itself has a finite cost. The others have no set of a finite cost, so that no set is split there: they are passed
-- over, and the splits are tried at four nodes of the first kind at a time.
-- Assumes nothing.
use Rattle.std.specs.Prelude.{ℕ, suc, ◌+◌, ◌≤◌, ◌<◌, ◌≡◌, refl, ◌≢◌}
use Rattle.std.proofs.Common.{ap, ◌∙◌, arith, pow-suc, pow_mono}
use Rattle.std.proofs.Math.Decide.{ℕ_discrete, dec_lt}
use Rattle.subset.specs.Sets.{single}
use Rattle.lanes.specs.declared.Four.{Four}
use Rattle.lanes.specs.laws.Four.{nth, below_four}
use Rattle.working_none.specs.laws.WorkingNone.{working_none}

-- ---- one node

-- no terminal by itself is finite, where the set w costs f w
abbrev pub NoTerminal : (f : ℕ → ℕ) → (size : ℕ) → Type 0
NoTerminal f size = (i : ℕ) → single i < size → working_none ≤ f (single i)

-- the terminals before that of the set `one` are not
pub record LookedAt (f : ℕ → ℕ) (one : ℕ) : Type 0 where
  pub next : ℕ
  pub is : one ≡ single next
  pub none : (i : ℕ) → i < next → working_none ≤ f (single i)

module _ {f : ℕ → ℕ} where
  pub looked_none : LookedAt f 1
  looked_none = record { next = 0; is = refl; none = λ i l. absurd (omega arith) }

  pub looked_next : {one : ℕ} → LookedAt f one → working_none ≤ f one → LookedAt f (one + one)
  looked_next {one} L high = record {
    next = suc L.next;
    is = ap (λ (x : ℕ). x + x) L.is ∙ omega (arith, pow-suc 2 L.next);
    none = λ i l. go i l (ℕ_discrete i L.next);
  }
    where
      go : (i : ℕ) → i < suc L.next → Dec (i ≡ L.next) → working_none ≤ f (single i)
      go i l (yes z) = omega (arith, ap f L.is, ap (λ (x : ℕ). f (single x)) z)
      go i l (no ne) = L.none i (omega arith)

  pub looked_all : {one size : ℕ} → LookedAt f one → size ≤ one → NoTerminal f size
  looked_all {one} {size} L high i small = go (dec_lt i L.next)
    where
      go : Dec (i < L.next) → working_none ≤ f (single i)
      go (yes l) = L.none i l
      go (no l) = absurd (omega (arith, L.is, pow_mono {i = L.next} {j = i} (omega arith)))

-- ---- the nodes in their order

-- the nodes from `from` up to r, of n nodes, have no finite terminal
pub record NoneBetween (c : ℕ → ℕ → ℕ) (size n from r : ℕ) : Type 0 where
  pub onward : from ≤ r
  pub within : r ≤ n
  pub none : (u : ℕ) → from ≤ u → u < r → NoTerminal (c u) size

-- r is v, or a later node, and those between have no finite terminal
pub record NextFinite (c : ℕ → ℕ → ℕ) (size n v r : ℕ) : Type 0 where
  pub onward : v ≤ r
  pub within : r < n
  pub none : (u : ℕ) → v < u → u < r → NoTerminal (c u) size

-- four nodes from v on, and those between that are none of them have no finite terminal
pub record FourFinite (c : ℕ → ℕ → ℕ) (size n v : ℕ) (r : ℕ → ℕ) : Type 0 where
  pub low : (j : ℕ) → j < 4 → v ≤ r j
  pub high : (j : ℕ) → j < 4 → r j ≤ r 3
  pub within : r 3 < n
  pub none : (u : ℕ) → v ≤ u → u ≤ r 3 → ((j : ℕ) → j < 4 → r j ≢ u) → NoTerminal (c u) size

module _ {c : ℕ → ℕ → ℕ} {size n : ℕ} where
  pub between_none : {from : ℕ} → from ≤ n → NoneBetween c size n from from
  between_none l = record { onward = omega arith; within = l; none = λ u a b. absurd (omega arith) }

  pub between_next : {from v : ℕ} → NoneBetween c size n from v → v < n → NoTerminal (c v) size → NoneBetween c size n from (v + 1)
  between_next {from} {v} D l none = record {
    onward = omega (arith, D.onward);
    within = omega arith;
    none = λ u a b. go u a b (ℕ_discrete u v);
  }
    where
      go : (u : ℕ) → from ≤ u → u < v + 1 → Dec (u ≡ v) → NoTerminal (c u) size
      go u a b (yes z) i small = omega (arith, none i small, ap (λ (x : ℕ). c x (single i)) z)
      go u a b (no ne) i small = D.none u a (omega arith) i small

  pub next_later : {v r : ℕ} → NoneBetween c size n (v + 1) r → r < n → NextFinite c size n v r
  next_later D l = record { onward = omega (arith, D.onward); within = l; none = λ u a b. D.none u (omega arith) b }

  pub next_same : {v : ℕ} → v < n → NextFinite c size n v v
  next_same l = record { onward = omega arith; within = l; none = λ u a b. absurd (omega arith) }

  pub four_finite_lem : {v : ℕ} {four : Four ℕ} → four.a ≡ v → NextFinite c size n v four.b → NextFinite c size n four.b four.c
      → NextFinite c size n four.c four.d → FourFinite c size n v (nth four)
  four_finite_lem {v} {four} is B C D = record {
    low = below_four (λ j. v ≤ nth four j) (omega arith) B.onward (omega (arith, B.onward, C.onward))
        (omega (arith, B.onward, C.onward, D.onward));
    high = below_four (λ j. nth four j ≤ four.d) (omega (arith, B.onward, C.onward, D.onward)) (omega (arith, C.onward, D.onward))
        D.onward (omega arith);
    within = D.within;
    none = λ u a b apart. go u a b apart (dec_lt u four.b) (dec_lt u four.c);
  }
    where
      go : (u : ℕ) → v ≤ u → u ≤ four.d → ((j : ℕ) → j < 4 → nth four j ≢ u) → Dec (u < four.b) → Dec (u < four.c) → NoTerminal (c u) size
      go u a b apart (yes l) d =
          let first : four.a ≢ u = apart 0 (omega arith) in
          B.none u (omega arith) l
      go u a b apart (no h) (yes l) =
          let second : four.b ≢ u = apart 1 (omega arith) in
          C.none u (omega arith) l
      go u a b apart (no h) (no k) =
          let third : four.c ≢ u = apart 2 (omega arith) in
          let fourth : four.d ≢ u = apart 3 (omega arith) in
          D.none u (omega arith) (omega arith)
