-- The least entry of a list of numbers, or none where the list is empty.
-- The least of a given number and of a function's values at the numbers below n. A number at which a function is least among those that
-- pass a test.
-- Assumes nothing.
use Rattle.std.specs.Prelude.{ℕ, zero, suc, ◌≤◌, ◌<◌, min, ◌≡◌, refl, ◌⊎◌, Bool, true, false, not, List, [], ◌∷◌, T, leb}
use Rattle.std.proofs.Common.{ap, ◌∙◌, subst, inl, inr, ⊎_elim, arith, leb→le}
use Rattle.std.proofs.Math.Option.{Option, none, some}
use Rattle.std.proofs.Math.Decide.{ℕ_discrete}
use Rattle.std.proofs.Math.Dec.{nleb→lt}
use Rattle.lists.specs.Tests.{by_fact, true_fact, false_not_fact, not_both}
use Rattle.lists.specs.Listed.{listed, listed_head, listed_same, listed_tail, listed_cases}

-- ---- of a list

-- x, or the lesser of x and y
abbrev lesser : ℕ → Option ℕ → ℕ
lesser x none = x
lesser x (some y) = min x y

-- the least entry, or none where there is no entry
abbrev pub least : List ℕ → Option ℕ
least [] = none
least (x ∷ l) = some (lesser x (least l))

-- what it says: there is no entry, or this one is an entry and none is less
abbrev pub IsLeast : List ℕ → Option ℕ → Type 0
IsLeast l none = l ≡ []
IsLeast l (some x) = T (listed x l) × ((y : ℕ) → T (listed y l) → x ≤ y)

pub least_is_least : (l : List ℕ) → IsLeast l (least l)
least_is_least [] = refl
least_is_least (x ∷ l) = go (least l) (least_is_least l)
  where
    go : (o : Option ℕ) → IsLeast l o → IsLeast (x ∷ l) (some (lesser x o))
    go none e = (
      listed_head x l,
      λ y t. ⊎_elim (λ (q : y ≡ x). omega arith) (λ (i : T (listed y l)). absurd (subst (λ (k : List ℕ). T (listed y k)) e i)) (listed_cases y x l t),
    )
    go (some z) s = by_fact (leb x z) (λ _. IsLeast (x ∷ l) (some (min x z)))
        (λ t.
        let le = leb→le x z t in
        (listed_same (min x z) x l (omega arith), at (omega arith)))
        (λ t.
        let lt = nleb→lt x z t in
        let e : z ≡ min x z = omega arith in
        (listed_tail (min x z) x l (subst (λ (y : ℕ). T (listed y l)) e s.0), at (omega arith)))
      where
        at : min x z ≤ x → (y : ℕ) → T (listed y (x ∷ l)) → min x z ≤ y
        at h y t = ⊎_elim (λ (q : y ≡ x). omega arith) (λ (i : T (listed y l)). omega (arith, s.1 y i)) (listed_cases y x l t)

-- ---- of the numbers below n

-- the least of `top` and f i for each i below n
abbrev pub least_to : (ℕ → ℕ) → ℕ → ℕ → ℕ
least_to f top zero = top
least_to f top (suc n) = min (f n) (least_to f top n)

-- it is no more than `top` and no more than each value
pub least_to_top : (f : ℕ → ℕ) (top n : ℕ) → least_to f top n ≤ top
least_to_top f top zero = omega arith
least_to_top f top (suc n) = omega (arith, least_to_top f top n)

pub least_to_le : (f : ℕ → ℕ) (top n i : ℕ) → i < n → least_to f top n ≤ f i
least_to_le f top zero i l = absurd (omega arith)
least_to_le f top (suc n) i l = go (ℕ_discrete i n) (λ h. least_to_le f top n i h)
  where
    go : Dec (i ≡ n) → (i < n → least_to f top n ≤ f i) → least_to f top (suc n) ≤ f i
    go (yes e) rest = omega (arith, ap f e)
    go (no p) rest = omega (arith, rest (omega arith))

-- below `top` it is the value at some number
pub least_to_at : (f : ℕ → ℕ) (top n : ℕ) → least_to f top n < top → (i : ℕ) × (i < n) × (f i ≡ least_to f top n)
least_to_at f top zero l = absurd (omega arith)
least_to_at f top (suc n) l = by_fact (leb (f n) (least_to f top n)) (λ _. (i : ℕ) × (i < suc n) × (f i ≡ least_to f top (suc n)))
    (λ t. (n, omega arith, omega (arith, leb→le (f n) (least_to f top n) t)))
    (λ t.
    let h = nleb→lt (f n) (least_to f top n) t in
    let (i, l, q) = least_to_at f top n (omega arith) in
    (i, omega arith, omega arith))

-- ---- of the numbers below n that pass a test

-- a number below n that passes p, and at which f is least among those that do
abbrev pub LeastPassing : (ℕ → ℕ) → (ℕ → Bool) → ℕ → Type 0
LeastPassing f p n = (i : ℕ) × (i < n) × T (p i) × ((j : ℕ) → j < n → T (p j) → f i ≤ f j)

-- there is one, or no number passes
pub least_passing : (f : ℕ → ℕ) (p : ℕ → Bool) (n : ℕ) → LeastPassing f p n ⊎ ((j : ℕ) → j < n → T (not (p j)))
least_passing f p zero = inr (λ j l. absurd (omega arith))
least_passing f p (suc n) = go (p n) refl (least_passing f p n)
  where
    go : (b : Bool) → p n ≡ b → LeastPassing f p n ⊎ ((j : ℕ) → j < n → T (not (p j))) → LeastPassing f p (suc n) ⊎ ((j : ℕ) → j < suc n → T (not (p j)))
    go true q (inl (i, l, t, h)) = inl (by_fact (leb (f i) (f n)) (λ _. LeastPassing f p (suc n))
        (λ s. (i, omega arith, t, λ j lj tj. earlier j lj tj (ℕ_discrete j n) (leb→le (f i) (f n) s)))
        (λ s. (n, omega arith, true_fact q, λ j lj tj. later j lj tj (ℕ_discrete j n) (nleb→lt (f i) (f n) s))))
      where
        earlier : (j : ℕ) → j < suc n → T (p j) → Dec (j ≡ n) → f i ≤ f n → f i ≤ f j
        earlier j lj tj (yes e) k = omega (arith, ap f e)
        earlier j lj tj (no ne) k = h j (omega arith) tj

        later : (j : ℕ) → j < suc n → T (p j) → Dec (j ≡ n) → f n < f i → f n ≤ f j
        later j lj tj (yes e) k = omega (arith, ap f e)
        later j lj tj (no ne) k = omega (arith, h j (omega arith) tj)
    go true q (inr none_below) = inl (n, omega arith, true_fact q, λ j lj tj. only j lj tj (ℕ_discrete j n))
      where
        only : (j : ℕ) → j < suc n → T (p j) → Dec (j ≡ n) → f n ≤ f j
        only j lj tj (yes e) = omega (arith, ap f e)
        only j lj tj (no ne) = absurd (not_both (p j) tj (none_below j (omega arith)))
    go false q (inl (i, l, t, h)) = inl (i, omega arith, t, λ j lj tj. h j (below j lj tj (ℕ_discrete j n)) tj)
      where
        below : (j : ℕ) → j < suc n → T (p j) → Dec (j ≡ n) → j < n
        below j lj tj (yes e) = absurd (subst T (ap p e ∙ q) tj)
        below j lj tj (no ne) = omega arith
    go false q (inr none_below) = inr (λ j lj. out j lj (ℕ_discrete j n))
      where
        out : (j : ℕ) → j < suc n → Dec (j ≡ n) → T (not (p j))
        out j lj (yes e) = false_not_fact (ap p e ∙ q)
        out j lj (no ne) = none_below j (omega arith)
