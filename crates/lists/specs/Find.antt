-- Tests over the entries of a list and over the numbers below n: all pass, some passes; and the lowest number below n that passes. What each
-- says, and when it passes. Tests that agree give the same.
-- Assumes nothing.
use Rattle.std.specs.Prelude.{ℕ, zero, suc, ◌+◌, ◌<◌, ◌≡◌, refl, Bool, true, false, not, ◌&&◌, ◌||◌, List, [], ◌∷◌, T}
use Rattle.std.proofs.Common.{sym, ap, ap₂, ◌∙◌, subst, ⊎_elim, add-one, arith}
use Rattle.std.proofs.Math.Option.{Option, none, some}
use Rattle.std.proofs.Math.Decide.{ℕ_discrete}
use Rattle.lists.specs.Tests.{fact_true, true_fact, and_left, and_right, and_both, or_cases, or_left, or_right}
use Rattle.lists.specs.Listed.{listed, listed_head, listed_tail, listed_cases}

-- ---- over a list

-- some entry passes; every entry passes
abbrev pub any_of : {A : Type 0} → (A → Bool) → List A → Bool
any_of f [] = false
any_of f (x ∷ l) = f x || any_of f l

abbrev pub all_of : (ℕ → Bool) → List ℕ → Bool
all_of f [] = true
all_of f (x ∷ l) = f x && all_of f l

-- some entry passes: what it says, and when it passes
pub any_entry : (f : ℕ → Bool) (l : List ℕ) → T (any_of f l) → (x : ℕ) × T (listed x l) × T (f x)
any_entry f [] t = absurd t
any_entry f (x ∷ l) t = ⊎_elim (λ (s : T (f x)). (x, listed_head x l, s))
    (λ (s : T (any_of f l)). let r = any_entry f l s in (r.0, listed_tail r.0 x l r.1, r.2)) (or_cases (f x) (any_of f l) t)

pub entry_any : (f : ℕ → Bool) (l : List ℕ) (x : ℕ) → T (listed x l) → T (f x) → T (any_of f l)
entry_any f [] x t s = absurd t
entry_any f (y ∷ l) x t s = ⊎_elim (λ (q : x ≡ y). or_left (f y) (any_of f l) (subst (λ (z : ℕ). T (f z)) q s))
    (λ (i : T (listed x l)). or_right (f y) (any_of f l) (entry_any f l x i s)) (listed_cases x y l t)

-- every entry passes: what it says, and when it passes
pub all_entries : (f : ℕ → Bool) (l : List ℕ) → T (all_of f l) → (x : ℕ) → T (listed x l) → T (f x)
all_entries f [] t x i = absurd i
all_entries f (y ∷ l) t x i = ⊎_elim (λ (q : x ≡ y). subst (λ (z : ℕ). T (f z)) (sym q) (and_left (f y) (all_of f l) t))
    (λ (j : T (listed x l)). all_entries f l (and_right (f y) (all_of f l) t) x j) (listed_cases x y l i)

pub entries_all : (f : ℕ → Bool) (l : List ℕ) → ((x : ℕ) → T (listed x l) → T (f x)) → T (all_of f l)
entries_all f [] h = tt
entries_all f (y ∷ l) h = and_both (f y) (all_of f l) (h y (listed_head y l)) (entries_all f l (λ x i. h x (listed_tail x y l i)))

-- ---- over the numbers below n

-- every number below n passes
abbrev pub all_to : (ℕ → Bool) → ℕ → Bool
all_to f zero = true
all_to f (suc n) = f n && all_to f n

pub all_at : (f : ℕ → Bool) (n : ℕ) → T (all_to f n) → (i : ℕ) → i < n → T (f i)
all_at f zero t i l = absurd (omega arith)
all_at f (suc n) t i l = go (ℕ_discrete i n) (λ h. all_at f n (and_right (f n) (all_to f n) t) i h)
  where
    go : Dec (i ≡ n) → (i < n → T (f i)) → T (f i)
    go (yes e) rest = subst (λ (x : ℕ). T (f x)) (sym e) (and_left (f n) (all_to f n) t)
    go (no p) rest = rest (omega arith)

pub all_of_lem : (f : ℕ → Bool) (n : ℕ) → ((i : ℕ) → i < n → T (f i)) → T (all_to f n)
all_of_lem f zero h = tt
all_of_lem f (suc n) h = and_both (f n) (all_to f n) (h n (omega arith)) (all_of_lem f n (λ i l. h i (omega arith)))

-- some number below n passes
abbrev pub any_to : (ℕ → Bool) → ℕ → Bool
any_to f zero = false
any_to f (suc n) = f n || any_to f n

pub any_at : (f : ℕ → Bool) (n : ℕ) → T (any_to f n) → (i : ℕ) × (i < n) × T (f i)
any_at f zero t = absurd t
any_at f (suc n) t = ⊎_elim (λ (s : T (f n)). (n, omega arith, s))
    (λ (s : T (any_to f n)). let r = any_at f n s in (r.0, omega (arith, r.1), r.2)) (or_cases (f n) (any_to f n) t)

pub any_of_lem : (f : ℕ → Bool) (n i : ℕ) → i < n → T (f i) → T (any_to f n)
any_of_lem f zero i l t = absurd (omega arith)
any_of_lem f (suc n) i l t = go (ℕ_discrete i n) (λ h. any_of_lem f n i h t)
  where
    go : Dec (i ≡ n) → (i < n → T (any_to f n)) → T (any_to f (suc n))
    go (yes e) rest = or_left (f n) (any_to f n) (subst (λ (x : ℕ). T (f x)) e t)
    go (no p) rest = or_right (f n) (any_to f n) (rest (omega arith))

-- as a loop finds it: where number i passes, some number does; where none below n passes, and n does not, none below n + 1 does
pub any_found : (f : ℕ → Bool) (n i : ℕ) → i < n → f i ≡ true → any_to f n ≡ true
any_found f n i l e = fact_true (any_of_lem f n i l (true_fact e))

pub none_more : (f : ℕ → Bool) (n : ℕ) → any_to f n ≡ false → f n ≡ false → any_to f (n + 1) ≡ false
none_more f n before here = ap (any_to f) (add-one n) ∙ ap₂ ◌||◌ here before

-- the number found below n, else n where it passes
abbrev pub found_or : Option ℕ → Bool → ℕ → Option ℕ
found_or (some i) b n = some i
found_or none true n = some n
found_or none false n = none

-- the lowest number below n that passes
abbrev pub first : (ℕ → Bool) → ℕ → Option ℕ
first f zero = none
first f (suc n) = found_or (first f n) (f n) n

-- what it says: no number passes, or this one does and none below it
abbrev pub IsFirst : (ℕ → Bool) → ℕ → Option ℕ → Type 0
IsFirst f n none = (j : ℕ) → j < n → T (not (f j))
IsFirst f n (some i) = (i < n) × T (f i) × ((j : ℕ) → j < i → T (not (f j)))

-- ---- tests that agree below n

pub all_same : (f g : ℕ → Bool) (n : ℕ) → ((i : ℕ) → i < n → f i ≡ g i) → all_to f n ≡ all_to g n
all_same f g zero same = refl
all_same f g (suc n) same = ap₂ ◌&&◌ (same n (omega arith)) (all_same f g n (λ i l. same i (omega arith)))

pub any_same : (f g : ℕ → Bool) (n : ℕ) → ((i : ℕ) → i < n → f i ≡ g i) → any_to f n ≡ any_to g n
any_same f g zero h = refl
any_same f g (suc n) h = ap₂ ◌||◌ (h n (omega arith)) (any_same f g n (λ i l. h i (omega arith)))

pub first_same : (f g : ℕ → Bool) (n : ℕ) → ((i : ℕ) → i < n → f i ≡ g i) → first f n ≡ first g n
first_same f g zero same = refl
first_same f g (suc n) same =
    ap₂ (λ (o : Option ℕ) (b : Bool). found_or o b n) (first_same f g n (λ i l. same i (omega arith))) (same n (omega arith))
