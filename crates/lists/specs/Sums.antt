-- Sums of a function's values over the entries of a list, and over the numbers below n.
-- Two lists with the same sums have the same entries, each as often.
-- Assumes nothing.
use Rattle.std.specs.Prelude.{ℕ, zero, suc, ◌+◌, ◌*◌, ◌≤◌, ◌<◌, ◌≡◌, refl, ◌≢◌, Bool, List, [], ◌∷◌, ◌++◌, map, T, eqb, length}
use Rattle.std.proofs.Common.{sym, ap, ◌∙◌, ⊎_elim, add-one, arith}
use Rattle.std.proofs.Math.Decide.{ℕ_discrete}
use Rattle.lists.specs.Tests.{by_eq}
use Rattle.lists.specs.Count.{bit, bit_le, bit_passed, count}
use Rattle.lists.specs.Listed.{listed, listed_head, listed_tail, listed_cases, every_listed, count_listed, listed_count, Distinct}
use Rattle.lists.specs.Numbers.{numbers, values_more}

-- the sum of f x for each entry x
abbrev pub sum_by : (ℕ → ℕ) → List ℕ → ℕ
sum_by f [] = 0
sum_by f (x ∷ l) = f x + sum_by f l

pub sum_append : (f : ℕ → ℕ) (a b : List ℕ) → sum_by f (a ++ b) ≡ sum_by f a + sum_by f b
sum_append f [] b = omega arith
sum_append f (x ∷ a) b = omega (arith, sum_append f a b)

pub sum_add : (f g : ℕ → ℕ) (l : List ℕ) → sum_by (λ x. f x + g x) l ≡ sum_by f l + sum_by g l
sum_add f g [] = omega arith
sum_add f g (x ∷ l) = omega (arith, sum_add f g l)

-- the sum over a function's values
pub sum_map : (f g : ℕ → ℕ) (l : List ℕ) → sum_by f (map g l) ≡ sum_by (λ x. f (g x)) l
sum_map f g [] = refl
sum_map f g (x ∷ l) = omega (arith, sum_map f g l)

pub sum_le : (f g : ℕ → ℕ) (l : List ℕ) → ((x : ℕ) → T (listed x l) → f x ≤ g x) → sum_by f l ≤ sum_by g l
sum_le f g [] h = omega arith
sum_le f g (x ∷ l) h = omega (arith, h x (listed_head x l), sum_le f g l (λ y t. h y (listed_tail y x l t)))

-- where one value is less too, so is the sum
pub sum_lt : (f g : ℕ → ℕ) (l : List ℕ) → ((x : ℕ) → T (listed x l) → f x ≤ g x) → (x : ℕ) → T (listed x l) → f x < g x → sum_by f l < sum_by g l
sum_lt f g [] h x t less = absurd t
sum_lt f g (y ∷ l) h x t less =
    let later : (z : ℕ) → T (listed z l) → f z ≤ g z = λ z i. h z (listed_tail z y l i) in
    ⊎_elim (λ (e : x ≡ y). omega (arith, ap f e, ap g e, sum_le f g l later))
    (λ (i : T (listed x l)). omega (arith, h y (listed_head y l), sum_lt f g l later x i less)) (listed_cases x y l t)

-- where no value is above p, the sum is at most p for each entry
pub sum_at_most : (f : ℕ → ℕ) (p : ℕ) (l : List ℕ) → ((e : ℕ) → T (listed e l) → f e ≤ p) → sum_by f l ≤ p * length l
sum_at_most f p [] h = omega arith
sum_at_most f p (e ∷ l) h = omega (arith, h e (listed_head e l), sum_at_most f p l (λ d i. h d (listed_tail d e l i)))

-- an entry's value is no more than the sum
pub sum_entry : (f : ℕ → ℕ) (x : ℕ) (l : List ℕ) → T (listed x l) → f x ≤ sum_by f l
sum_entry f x [] t = absurd t
sum_entry f x (y ∷ l) t =
    ⊎_elim (λ (e : x ≡ y). omega (arith, ap f e)) (λ (s : T (listed x l)). omega (arith, sum_entry f x l s)) (listed_cases x y l t)

-- where the value at u rises by at most x, and no other value rises, the sum over a list of different numbers rises by at most x
pub sum_raise : (g h : ℕ → ℕ) (u x : ℕ) (l : List ℕ) → Distinct l → ((y : ℕ) → T (listed y l) → y ≢ u → h y ≤ g y) → h u ≤ g u + x
    → sum_by h l ≤ sum_by g l + x
sum_raise g h u x [] d le up = omega arith
sum_raise g h u x (z ∷ l) d le up = go (sum_raise g h u x l d.1 (λ y t. le y (listed_tail y z l t)) up) (ℕ_discrete z u)
  where
    go : sum_by h l ≤ sum_by g l + x → Dec (z ≡ u) → h z + sum_by h l ≤ (g z + sum_by g l) + x
    go later (yes e) =
        let other : (y : ℕ) → T (listed y l) → y ≢ u = λ y t q. every_listed (λ a. z ≢ a) l d.0 y t (e ∙ sym q) in
        let rest : sum_by h l ≤ sum_by g l = sum_le h g l (λ y t. le y (listed_tail y z l t) (other y t)) in
        omega (arith, ap g e, ap h e)
    go later (no n) = omega (arith, le z (listed_head z l) n)

-- how many entries there are, and how often x is one, as sums
pub length_sum : (l : List ℕ) → length l ≡ sum_by (λ _. 1) l
length_sum [] = refl
length_sum (e ∷ l) = omega (arith, length_sum l)

pub count_sum : (x : ℕ) (l : List ℕ) → count x l ≡ sum_by (λ y. bit (eqb x y)) l
count_sum x [] = refl
count_sum x (y ∷ l) = omega (arith, count_sum x l)

-- ---- the same entries, each as often, in any order

-- every sum over one list is that over the other; then each number occurs as often in both
abbrev pub Same : List ℕ → List ℕ → Type 0
Same a b = (f : ℕ → ℕ) → sum_by f a ≡ sum_by f b

pub same_count : (a b : List ℕ) → Same a b → (x : ℕ) → count x a ≡ count x b
same_count a b s x = omega (arith, count_sum x a, count_sum x b, s (λ y. bit (eqb x y)))

pub same_listed : (a b : List ℕ) → Same a b → (x : ℕ) → T (listed x a) → T (listed x b)
same_listed a b s x t = count_listed x b (omega (arith, listed_count x a t, same_count a b s x))

-- ---- sums over the numbers below n

-- the sum of f v for each v below n
abbrev pub sum_to : ℕ → (ℕ → ℕ) → ℕ
sum_to zero f = 0
sum_to (suc n) f = f n + sum_to n f

-- one number more
pub sum_to_more : (n : ℕ) (f : ℕ → ℕ) → sum_to (n + 1) f ≡ f n + sum_to n f
sum_to_more n f = ap (λ (m : ℕ). sum_to m f) (add-one n)

pub sum_to_zero : (n : ℕ) → sum_to n (λ _. 0) ≡ 0
sum_to_zero zero = refl
sum_to_zero (suc n) = omega (arith, sum_to_zero n)

-- functions with the same values below n have the same sum
pub sum_to_same : (n : ℕ) (f g : ℕ → ℕ) → ((v : ℕ) → v < n → f v ≡ g v) → sum_to n f ≡ sum_to n g
sum_to_same zero f g h = refl
sum_to_same (suc n) f g h = omega (arith, h n (omega arith), sum_to_same n f g (λ v l. h v (omega arith)))

-- as a sum over a list: the values of f at g 0, g 1, .., g (m - 1)
pub sum_values : (f g : ℕ → ℕ) (m : ℕ) → sum_to m (λ i. f (g i)) ≡ sum_by f (map g (numbers 0 m))
sum_values f g zero = refl
sum_values f g (suc m) =
    omega (arith, sum_values f g m, ap (sum_by f) (values_more g m), sum_append f (map g (numbers 0 m)) (g m ∷ []))

pub sum_to_add : (n : ℕ) (f g : ℕ → ℕ) → sum_to n (λ v. f v + g v) ≡ sum_to n f + sum_to n g
sum_to_add zero f g = omega arith
sum_to_add (suc n) f g = omega (arith, sum_to_add n f g)

-- a sum of sums over a list is one sum over the list
pub sum_to_sum_by : (n : ℕ) (f : ℕ → ℕ → ℕ) (l : List ℕ) → sum_to n (λ i. sum_by (λ x. f x i) l) ≡ sum_by (λ x. sum_to n (f x)) l
sum_to_sum_by n f [] = sum_to_zero n
sum_to_sum_by n f (x ∷ l) = sum_to_add n (f x) (λ i. sum_by (λ y. f y i) l) ∙ ap (λ (s : ℕ). sum_to n (f x) + s) (sum_to_sum_by n f l)

-- the value at 0 apart
pub sum_to_first : (n : ℕ) (f : ℕ → ℕ) → sum_to (suc n) f ≡ f 0 + sum_to n (λ v. f (suc v))
sum_to_first zero f = omega arith
sum_to_first (suc n) f = omega (arith, sum_to_first n f)

-- each value is at most the sum, and the sum over fewer numbers is no greater
pub sum_to_entry : (n x : ℕ) (f : ℕ → ℕ) → x < n → f x ≤ sum_to n f
sum_to_entry zero x f l = absurd (omega arith)
sum_to_entry (suc n) x f l = go (ℕ_discrete x n) (λ b. sum_to_entry n x f b)
  where
    go : Dec (x ≡ n) → (x < n → f x ≤ sum_to n f) → f x ≤ sum_to (suc n) f
    go (yes e) below = omega (arith, ap f e)
    go (no p) below = omega (arith, below (omega arith))

pub sum_to_fewer : (m n : ℕ) (f : ℕ → ℕ) → m ≤ n → sum_to m f ≤ sum_to n f
sum_to_fewer m zero f l = let e : m ≡ 0 = omega arith in omega (arith, ap (λ (j : ℕ). sum_to j f) e)
sum_to_fewer m (suc n) f l = go (ℕ_discrete m (suc n)) (λ b. sum_to_fewer m n f b)
  where
    go : Dec (m ≡ suc n) → (m ≤ n → sum_to m f ≤ sum_to n f) → sum_to m f ≤ sum_to (suc n) f
    go (yes e) below = omega (arith, ap (λ (j : ℕ). sum_to j f) e)
    go (no p) below = omega (arith, below (omega arith))

-- how many of the numbers below n pass a test: at most n, and at least 1 where one passes
pub passing_most : (p : ℕ → Bool) (n : ℕ) → sum_to n (λ v. bit (p v)) ≤ n
passing_most p zero = omega arith
passing_most p (suc n) = omega (arith, passing_most p n, bit_le (p n))

pub passing_one : (p : ℕ → Bool) (n v : ℕ) → v < n → T (p v) → 1 ≤ sum_to n (λ u. bit (p u))
passing_one p n v l t = omega (arith, sum_to_entry n v (λ u. bit (p u)) l, bit_passed (p v) t)

-- where no value of f is above that of g, the sum is not; where one is below it too, the sum is below
pub sum_to_le : (n : ℕ) (f g : ℕ → ℕ) → ((v : ℕ) → v < n → f v ≤ g v) → sum_to n f ≤ sum_to n g
sum_to_le zero f g h = omega arith
sum_to_le (suc n) f g h = omega (arith, h n (omega arith), sum_to_le n f g (λ v l. h v (omega arith)))

pub sum_to_lt : (n x : ℕ) (f g : ℕ → ℕ) → ((v : ℕ) → v < n → f v ≤ g v) → x < n → f x < g x → sum_to n f < sum_to n g
sum_to_lt zero x f g h l less = absurd (omega arith)
sum_to_lt (suc n) x f g h l less = go (ℕ_discrete x n) (λ k. sum_to_lt n x f g (λ v b. h v (omega arith)) k less)
  where
    go : Dec (x ≡ n) → (x < n → sum_to n f < sum_to n g) → sum_to (suc n) f < sum_to (suc n) g
    go (yes e) below = omega (arith, ap f e, ap g e, sum_to_le n f g (λ v b. h v (omega arith)))
    go (no p) below = omega (arith, h n (omega arith), below (omega arith))

-- how often x is among the numbers below n: not at all, or once
sum_to_out : (n x : ℕ) → n ≤ x → sum_to n (λ v. bit (eqb v x)) ≡ 0
sum_to_out zero x l = refl
sum_to_out (suc n) x l =
    by_eq n x (λ b. bit b + sum_to n (λ v. bit (eqb v x)) ≡ 0) (λ e. absurd (omega arith)) (λ _. omega (arith, sum_to_out n x (omega arith)))

pub sum_to_in : (n x : ℕ) → x < n → sum_to n (λ v. bit (eqb v x)) ≡ 1
sum_to_in zero x l = absurd (omega arith)
sum_to_in (suc n) x l = by_eq n x (λ b. bit b + sum_to n (λ v. bit (eqb v x)) ≡ 1)
    (λ e. omega (arith, sum_to_out n x (omega arith))) (λ p. omega (arith, sum_to_in n x (omega arith)))

-- where each value is at most 1, and the value at r is 0, the sum is less than n
pub sum_to_below : (n r : ℕ) (f : ℕ → ℕ) → r < n → ((v : ℕ) → f v ≤ 1) → f r ≡ 0 → sum_to n f < n
sum_to_below n r f l le z = go n l
  where
    all : (n : ℕ) → sum_to n f ≤ n
    all zero = omega arith
    all (suc n) = omega (arith, all n, le n)

    go : (n : ℕ) → r < n → sum_to n f < n
    go zero l = absurd (omega arith)
    go (suc n) l = pass (ℕ_discrete r n) (λ h. go n h)
      where
        pass : Dec (r ≡ n) → (r < n → sum_to n f < n) → sum_to (suc n) f < suc n
        pass (yes e) below = omega (arith, all n, ap f e)
        pass (no p) below = omega (arith, below (omega arith), le n)
