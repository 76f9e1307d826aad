-- Rising numbers, as a list: their length, their entries, and how often each occurs.
-- The values of a function at them, as a list.
-- Assumes nothing.
use Rattle.std.specs.Prelude.{ℕ, zero, suc, ◌+◌, ◌≤◌, ◌<◌, ◌≡◌, refl, ◌≢◌, List, [], ◌∷◌, ◌++◌, map, length, get_or, set, replicate, T, eqb}
use Rattle.std.proofs.Common.{sym, ap, ap₂, ◌∙◌, le_of_suc-le-suc, not-suc-le-zero, arith, length-set, ext_get_or, get_or-set_same, get_or-set_other, ne_eqb, eqb-true}
use Rattle.std.proofs.lemmas.List.{map-append, length-map, length-replicate, get_or-replicate}
use Rattle.std.proofs.Math.Decide.{ℕ_discrete}
use Rattle.std.proofs.lemmas.Bool.{eqb-false}
use Rattle.lists.specs.Tests.{by_test}
use Rattle.lists.specs.Every.{Every, every_imp}
use Rattle.lists.specs.Sorted.{Sorted}
use Rattle.lists.specs.Count.{bit, count}
use Rattle.lists.specs.Listed.{listed, listed_value, every_listed, count_listed}

-- n numbers, rising from a
abbrev pub numbers : ℕ → ℕ → List ℕ
numbers a zero = []
numbers a (suc n) = a ∷ numbers (suc a) n

pub length_numbers : (a n : ℕ) → length (numbers a n) ≡ n
length_numbers a zero = refl
length_numbers a (suc n) = ap suc (length_numbers (suc a) n)

-- entry i is a + i
pub get_d_number : (a n i d : ℕ) → i < n → get_or (numbers a n) i d ≡ a + i
get_d_number a zero i d h = absurd (not-suc-le-zero h)
get_d_number a (suc n) zero d h = omega arith
get_d_number a (suc n) (suc i) d h = get_d_number (suc a) n i d (le_of_suc-le-suc h) ∙ omega arith

-- one number more, at the end
pub numbers_more : (a n : ℕ) → numbers a (suc n) ≡ numbers a n ++ ((a + n) ∷ [])
numbers_more a zero = ap (λ (x : ℕ). x ∷ []) (omega arith)
numbers_more a (suc n) =
    ap (λ (l : List ℕ). a ∷ l) (numbers_more (suc a) n ∙ ap (λ (x : ℕ). numbers (suc a) n ++ (x ∷ [])) (omega arith))

-- two stretches of numbers, one after the other
pub numbers_append : (a m n : ℕ) → numbers a (m + n) ≡ numbers a m ++ numbers (a + m) n
numbers_append a zero n = let (e, f) : (a ≡ a + 0) × (0 + n ≡ n) = (omega arith, omega arith) in ap₂ numbers e f
numbers_append a (suc m) n =
    let e : suc m + n ≡ suc (m + n) = omega arith in
    let f : suc a + m ≡ a + suc m = omega arith in
    ap (numbers a) e ∙ ap (λ (l : List ℕ). a ∷ l) (numbers_append (suc a) m n ∙ ap (λ (x : ℕ). numbers (suc a) m ++ numbers x n) f)

-- a number of `numbers a n` is a or more, and below a + n
pub every_number : (a n : ℕ) → Every (λ x. (a ≤ x) × (x < a + n)) (numbers a n)
every_number a zero = tt
every_number a (suc n) = (
  (omega arith, omega arith),
  every_imp (λ x. (suc a ≤ x) × (x < suc a + n)) (λ x. (a ≤ x) × (x < a + suc n)) (λ x h. (omega arith, omega arith))
      (numbers (suc a) n) (every_number (suc a) n),
)

pub sorted_numbers : (a n : ℕ) → Sorted ◌<◌ (numbers a n)
sorted_numbers a zero = tt
sorted_numbers a (suc n) =
    (every_imp (λ x. (suc a ≤ x) × (x < suc a + n)) (λ x. a < x) (λ x h. h.0) (numbers (suc a) n) (every_number (suc a) n), sorted_numbers (suc a) n)

-- a number from a to a + n - 1 occurs once in `numbers a n`, and one below a does not
pub count_number_none : (w a n : ℕ) → w < a → count w (numbers a n) ≡ 0
count_number_none w a zero h = refl
count_number_none w a (suc n) h = omega (arith, count_number_none w (suc a) n (omega arith), ap bit (ne_eqb w a (λ s. omega arith)))

pub count_number : (w a n : ℕ) → a ≤ w → w < a + n → count w (numbers a n) ≡ 1
count_number w a zero l h = absurd (omega arith)
count_number w a (suc n) l h =
    by_test (eqb w a) (λ b. bit b + count w (numbers (suc a) n) ≡ 1)
    (λ e. let s = eqb-true w a e in omega (arith, count_number_none w (suc a) n (omega arith)))
    (λ e. let d = eqb-false w a e in omega (arith, count_number w (suc a) n (omega arith) (omega arith)))

-- the numbers below n are listed, and no others
pub number_listed : (n x : ℕ) → x < n → T (listed x (numbers 0 n))
number_listed n x l = count_listed x (numbers 0 n) (omega (arith, count_number x 0 n (omega arith) (omega arith)))

pub listed_number : (n x : ℕ) → T (listed x (numbers 0 n)) → x < n
listed_number n x t = let (_, l) = every_listed (λ y. (0 ≤ y) × (y < 0 + n)) (numbers 0 n) (every_number 0 n) x t in omega arith

-- ---- a function's values at 0, 1, .., n - 1

module _ (f : ℕ → ℕ) where
  -- an entry of the values at the entries of a list
  pub get_d_mapped : (l : List ℕ) (i d : ℕ) → i < length l → get_or (map f l) i d ≡ f (get_or l i d)
  get_d_mapped [] i d h = absurd (not-suc-le-zero h)
  get_d_mapped (x ∷ l) zero d h = refl
  get_d_mapped (x ∷ l) (suc i) d h = get_d_mapped l i d (le_of_suc-le-suc h)

  pub length_values : (a n : ℕ) → length (map f (numbers a n)) ≡ n
  length_values a n = length-map (numbers a n) f ∙ length_numbers a n

  pub get_d_values : (a n i d : ℕ) → i < n → get_or (map f (numbers a n)) i d ≡ f (a + i)
  get_d_values a zero i d h = absurd (not-suc-le-zero h)
  get_d_values a (suc n) zero d h = ap f (omega arith)
  get_d_values a (suc n) (suc i) d h = get_d_values (suc a) n i d (le_of_suc-le-suc h) ∙ ap f (omega arith)

  -- one value more, at the end
  pub values_more : (n : ℕ) → map f (numbers 0 (suc n)) ≡ map f (numbers 0 n) ++ (f n ∷ [])
  values_more n =
      ap (map f) (numbers_more 0 n) ∙ map-append f (numbers 0 n) ((0 + n) ∷ []) ∙ ap (λ (x : ℕ). map f (numbers 0 n) ++ (f x ∷ [])) (omega arith)

  -- each of them is listed
  pub value_in : (n i : ℕ) → i < n → T (listed (f i) (map f (numbers 0 n)))
  value_in n i l = listed_value f (numbers 0 n) i (number_listed n i l)

-- the numbers from a on are those from 0 on, and a more
pub numbers_from : (a n : ℕ) → numbers a n ≡ map (λ i. a + i) (numbers 0 n)
numbers_from a n =
    ext_get_or 0 (numbers a n) (map (λ i. a + i) (numbers 0 n)) (length_numbers a n ∙ sym (length_values (λ i. a + i) 0 n))
    (λ i l.
    let b : i < n = omega (arith, length_numbers a n) in
    get_d_number a n i 0 b ∙ omega (arith, get_d_values (λ j. a + j) 0 n i 0 b))

-- the values of two functions that agree below n
pub same_values : (f g : ℕ → ℕ) (n : ℕ) → ((i : ℕ) → i < n → f i ≡ g i) → map f (numbers 0 n) ≡ map g (numbers 0 n)
same_values f g n h =
    ext_get_or 0 (map f (numbers 0 n)) (map g (numbers 0 n)) (length_values f 0 n ∙ sym (length_values g 0 n))
    (λ i l.
    let b : i < n = omega (arith, length_values f 0 n) in
    get_d_values f 0 n i 0 b ∙ ap f (omega arith) ∙ h i b ∙ ap g (omega arith) ∙ sym (get_d_values g 0 n i 0 b))

-- the values of a function that differs from another at v alone
pub set_values : (f g : ℕ → ℕ) (n v : ℕ) → v < n → ((i : ℕ) → i ≢ v → f i ≡ g i) → set (map f (numbers 0 n)) v (g v) ≡ map g (numbers 0 n)
set_values f g n v l h =
    ext_get_or 0 (set (map f (numbers 0 n)) v (g v)) (map g (numbers 0 n)) same_length (λ i b. at i (omega (arith, same_length, length_values g 0 n)))
  where
    same_length : length (set (map f (numbers 0 n)) v (g v)) ≡ length (map g (numbers 0 n))
    same_length = length-set (map f (numbers 0 n)) v (g v) ∙ length_values f 0 n ∙ sym (length_values g 0 n)

    by : (i : ℕ) → i < n → Dec (i ≡ v) → get_or (set (map f (numbers 0 n)) v (g v)) i 0 ≡ g i
    by i b (yes e) =
        ap (λ (j : ℕ). get_or (set (map f (numbers 0 n)) v (g v)) j 0) e
        ∙ get_or-set_same (map f (numbers 0 n)) v (g v) 0 (omega (arith, length_values f 0 n)) ∙ ap g (sym e)
    by i b (no ne) =
        get_or-set_other (map f (numbers 0 n)) v i (g v) 0 ne ∙ get_d_values f 0 n i 0 b ∙ ap f (omega arith) ∙ h i ne

    at : (i : ℕ) → i < n → get_or (set (map f (numbers 0 n)) v (g v)) i 0 ≡ get_or (map g (numbers 0 n)) i 0
    at i b = by i b (ℕ_discrete i v) ∙ ap g (omega arith) ∙ sym (get_d_values g 0 n i 0 b)

-- a constant's values
pub constant_values : (n x : ℕ) → map (λ i. x) (numbers 0 n) ≡ replicate n x
constant_values n x =
    ext_get_or 0 (map (λ i. x) (numbers 0 n)) (replicate n x) (length_values (λ i. x) 0 n ∙ sym (length-replicate n x))
    (λ i l.
    let b : i < n = omega (arith, length_values (λ i. x) 0 n) in
    get_d_values (λ i. x) 0 n i 0 b ∙ sym (get_or-replicate n i x 0 b))
