-- How many sets of each size there are. The sets of one station more are the sets without the highest station, and then those with it; so their
-- numbers are those of Pascal's triangle, and each follows from the one beside it by a product and a quotient.
-- Assumes nothing.
use Rattle.std.specs.Prelude.{ℕ, zero, suc, ◌+◌, ◌-◌, ◌*◌, ◌/◌, ◌^◌, ◌≤◌, ◌<◌, ◌≡◌, refl, Bool, false, List, [], ◌++◌, map, eqb, length}
use Rattle.std.proofs.Common.{sym, ap, ap₂, ◌∙◌, zero-add, mul-div_cancel, mul-le-mul_right, arith, length-append, eq-eqb, ne_eqb}
use Rattle.std.proofs.lemmas.List.{length-map}
use Rattle.std.specs.Int.Count.{ones, ones_in, ones-ones}
use Rattle.std.proofs.lemmas.Nat.{ones_cat}
use Rattle.lists.specs.Tests.{by_eq}
use Rattle.lists.specs.Every.{every_imp}
use Rattle.lists.specs.Numbers.{numbers, numbers_append, numbers_from, every_number}
use Rattle.lists.specs.Select.{keep, select, select_append, select_map, select_same, select_none}
use Rattle.order.specs.Order.{of_size}

-- the sets of s of the h lowest stations, and how many there are
abbrev pub sets_of : (h s : ℕ) → List ℕ
sets_of h s = of_size ones (2 ^ h) s

abbrev pub how_many : (h s : ℕ) → ℕ
how_many h s = length (sets_of h s)

-- ---- one station more

-- a set with station h is one without it, and 2^h more
ones_highest : (h w : ℕ) → w < 2 ^ h → ones (2 ^ h + w) ≡ suc (ones w)
ones_highest h w l =
    let e : 2 ^ h + w ≡ 1 * 2 ^ h + w = omega arith in
    omega (arith, ap ones e, ones_cat h 1 w l, ones-ones 1)

-- the sets of s of the h + 1 lowest stations that have the highest one
abbrev pub with_highest : (h s : ℕ) → List ℕ
with_highest h zero = []
with_highest h (suc s) = map (λ w. 2 ^ h + w) (sets_of h s)

-- they stand behind the sets without it
pub sets_more : (h s : ℕ) → sets_of (suc h) s ≡ sets_of h s ++ with_highest h s
unfolding of_size
sets_more h s =
    let half : 2 ^ suc h ≡ 2 ^ h + 2 ^ h = omega arith in
    ap (λ (n : ℕ). select (has s) (numbers 0 n)) half
    ∙ ap (select (has s)) (numbers_append 0 (2 ^ h) (2 ^ h))
    ∙ select_append (has s) (numbers 0 (2 ^ h)) (numbers (0 + 2 ^ h) (2 ^ h))
    ∙ ap (λ (l : List ℕ). sets_of h s ++ l) (ap (λ (a : ℕ). select (has s) (numbers a (2 ^ h))) (zero-add (2 ^ h)) ∙ upper s)
  where
    has : ℕ → ℕ → Bool
    has s w = eqb (ones w) s

    more : ℕ → ℕ
    more w = 2 ^ h + w

    upper : (s : ℕ) → select (has s) (numbers (2 ^ h) (2 ^ h)) ≡ with_highest h s
    upper zero =
        ap (select (has 0)) (numbers_from (2 ^ h) (2 ^ h)) ∙ select_map (has 0) more (numbers 0 (2 ^ h))
        ∙ ap (map more) (select_none (λ w. has 0 (more w)) (numbers 0 (2 ^ h))
        (every_imp (λ w. (0 ≤ w) × (w < 0 + 2 ^ h)) (λ w. has 0 (more w) ≡ false)
        (λ w b. ne_eqb (ones (more w)) 0 (λ z. omega (arith, ones_highest h w (omega arith)))) (numbers 0 (2 ^ h)) (every_number 0 (2 ^ h))))
    upper (suc s) =
        ap (select (has (suc s))) (numbers_from (2 ^ h) (2 ^ h)) ∙ select_map (has (suc s)) more (numbers 0 (2 ^ h))
        ∙ ap (map more) (select_same (λ w. has (suc s) (more w)) (has s) (numbers 0 (2 ^ h))
        (every_imp (λ w. (0 ≤ w) × (w < 0 + 2 ^ h)) (λ w. has (suc s) (more w) ≡ has s w)
        (λ w b.
        let more_ones = ones_highest h w (omega arith) in
        by_eq (ones w) s (λ c. has (suc s) (more w) ≡ c) (λ e. eq-eqb (ones (more w)) (suc s) (omega arith)) (λ n. ne_eqb (ones (more w)) (suc s) (λ e. n (omega arith)))) (numbers 0 (2 ^ h)) (every_number 0 (2 ^ h))))

-- ---- the counts

-- Pascal's rule
pub counts_more : (h s : ℕ) → how_many (suc h) s ≡ how_many h s + length (with_highest h s)
counts_more h s = ap length (sets_more h s) ∙ length-append (sets_of h s) (with_highest h s)

-- the sets with the highest station are as many as those of the other stations
pub highest_count : (h s : ℕ) → 0 < s → length (with_highest h s) ≡ how_many h (s - 1)
highest_count h zero some = absurd (omega arith)
highest_count h (suc s) some =
    let e : s ≡ suc s - 1 = omega arith in
    length-map (sets_of h s) (λ w. 2 ^ h + w) ∙ ap (how_many h) e

pascal : (h s : ℕ) → how_many (suc h) (suc s) ≡ how_many h (suc s) + how_many h s
pascal h s = counts_more h (suc s) ∙ ap (λ (x : ℕ). how_many h (suc s) + x) (length-map (sets_of h s) (λ w. 2 ^ h + w))

-- no station has one set, the empty one
one_set : how_many 0 0 ≡ 1
unfolding of_size ones ones_in
one_set = refl

no_set : (s : ℕ) → how_many 0 (suc s) ≡ 0
unfolding of_size ones ones_in
no_set s = ap (λ (b : Bool). length {A = ℕ} (keep b 0 [])) (ne_eqb 0 (suc s) (λ e. omega arith))

-- and so any number of stations
pub one_empty : (h : ℕ) → how_many h 0 ≡ 1
one_empty zero = one_set
one_empty (suc h) = omega (arith, counts_more h 0, one_empty h)

-- the sets of s + 1 of h + 1 stations, each with one of its stations chosen, are the stations, each with s of the others
times : (h s : ℕ) → suc s * how_many (suc h) (suc s) ≡ suc h * how_many h s
times zero zero = omega (arith, pascal 0 0, no_set 0, one_set)
times zero (suc s) = omega (arith, ap (λ (x : ℕ). s * x) (pascal 0 (suc s) ∙ ap₂ ◌+◌ (no_set (suc s)) (no_set s)), pascal 0 (suc s), no_set (suc s), no_set s)
times (suc h) zero = omega (arith, times h 0, pascal (suc h) 0, ap (λ (x : ℕ). h * x) (one_empty h), ap (λ (x : ℕ). h * x) (one_empty (suc h)), one_empty h, one_empty (suc h))
times (suc h) (suc s) = omega (
  arith,
  times h (suc s),
  times h s,
  pascal (suc h) (suc s),
  ap (λ (x : ℕ). s * x) (pascal (suc h) (suc s)),
  pascal h s,
  ap (λ (x : ℕ). h * x) (pascal h s),
)

-- how many sets have the highest station, by a product and a quotient
pub with_count : (h s : ℕ) → how_many (suc h) s * s / suc h ≡ length (with_highest h s)
with_count h zero = ap (λ (x : ℕ). x / suc h) (let e : how_many (suc h) 0 * 0 ≡ 0 * suc h = omega arith in e) ∙ mul-div_cancel 0 (omega arith)
with_count h (suc s) =
    ap (λ (x : ℕ). x / suc h) (let e : how_many (suc h) (suc s) * suc s ≡ how_many h s * suc h = omega (arith, times h s) in e)
    ∙ mul-div_cancel (how_many h s) (omega arith) ∙ sym (length-map (sets_of h s) (λ w. 2 ^ h + w))

-- how many sets have one station more
size_times : (k s : ℕ) → suc s * how_many k (suc s) + s * how_many k s ≡ k * how_many k s
size_times zero zero = omega (arith, no_set 0)
size_times zero (suc s) = omega (arith, ap (λ (x : ℕ). s * x) (no_set (suc s)), no_set (suc s), ap (λ (x : ℕ). s * x) (no_set s), no_set s)
size_times (suc h) zero = omega (arith, times h 0, ap (λ (x : ℕ). h * x) (one_empty h), ap (λ (x : ℕ). h * x) (one_empty (suc h)), one_empty h, one_empty (suc h))
size_times (suc h) (suc s) = omega (arith, times h (suc s), times h s, pascal h s, ap (λ (x : ℕ). h * x) (pascal h s))

pub next_count : (k s d : ℕ) → s + d ≡ k → how_many k s * d / suc s ≡ how_many k (suc s)
next_count k s d e =
    ap (λ (x : ℕ). x / suc s) (let q : how_many k s * d ≡ how_many k (suc s) * suc s = omega (arith, size_times k s, ap (λ (x : ℕ). how_many k s * x) e) in q)
    ∙ mul-div_cancel (how_many k (suc s)) (omega arith)

-- where some sets have s of k stations and there is a station more, some sets have one more
pub some_larger : (k s : ℕ) → s < k → 0 < how_many k s → 0 < how_many k (suc s)
some_larger k s more some = go (how_many k (suc s)) refl
  where
    go : (n : ℕ) → how_many k (suc s) ≡ n → 0 < how_many k (suc s)
    go zero none = absurd (omega (arith, size_times k s, ap (λ (x : ℕ). s * x) none, none, mul-le-mul_right (how_many k s) more))
    go (suc n) is = omega arith
