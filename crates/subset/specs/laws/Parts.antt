-- Parts of a set, and the rest: a part has no other stations than the whole, and a part and the rest of it make the whole.
-- The library has four of the laws: lib.Bits.and-self (a set is a part of itself), and_zero_l (the empty set is a part of every set) and
-- or-lt (the union of sets below 2^k is below 2^k), and lib.Pow.ones-lt (the full set for k stations is below 2^k).
-- Assumes nothing.
use Rattle.std.specs.Prelude.{ℕ, zero, suc, ◌+◌, ◌-◌, ◌/◌, ◌%◌, ◌^◌, ◌≤◌, ◌<◌, ◌≡◌, refl, ◌≢◌, ◌⊎◌, ◌↔◌, Bool, true, ◌||◌, T, eqb}
use Rattle.std.proofs.Common.{sym, ap, ◌∙◌, subst, mod-eq_of_lt, arith, eqb→eq, ltb→lt, lt→ltb, eq-eqb, eqb-true}
use Rattle.std.proofs.Math.Bool.{or_assoc}
use Rattle.std.proofs.Math.Arith.{bin_ind}
use lib.Pow.{lt_of_le_ones, pow_pos, pow-lt}
use lib.Bits.{bit_and, and_step, and_comm, and_le_r, and_le_l, and_zero_l, and_mask, or_disjoint}
use Rattle.lists.specs.Tests.{eq_fact, and_right, or_cases, or_left, or_right}
use Rattle.subset.specs.Sets.{full, single, has, Part, is_part, rest, union}
use Rattle.subset.specs.laws.Terminals.{has_zero, has_suc, has_and, has_union, has_single, has_full}

-- ---- a part, and its stations

-- the test of a part
pub is_part_part : (y w : ℕ) → is_part y w ≡ true → Part y w
is_part_part y w e = eqb-true (bit_and y w) y e

pub part_is_part : (y w : ℕ) → Part y w → is_part y w ≡ true
part_is_part y w p = eq-eqb (bit_and y w) y p

-- every station of a part is in the whole
pub part_has : (y w : ℕ) → Part y w → (i : ℕ) → T (has y i) → T (has w i)
part_has y w p i t = and_right (has y i) (has w i) (subst T (ap (λ (x : ℕ). has x i) (sym p) ∙ has_and y w i) t)

-- a set whose every station is in w is a part of w
pub has_part : (y w : ℕ) → ((i : ℕ) → T (has y i) → T (has w i)) → Part y w
has_part = bin_ind (λ (y : ℕ). (w : ℕ) → ((i : ℕ) → T (has y i) → T (has w i)) → Part y w) (λ w h. and_zero_l w) step
  where
    low : (y w : ℕ) → (T (has y 0) → T (has w 0)) → y % 2 ≤ w % 2
    low y w h = go (y % 2) refl
      where
        go : (d : ℕ) → y % 2 ≡ d → d ≤ w % 2
        go zero e = omega arith
        go (suc zero) e =
            let o = subst T (has_zero w) (h (subst T (sym (has_zero y ∙ ap (λ (x : ℕ). eqb x 1) e)) tt)) in
            omega (arith, eqb→eq (w % 2) 1 o)
        go (suc (suc d)) e = absurd (omega arith)

    step : (y : ℕ) → ((w : ℕ) → ((i : ℕ) → T (has (y / 2) i) → T (has w i)) → Part (y / 2) w)
        → (w : ℕ) → ((i : ℕ) → T (has y i) → T (has w i)) → Part y w
    step y half w h =
        let s = and_step y w in
        let l = low y w (h 0) in
        let r = half (w / 2) (λ i t. subst T (has_suc w i) (h (suc i) (subst T (sym (has_suc y i)) t))) in
        omega arith

-- a part of a part is a part
pub part_trans : (x y w : ℕ) → Part x y → Part y w → Part x w
part_trans x y w p q = has_part x w (λ i t. part_has y w q i (part_has x y p i t))

-- two sets that are parts of each other are equal
pub part_antisym : (a b : ℕ) → Part a b → Part b a → a ≡ b
part_antisym a b p q = sym p ∙ and_comm a b ∙ q

-- two sets with the same stations are equal
pub same_terminals : (a b : ℕ) → ((i : ℕ) → has a i ≡ has b i) → a ≡ b
same_terminals a b h =
    part_antisym a b (has_part a b (λ i t. subst T (h i) t)) (has_part b a (λ i t. subst T (sym (h i)) t))

pub part_le : (y w : ℕ) → Part y w → y ≤ w
part_le y w p = subst (λ (x : ℕ). x ≤ w) p (and_le_r y w)

-- a single station's set is a part of each set that has the station
pub single_part : (i w : ℕ) → T (has w i) → Part (single i) w
single_part i w t =
    has_part (single i) w (λ j s. subst (λ (x : ℕ). T (has w x)) (eqb→eq i j (subst T (has_single i j) s)) t)

-- ---- the full set

-- a number is a part of the full set exactly where it is below 2^k
pub lt_part : (k w : ℕ) → w < 2 ^ k → Part w (full k)
lt_part k w h = and_mask w k ∙ mod-eq_of_lt h

pub part_lt : (k w : ℕ) → Part w (full k) → w < 2 ^ k
part_lt k w p = lt_of_le_ones k (part_le w (full k) p)

-- with a station the full set is not empty, and neither is a single station's set
pub full_ne : (k : ℕ) → 1 ≤ k → full k ≢ 0
full_ne k l e = omega (arith, pow-lt {i = 0} {j = k} l)

pub single_ne : (i : ℕ) → single i ≢ 0
single_ne i e = omega (arith, pow_pos i)

-- a set whose stations are below k is below 2^k
pub terminals_lt : (k w : ℕ) → ((i : ℕ) → T (has w i) → i < k) → w < 2 ^ k
terminals_lt k w h = part_lt k w (has_part w (full k) (λ i t. subst T (sym (has_full k i)) (lt→ltb i k (h i t))))

-- the full set is a part of a set exactly where the set has every station below k
pub full_within : (k w : ℕ) → Part (full k) w ↔ ((i : ℕ) → i < k → T (has w i))
full_within k w = (
  (λ p i l. part_has (full k) w p i (subst T (sym (has_full k i)) (lt→ltb i k l))),
  (λ h. has_part (full k) w (λ i t. h i (ltb→lt i k (subst T (has_full k i) t)))),
)

pub full_part : (k w : ℕ) → T (is_part (full k) w) ↔ ((i : ℕ) → i < k → T (has w i))
full_part k w =
    let (there, back) = full_within k w in
    ((λ t. there (eqb→eq (bit_and (full k) w) (full k) t)), (λ h. eq_fact (back h)))

-- a set below 2^k is the full set exactly where it has every station below k
pub every_full : (k w : ℕ) → w < 2 ^ k → ((i : ℕ) → i < k → T (has w i)) → w ≡ full k
every_full k w l h = let (_, part) = full_within k w in part_antisym w (full k) (lt_part k w l) (part h)

pub full_every : (k w : ℕ) → w ≡ full k → (i : ℕ) → i < k → T (has w i)
full_every k w e i l = subst T (sym (ap (λ (x : ℕ). has x i) e ∙ has_full k i)) (lt→ltb i k l)

-- ---- the union

-- the union of three sets, however they are grouped
pub union_assoc : (a b c : ℕ) → union (union a b) c ≡ union a (union b c)
union_assoc a b c = same_terminals (union (union a b) c) (union a (union b c)) λ i.
    has_union (union a b) c i ∙ ap (λ (t : Bool). t || has c i) (has_union a b i) ∙ or_assoc (has a i) (has b i) (has c i)
    ∙ sym (has_union a (union b c) i ∙ ap (λ (t : Bool). has a i || t) (has_union b c i))

-- a station of the union is in one of the two sets
pub union_has : (a b i : ℕ) → T (has (union a b) i) → T (has a i) ⊎ T (has b i)
union_has a b i t = or_cases (has a i) (has b i) (subst T (has_union a b i) t)

-- each set is a part of the union
pub part_union_left : (a b : ℕ) → Part a (union a b)
part_union_left a b = has_part a (union a b) (λ i t. subst T (sym (has_union a b i)) (or_left (has a i) (has b i) t))

pub part_union_right : (a b : ℕ) → Part b (union a b)
part_union_right a b = has_part b (union a b) (λ i t. subst T (sym (has_union a b i)) (or_right (has a i) (has b i) t))

-- two sets with no station in common are parts of their sum
pub part_sum : (y z : ℕ) → bit_and y z ≡ 0 → Part y (y + z)
part_sum y z d = subst (λ (x : ℕ). Part y x) (or_disjoint y z d) (part_union_left y z)

pub part_sum_right : (y z : ℕ) → bit_and y z ≡ 0 → Part z (y + z)
part_sum_right y z d = subst (λ (x : ℕ). Part z x) (or_disjoint y z d) (part_union_right y z)

-- ---- a part and the rest

-- the rest of a part is the difference
pub rest_difference : (w y : ℕ) → Part y w → rest w y ≡ w - y
rest_difference w y p = ap (λ (x : ℕ). w - x) (and_comm w y ∙ p)

-- the rest is a part too
pub rest_part : (w y : ℕ) → Part (rest w y) w
rest_part = bin_ind (λ (w : ℕ). (y : ℕ) → Part (rest w y) w) (λ y. refl) step
  where
    step : (w : ℕ) → ((y : ℕ) → Part (rest (w / 2) y) (w / 2)) → (y : ℕ) → Part (rest w y) w
    step w half y =
        let s = and_step w y in
        let l = and_le_l (w / 2) (y / 2) in
        let e : rest w y / 2 ≡ rest (w / 2) (y / 2) = omega arith in
        let h = half (y / 2) in
        let t = and_step (rest w y) w in
        omega (arith, ap (λ (x : ℕ). bit_and x (w / 2)) e)

pub difference_part : (w y : ℕ) → Part y w → Part (w - y) w
difference_part w y p = subst (λ (x : ℕ). Part x w) (rest_difference w y p) (rest_part w y)

-- a part and the rest have no station in common
pub rest_disjoint : (w y : ℕ) → Part y w → bit_and y (w - y) ≡ 0
rest_disjoint = bin_ind (λ (w : ℕ). (y : ℕ) → Part y w → bit_and y (w - y) ≡ 0) base step
  where
    base : (y : ℕ) → Part y 0 → bit_and y (0 - y) ≡ 0
    base y p = let l = part_le y 0 p in rw (let z : y ≡ 0 = omega arith in z) refl

    step : (w : ℕ) → ((y : ℕ) → Part y (w / 2) → bit_and y (w / 2 - y) ≡ 0) → (y : ℕ) → Part y w → bit_and y (w - y) ≡ 0
    step w half y p =
        let s = and_step y w in
        let l = and_le_l (y / 2) (w / 2) in
        let r = half (y / 2) (omega arith) in
        let u = part_le (y / 2) (w / 2) (omega arith) in
        let e : (w - y) / 2 ≡ w / 2 - y / 2 = omega arith in
        omega (arith, and_step y (w - y), ap (bit_and (y / 2)) e)

-- and they make the whole
pub part_and_rest : (w y : ℕ) → Part y w → y + (w - y) ≡ w
part_and_rest w y p = omega (arith, part_le y w p)

-- the rest of a part that is not the whole is not empty, and that of one that is not empty is not the whole
pub rest_some : (w y : ℕ) → Part y w → y ≢ w → w - y ≢ 0
rest_some w y p proper e = proper (omega (arith, part_le y w p))

pub rest_proper : (w y : ℕ) → Part y w → y ≢ 0 → w - y ≢ w
rest_proper w y p some e = some (omega (arith, part_le y w p))
