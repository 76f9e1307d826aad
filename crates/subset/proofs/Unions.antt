-- The sets of several things put together: which stations they have, of two lists one after the other, and with one entry more.
-- Assumes nothing.
use Rattle.std.specs.Prelude.{ℕ, ◌+◌, ◌≤◌, ◌<◌, ◌≡◌, refl, ◌⊎◌, ◌↔◌, T}
use Rattle.std.proofs.Common.{sym, ap, ◌∙◌, subst, inl, inr, add-one, arith}
use mathlib.Core.List.{List, [], ◌∷◌, ◌++◌, Memᴰ}
use Rattle.std.specs.Int.Bits.{or_zero_l, or_zero_r}
use Rattle.lists.specs.Every.{every_mem}
use Rattle.lists.specs.Members.{listed_member}
use Rattle.lists.specs.Numbers.{numbers, numbers_more, every_number, value_in}
use Rattle.subset.specs.Sets.{has, union}
use Rattle.subset.specs.laws.Terminals.{has_empty}
use Rattle.subset.specs.laws.Parts.{part_has, part_union_left, part_union_right, union_has, union_assoc}
use Rattle.subset.specs.Unions.{unions, union_to}

module _ {A : Type 0} (set : A → ℕ) where
  pub unions_append : (a b : List A) → unions set (a ++ b) ≡ union (unions set a) (unions set b)
  unions_append [] b = sym (or_zero_l (unions set b))
  unions_append (x ∷ a) b = ap (union (set x)) (unions_append a b) ∙ sym (union_assoc (set x) (unions set a) (unions set b))

  pub unions_more : (l : List A) (x : A) → unions set (l ++ (x ∷ [])) ≡ union (unions set l) (set x)
  unions_more l x = unions_append l (x ∷ []) ∙ ap (union (unions set l)) (or_zero_r (set x))

  -- a station of it is in the set of one of the entries
  pub unions_has : (l : List A) (i : ℕ) → T (has (unions set l) i) → (x : A) × Memᴰ x l × T (has (set x) i)
  unions_has [] i t = absurd (subst T (has_empty i) t)
  unions_has (x ∷ l) i t = go (unions_has l i) (union_has (set x) (unions set l) i t)
    where
      go : (T (has (unions set l) i) → (y : A) × Memᴰ y l × T (has (set y) i)) → T (has (set x) i) ⊎ T (has (unions set l) i)
          → (y : A) × Memᴰ y (x ∷ l) × T (has (set y) i)
      go later (inl u) = (x, Memᴰ.head refl, u)
      go later (inr u) = let m = later u in (m.0, Memᴰ.tail m.1, m.2)

  -- and the stations of each entry's set are in it
  pub has_unions : {x : A} {l : List A} (i : ℕ) → Memᴰ x l → T (has (set x) i) → T (has (unions set l) i)
  has_unions {x} i (Memᴰ.head {x = y} {xs = l} e) t =
      part_has (set y) (union (set y) (unions set l)) (part_union_left (set y) (unions set l)) i (subst (λ (z : A). T (has (set z) i)) e t)
  has_unions {x} i (Memᴰ.tail {x = y} {xs = l} m) t =
      part_has (unions set l) (union (set y) (unions set l)) (part_union_right (set y) (unions set l)) i (has_unions i m t)

-- one number more
pub union_to_more : (n : ℕ) (f : ℕ → ℕ) → union_to (n + 1) f ≡ union (union_to n f) (f n)
union_to_more n f =
    let last : 0 + n ≡ n = omega arith in
    ap (λ (m : ℕ). union_to m f) (add-one n) ∙ ap (unions f) (numbers_more 0 n) ∙ unions_more f (numbers 0 n) (0 + n)
    ∙ ap (λ (m : ℕ). union (union_to n f) (f m)) last

-- a station is in them exactly where it is in one of the sets
pub has_union_to : (n : ℕ) (f : ℕ → ℕ) (i : ℕ) → T (has (union_to n f) i) ↔ ((v : ℕ) × (v < n) × T (has (f v) i))
has_union_to n f i = (
  (λ t.
      let (v, m, h) = unions_has f (numbers 0 n) i t in
      let (_, l) = every_mem (λ x. (0 ≤ x) × (x < 0 + n)) (every_number 0 n) m in
      (v, omega (arith, l), h)),
  (λ p.
      let (v, l, h) = p in
      let (x, m, e) = listed_member (λ y. y) (numbers 0 n) v (value_in (λ y. y) n v l) in
      has_unions f i m (subst (λ (z : ℕ). T (has (f z) i)) (sym e) h)),
)
