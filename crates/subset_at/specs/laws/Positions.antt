-- Which set of a size stands at a position among them, station by station, the highest first: from how many sets have it.
-- Assumes nothing.
use Rattle.std.specs.Prelude.{ℕ, zero, suc, ◌+◌, ◌-◌, ◌^◌, ◌<◌, ◌≡◌, refl, List, [], ◌∷◌, eqb, length, get_or}
use Rattle.std.proofs.Common.{ap, ◌∙◌, arith, get_or-append-add}
use Rattle.std.proofs.lemmas.List.{length-map}
use Rattle.std.proofs.Math.ListN.{get_or-append}
use Rattle.std.specs.Int.Count.{ones}
use Rattle.lists.specs.Tests.{by_test}
use Rattle.lists.specs.Numbers.{get_d_mapped}
use Rattle.lists.specs.Select.{keep}
use Rattle.order.specs.Order.{of_size}
use Rattle.subset_at.specs.laws.Counts.{sets_of, how_many, with_highest, sets_more}

-- the set of s of the h lowest stations that has b of them before it
abbrev pub set_of : (h s b : ℕ) → ℕ
set_of h s b = get_or (sets_of h s) b 0

-- of one station more, the sets without the highest station stand first
pub set_without : (h s b : ℕ) → b < how_many h s → set_of (suc h) s b ≡ set_of h s b
set_without h s b l =
    ap (λ (o : List ℕ). get_or o b 0) (sets_more h s) ∙ get_or-append (sets_of h s) (with_highest h s) 0 b l

-- and then those with it, by their other stations
pub set_with : (h s b : ℕ) → b < length (with_highest h s) → (0 < s) × (set_of (suc h) s (how_many h s + b) ≡ 2 ^ h + set_of h (s - 1) b)
set_with h zero b l = absurd (omega arith)
set_with h (suc s) b l =
    let few : b < how_many h s = omega (arith, length-map (sets_of h s) (λ w. 2 ^ h + w)) in
    let e : s ≡ suc s - 1 = omega arith in (
      omega arith,
      ap (λ (o : List ℕ). get_or o (how_many h (suc s) + b) 0) (sets_more h (suc s))
          ∙ get_or-append-add (sets_of h (suc s)) (with_highest h (suc s)) b 0
          ∙ get_d_mapped (λ w. 2 ^ h + w) (sets_of h s) b 0 few
          ∙ ap (λ (x : ℕ). 2 ^ h + set_of h x b) e,
    )

-- of no station there is the empty set alone
pub set_none : (s b : ℕ) → set_of 0 s b ≡ 0
unfolding of_size
set_none s b = by_test (eqb (ones 0) s) (λ c. get_or {A = ℕ} (keep c 0 []) b 0 ≡ 0) (λ _. first b) (λ _. refl)
  where
    first : (b : ℕ) → get_or {A = ℕ} (0 ∷ []) b 0 ≡ 0
    first zero = refl
    first (suc b) = refl
