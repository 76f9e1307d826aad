-- How often a number occurs in a list: in lists put together, among the entries that pass a test,
-- and where it stands if it occurs.
-- Assumes nothing.
use Rattle.std.specs.Prelude.{ℕ, zero, suc, ◌+◌, ◌≤◌, ◌<◌, ◌≡◌, refl, Bool, true, false, not, List, [], ◌∷◌, ◌++◌, T, eqb, length, get_or}
use Rattle.std.proofs.Common.{sym, ap, ◌∙◌, subst, arith, ne_eqb, eqb-true}
use Rattle.lists.specs.Tests.{by_test}
use Rattle.lists.specs.Select.{keep, select}

-- 1 where the test passes, else 0
abbrev pub bit : Bool → ℕ
bit true = 1
bit false = 0

pub bit_le : (b : Bool) → bit b ≤ 1
bit_le true = omega arith
bit_le false = omega arith

pub bit_passed : (b : Bool) → T b → bit b ≡ 1
bit_passed true t = refl
bit_passed false t = absurd t

-- how often w occurs in a list
abbrev pub count : ℕ → List ℕ → ℕ
count w [] = 0
count w (x ∷ l) = bit (eqb w x) + count w l

pub count_append : (w : ℕ) (a b : List ℕ) → count w (a ++ b) ≡ count w a + count w b
count_append w [] b = omega arith
count_append w (x ∷ a) b = omega (arith, count_append w a b)

-- numbers that a test tells apart are not equal
apart : (p : ℕ → Bool) (x y : ℕ) → p x ≡ true → p y ≡ false → eqb x y ≡ false
apart p x y t f = ne_eqb x y (λ e. subst T (sym t ∙ ap p e ∙ f) tt)

-- selected by a test that it passes, w occurs as often as before; by a test that it fails, it does not occur
pub count_select : (w : ℕ) (p : ℕ → Bool) (l : List ℕ) → p w ≡ true → count w (select p l) ≡ count w l
count_select w p [] q = refl
count_select w p (x ∷ l) q =
    let later = count_select w p l q in
    by_test (p x) (λ b. count w (keep b x (select p l)) ≡ bit (eqb w x) + count w l) (λ e. omega arith) (λ e. omega (arith, ap bit (apart p w x q e)))

pub count_select_none : (w : ℕ) (p : ℕ → Bool) (l : List ℕ) → p w ≡ false → count w (select p l) ≡ 0
count_select_none w p [] q = refl
count_select_none w p (x ∷ l) q =
    let later = count_select_none w p l q in
    by_test (p x) (λ b. count w (keep b x (select p l)) ≡ 0) (λ e. omega (arith, ap bit (apart (λ y. not (p y)) w x (ap not q) (ap not e)))) (λ e. later)

-- a number that occurs stands at a position
pub count_position : (w : ℕ) (l : List ℕ) → 0 < count w l → (i : ℕ) × (i < length l) × (get_or l i 0 ≡ w)
count_position w [] h = absurd (omega arith)
count_position w (x ∷ l) h =
    by_test (eqb w x) (λ b. 0 < bit b + count w l → (i : ℕ) × (i < suc (length l)) × (get_or (x ∷ l) i 0 ≡ w))
    (λ e g. (zero, omega arith, sym (eqb-true w x e)))
    (λ e g. let r = count_position w l (omega arith) in (suc r.0, omega (arith, r.1), r.2))
    h
