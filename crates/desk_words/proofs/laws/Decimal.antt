-- Laws of decimal numbers: the rule without turns, and that the digits which the library's `io::decimal` writes are these.
-- Assumes nothing.
use Rattle.std.specs.Prelude.{ℕ, zero, suc, ◌+◌, ◌-◌, ◌/◌, ◌%◌, ◌^◌, ◌≤◌, ◌<◌, ◌≡◌, Bool, true, false, cond, List, [], ◌∷◌, ◌++◌, ltb}
use Rattle.std.proofs.Common.{sym, ap, ◌∙◌, subst, pow-suc, arith, lt-ltb, le-ltb, ltb-true, ltb-false}
use Rattle.std.proofs.Math.Nat.{one-le-pow, pow-le-pow_right}
use Rattle.std.proofs.Math.Decide.{dec_lt}
use Rattle.io.specs.Digits.{hex_digit_ascii, last_digits, IsDigitCount}
use Rattle.lists.specs.Tests.{by_test}
use Rattle.desk_words.specs.Words.{digit, decimal_in, decimal}

-- one turn
next : Bool → ℕ → ℕ → List ℕ
next b m n = elim b [ true ↦ digit n | false ↦ decimal_in m (n / 10) ++ digit (n % 10) ]

small_turn : (m n : ℕ) → n < 10 → decimal_in (suc m) n ≡ digit n
unfolding next
small_turn m n h = ap (λ (b : Bool). next b m n) (lt-ltb n 10 h)

large_turn : (m n : ℕ) → 10 ≤ n → decimal_in (suc m) n ≡ decimal_in m (n / 10) ++ digit (n % 10)
unfolding next
large_turn m n h = ap (λ (b : Bool). next b m n) (le-ltb n 10 h)

-- more turns than the number change nothing
pub more_turns : (m j n : ℕ) → n < m → n < j → decimal_in m n ≡ decimal_in j n
more_turns zero j n l h = absurd (omega arith)
more_turns (suc m) zero n l h = absurd (omega arith)
more_turns (suc m) (suc j) n l h =
    by_test (ltb n 10) (λ _. decimal_in (suc m) n ≡ decimal_in (suc j) n)
    (λ t. let s = ltb-true n 10 t in small_turn m n s ∙ sym (small_turn j n s))
    (λ t.
    let s = ltb-false n 10 t in
    large_turn m n s ∙ ap (λ (l : List ℕ). l ++ digit (n % 10)) (more_turns m j (n / 10) (omega arith) (omega arith)) ∙ sym (large_turn j n s))

-- the rule without turns
pub decimal_small : (n : ℕ) → n < 10 → decimal n ≡ digit n
unfolding decimal
decimal_small n h = small_turn n n h

pub decimal_large : (n : ℕ) → 10 ≤ n → decimal n ≡ decimal (n / 10) ++ digit (n % 10)
unfolding decimal
decimal_large n h = large_turn n n h ∙ ap (λ (l : List ℕ). l ++ digit (n % 10)) (more_turns n (suc (n / 10)) (n / 10) (omega arith) (omega arith))

-- the fewest digits that hold a number
glyph_digit : (d : ℕ) → d < 10 → (hex_digit_ascii d ∷ []) ≡ digit d
glyph_digit d h = ap (λ (b : Bool). cond b (48 + d) (87 + d) ∷ []) (lt-ltb d 10 h)

pub digits_decimal : (k n : ℕ) → IsDigitCount 10 1 n k → last_digits 10 k n ≡ decimal n
digits_decimal zero n (some-digit, _, _) = absurd (omega arith)
digits_decimal (suc zero) n (_, holds, _) =
    glyph_digit (n % 10) (omega arith) ∙ ap digit (omega (arith, holds)) ∙ sym (decimal_small n (omega (arith, holds)))
digits_decimal (suc (suc k)) n (_, holds, fewest) =
    let least : 10 ^ suc k ≤ n = subst (λ (j : ℕ). 10 ^ j ≤ n) (minus_one (suc k)) (fewest (omega arith)) in
    let below : n / 10 < 10 ^ suc k = omega (arith, holds, pow-suc 10 (suc k)) in
    let tenth : 10 ^ k ≤ n / 10 = omega (arith, least, pow-suc 10 k) in
    let large : 10 ≤ n = omega (arith, tenth, one-le-pow k 10 (omega arith)) in
    ap (λ (l : List ℕ). l ++ (hex_digit_ascii (n % 10) ∷ []))
    (digits_decimal (suc k) (n / 10) (omega arith, below, λ _. subst (λ (j : ℕ). 10 ^ j ≤ n / 10) (sym (minus_one k)) tenth))
    ∙ ap (λ (l : List ℕ). decimal (n / 10) ++ l) (glyph_digit (n % 10) (omega arith))
    ∙ sym (decimal_large n large)
  where
    minus_one : (j : ℕ) → suc j - 1 ≡ j
    minus_one j = omega arith

-- a number of eight bytes has at most 20 digits
pub few_digits : (k n : ℕ) → IsDigitCount 10 1 n k → n < 2 ^ 64 → k ≤ 20
few_digits k n (_, _, fewest) small = go (dec_lt 20 k)
  where
    go : Dec (20 < k) → k ≤ 20
    go (yes h) =
        let powers : 10 ^ 20 ≤ 10 ^ (k - 1) = pow-le-pow_right {n = 10} (omega arith) {i = 20} {j = k - 1} (omega arith) in
        absurd (omega (arith, fewest (omega arith), powers))
    go (no h) = omega arith
