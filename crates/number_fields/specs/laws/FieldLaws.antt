-- Numbers and their bytes: the number of a number's bytes is that number, the bytes of the number at a place are the bytes there, and what the
-- stores of a number leave.
-- Assumes nothing.
use Rattle.std.specs.Prelude.{ℕ, ◌+◌, ◌*◌, ◌/◌, ◌%◌, ◌≤◌, ◌<◌, ◌^◌, ◌≡◌, List, ◌∷◌, ◌++◌, length, get_or, drop, set}
use Rattle.std.proofs.Common.{sym, ap, ap₂, ◌∙◌, subst, add-one, arith, drop-cons, get_or-drop}
use Rattle.std.proofs.lemmas.List.Edits.{sets}
use Rattle.lists.specs.Every.{at_every, every_drop}
use Rattle.number_fields.specs.Fields.{Bytes, number8, number16, number32, bytes16, bytes32}

-- ---- from a number to its bytes and back

pub number16_bytes : (x : ℕ) (rest : List ℕ) → x < 2 ^ 16 → number16 (bytes16 x ++ rest) 0 ≡ x
number16_bytes x rest h = omega arith

pub number32_bytes : (x : ℕ) (rest : List ℕ) → x < 2 ^ 32 → number32 (bytes32 x ++ rest) 0 ≡ x
number32_bytes x rest h =
    omega (arith, number16_bytes (x / 65536) (bytes16 (x % 65536) ++ rest) (omega arith), number16_bytes (x % 65536) rest (omega arith))

-- ---- from bytes to their number and back

-- the number of two bytes at a place of what is left of a list
pub number16_drop : (n at : ℕ) (s : List ℕ) → number16 (drop n s) at ≡ number16 s (n + at)
number16_drop n at s =
    let e : n + (at + 1) ≡ n + at + 1 = omega arith in
    ap₂ (λ (a b : ℕ). a * 256 + b) (get_or-drop n s at 0) (get_or-drop n s (at + 1) 0 ∙ ap (λ (i : ℕ). get_or s i 0) e)

-- the number x of one byte stands at a place
pub field8 : (s : List ℕ) (at x : ℕ) → at + 1 ≤ length s → number8 s at ≡ x → drop at s ≡ x ∷ drop (at + 1) s
field8 s at x h e = drop-cons s at 0 (omega arith) ∙ ap₂ (λ (b j : ℕ). b ∷ drop j s) e (sym (add-one at))

-- a list is bytes where each entry, however far, is below 256
pub known_bytes : (s : List ℕ) → ((i : ℕ) → get_or s i 0 < 256) → Bytes s
known_bytes s known = at_every (λ (b : ℕ). b < 256) s 0 (λ i _. known i)

module _ (s : List ℕ) (bytes : Bytes s) where
  -- an entry is below 256
  byte_at : (at : ℕ) → at < length s → get_or s at 0 < 256
  byte_at at h = (subst Bytes (drop-cons s at 0 h) (every_drop (λ (b : ℕ). b < 256) at s bytes)).0

  -- the number of two or of four bytes fits them
  pub number16_fits : (at : ℕ) → at + 2 ≤ length s → number16 s at < 2 ^ 16
  number16_fits at h = omega (arith, byte_at at (omega arith), byte_at (at + 1) (omega arith))

  pub number32_fits : (at : ℕ) → at + 4 ≤ length s → number32 s at < 2 ^ 32
  number32_fits at h = omega (arith, number16_fits at (omega arith), number16_fits (at + 2) (omega arith))

  -- the number x of two or of four bytes stands at a place
  pub field16 : (at x : ℕ) → at + 2 ≤ length s → number16 s at ≡ x → drop at s ≡ bytes16 x ++ drop (at + 2) s
  field16 at x h e =
      let a = byte_at at (omega arith) in
      let b = byte_at (at + 1) (omega arith) in
      let j : at + 1 + 1 ≡ at + 2 = omega arith in
      field8 s at (x / 256 % 256) (omega arith) (omega arith)
      ∙ ap (λ (l : List ℕ). x / 256 % 256 ∷ l) (field8 s (at + 1) (x % 256) (omega arith) (omega arith))
      ∙ ap (λ (i : ℕ). bytes16 x ++ drop i s) j

  pub field32 : (at x : ℕ) → at + 4 ≤ length s → number32 s at ≡ x → drop at s ≡ bytes32 x ++ drop (at + 4) s
  field32 at x h e =
      let low = number16_fits (at + 2) (omega arith) in
      let j : at + 2 + 2 ≡ at + 4 = omega arith in
      field16 at (x / 65536) (omega arith) (omega arith)
      ∙ ap (λ (l : List ℕ). bytes16 (x / 65536) ++ l) (field16 (at + 2) (x % 65536) (omega arith) (omega arith))
      ∙ ap (λ (i : ℕ). bytes32 x ++ drop i s) j

-- ---- stores

-- a number's two bytes are stored one after the other
pub put_number : (l : List ℕ) (at x : ℕ) → x < 2 ^ 16 → set (set l at (x / 256)) (at + 1) (x % 256) ≡ sets l at (bytes16 x)
put_number l at x h =
    let high : x / 256 ≡ x / 256 % 256 = omega arith in
    ap₂ (λ (b j : ℕ). set (set l at b) j (x % 256)) high (add-one at)
