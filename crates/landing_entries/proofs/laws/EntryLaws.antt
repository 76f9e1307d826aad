-- An entry says the stations and the flag that it was made of. Two entries put together have the stations and the flag of either, so that a
-- repeat changes nothing.
-- Assumes nothing.
use Rattle.std.specs.Prelude.{ℕ, ◌+◌, ◌*◌, ◌/◌, ◌%◌, ◌^◌, ◌<◌, ◌≡◌, Bool, true, false, cond, ◌||◌}
use Rattle.std.proofs.Common.{sym, ap, ap₂, ◌∙◌, arith, eq-eqb, ne_eqb}
use Rattle.std.proofs.Math.Bool.{or-true}
use Rattle.std.proofs.lemmas.Nat.{or_block}
use Rattle.std.specs.Int.Bits.{or_zero_l, or_zero_r, or_self}
use Rattle.limits.specs.Limits.{max_terminals, sender_flag}
use Rattle.subset.specs.Sets.{union}
use Rattle.landing_entries.specs.Entries.{entry_of, terminals_in, sender_in}

module _ (w : ℕ) (low : w < 2 ^ max_terminals) where
  pub terminals_said : (sender : Bool) → terminals_in (entry_of w sender) ≡ w
  terminals_said true = omega arith
  terminals_said false = omega arith

  pub sender_said : (sender : Bool) → sender_in (entry_of w sender) ≡ sender
  sender_said true = eq-eqb ((w + sender_flag) / sender_flag % 2) 1 (omega arith)
  sender_said false = ne_eqb ((w + 0) / sender_flag % 2) 1 (λ e. omega arith)

-- ---- two entries put together

-- the flag's bit, above the set
flag_bit : Bool → ℕ
flag_bit sender = cond sender 1 0

above : (w : ℕ) (sender : Bool) → entry_of w sender ≡ flag_bit sender * 2 ^ max_terminals + w
unfolding flag_bit
above w true = omega arith
above w false = omega arith

bits_join : (p q : Bool) → union (flag_bit p) (flag_bit q) ≡ flag_bit (p || q)
unfolding flag_bit
bits_join true true = or_self 1
bits_join true false = or_zero_r 1
bits_join false q = or_zero_l (flag_bit q)

-- have the stations and the flag of either
pub entries_join : (a b : ℕ) (p q : Bool) → a < 2 ^ max_terminals → b < 2 ^ max_terminals
    → union (entry_of a p) (entry_of b q) ≡ entry_of (union a b) (p || q)
entries_join a b p q low-a low-b =
    ap₂ union (above a p) (above b q) ∙ or_block max_terminals (flag_bit p) (flag_bit q) a b low-a low-b
    ∙ ap (λ (x : ℕ). x * 2 ^ max_terminals + union a b) (bits_join p q) ∙ sym (above (union a b) (p || q))

-- so the flag that joins an entry makes its site a sender
pub flag_joins : (w : ℕ) (sender : Bool) → w < 2 ^ max_terminals → union (entry_of w sender) sender_flag ≡ entry_of w true
flag_joins w sender low =
    entries_join w 0 sender true low (omega arith) ∙ ap₂ entry_of (or_zero_r w) (or-true sender)
