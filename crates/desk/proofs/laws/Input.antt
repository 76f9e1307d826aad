-- The text of an input, stored from the first place on: too many bytes have their own text, and any other input is a sheet.
-- Assumes nothing.
use Rattle.std.specs.Prelude.{ℕ, ◌≤◌, ◌<◌, ◌≡◌, Bool, cond, true, false, List, ltb, length}
use Rattle.std.proofs.Common.{sym, ap, arith, lt-ltb, le-ltb}
use Rattle.lists.specs.Over.{fit_over}
use Rattle.desk_words.specs.Words.{ascii}
use Rattle.desk.specs.Text.{desk_bytes, text_bytes, sheet_text, desk_text}
use Rattle.desk_words.specs.Stored.{Stored}
use Rattle.desk_words.proofs.laws.Storing.{stored_same, stored_first}

-- what is written for the input, and what is returned
abbrev Written : (input : List ℕ) → (end : ℕ) → (before after : List ℕ) → Type 0
Written input end before after = (end ≡ length (desk_text input)) × ((after ≡ fit_over (desk_text input) before) × (end ≤ text_bytes))

module _ (input : List ℕ) where
  written : {end : ℕ} {before after : List ℕ} (text : List ℕ) → text ≡ desk_text input → Stored text 0 end before after → end ≤ text_bytes
      → Written input end before after
  written text e s few = let (whole, stored) = stored_first (stored_same e s) in (whole, (stored, few))

  text_by : (b : Bool) → ltb desk_bytes (length input) ≡ b → cond b (ascii "too long\n") (sheet_text input) ≡ desk_text input
  text_by b e = ap (λ (x : Bool). cond x (ascii "too long\n") (sheet_text input)) (sym e)

  pub too_long : {end : ℕ} {before after : List ℕ} → desk_bytes < length input → Stored (ascii "too long\n") 0 end before after
      → Written input end before after
  too_long h s = written (ascii "too long\n") (text_by true (lt-ltb desk_bytes (length input) h)) s (omega (arith, s.place))

  pub short_enough : {end : ℕ} {before after : List ℕ} → length input ≤ desk_bytes → Stored (sheet_text input) 0 end before after → end ≤ text_bytes
      → Written input end before after
  short_enough h s few = written (sheet_text input) (text_by false (le-ltb desk_bytes (length input) h)) s few
