-- The flags of the first n entries of a table: whether there is one, the table with all of them, and the table with all of them where there was
-- none.
-- Assumes nothing.
use Rattle.std.specs.Prelude.{ℕ, ◌≡◌, ◌≤◌, ◌<◌, ◌↔◌, Bool, true, false, cond, IsTrue, List, length, take, SomeIndex}
use Rattle.std.proofs.Common.{ap, sym, ◌∙◌, subst, arith, true≢false, refl}
use Rattle.std.proofs.lemmas.List.{get_or-take, length-take-le}
use Rattle.lists.specs.Find.{any_at, any_found}
use Rattle.lists.specs.Tests.{by_test, fact_true, true_fact}
use Rattle.landing_entries.specs.Entries.{sender_in, is_sender_at}
use Rattle.landing_entries.specs.laws.Flags.{some_sender, all_flagged, flagged_unless_some}

-- by the test of the flags
pub none_flagged : (n : ℕ) (entries : List ℕ) → some_sender n entries ≡ false → flagged_unless_some n entries ≡ all_flagged n entries
none_flagged n entries e = ap (λ (b : Bool). cond b entries (all_flagged n entries)) e

pub some_flagged : (n : ℕ) (entries : List ℕ) → some_sender n entries ≡ true → flagged_unless_some n entries ≡ entries
some_flagged n entries e = ap (λ (b : Bool). cond b entries (all_flagged n entries)) e

-- by a search among the first n entries
module _ (n : ℕ) (entries : List ℕ) (few : n ≤ length entries) where
  among : (v : ℕ) → v < n → is_sender_at (take n entries) v ≡ is_sender_at entries v
  among v below = ap sender_in (get_or-take n entries v 0 below)

  pub some_among : (b : Bool) → (IsTrue b ↔ SomeIndex (take n entries) (λ v. IsTrue (is_sender_at (take n entries) v))) → some_sender n entries ≡ b
  some_among true found =
      let (v, on, is) = found.0 refl in
      let below : v < n = omega (arith, length-take-le n entries few) in
      any_found (is_sender_at entries) n v below (sym (among v below) ∙ is)
  some_among false found =
      by_test (some_sender n entries) (λ _. some_sender n entries ≡ false)
      (λ some.
      let (v, below, is) = any_at (is_sender_at entries) n (true_fact some) in
      absurd (true≢false (sym (found.1 (v, omega (arith, length-take-le n entries few), among v below ∙ fact_true is)))))
      (λ none. none)
