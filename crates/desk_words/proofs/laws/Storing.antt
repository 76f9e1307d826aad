-- Laws of what is stored in a text: lists stored one after the other, a list stored byte by byte, and a list stored from the first place on.
-- Assumes nothing.
use Rattle.std.specs.Prelude.{ℕ, ◌+◌, ◌<◌, ◌≤◌, ◌≡◌, refl, List, [], ◌++◌, length, get_or, take, set}
use Rattle.std.proofs.Common.{sym, ap, ◌∙◌, subst, add-one, arith, length-append, take-suc, take_all}
use Rattle.lists.specs.Over.{fit_over}
use Rattle.lists.specs.Stores.{sets_then, sets_fit}
use Rattle.desk_words.specs.Stored.{Stored}

-- nothing
pub stored_none : {at : ℕ} {text : List ℕ} → Stored [] at at text text
stored_none = record { place = omega arith; stored = refl }

-- one list, and then another
pub stored_then : {a b : List ℕ} {at middle next : ℕ} {before between after : List ℕ} → Stored a at middle before between
    → Stored b middle next between after → Stored (a ++ b) at next before after
stored_then {a} {b} {at} {middle} {next} {before} {between} {after} first second =
    record {
      place = second.place ∙ omega (arith, first.place, length-append a b);
      stored = sets_then a b before between after at middle first.stored first.place second.stored;
    }

-- the same list, otherwise written
pub stored_same : {a b : List ℕ} {at next : ℕ} {before after : List ℕ} → a ≡ b → Stored a at next before after → Stored b at next before after
stored_same {a} {b} {at} {next} {before} {after} e s = subst (λ (l : List ℕ). Stored l at next before after) e s

-- one byte more of a word
pub stored_byte : (word : List ℕ) (at i : ℕ) {before between after : List ℕ} → i < length word → Stored (take i word) at (at + i) before between
    → after ≡ set between (at + i) (get_or word i 0) → Stored (take (i + 1) word) at (at + (i + 1)) before after
stored_byte word at i h s e =
    stored_same (sym (take-suc word i 0 h) ∙ ap (λ (j : ℕ). take j word) (sym (add-one i)))
    (stored_then s (record { place = omega arith; stored = e }))

-- the whole word
pub stored_word : (word : List ℕ) (at i : ℕ) {before after : List ℕ} → length word ≤ i → Stored (take i word) at (at + i) before after
    → Stored word at (at + i) before after
stored_word word at i h s = stored_same (take_all i word h) s

-- from the first place on
pub stored_first : {bytes before after : List ℕ} {next : ℕ} → Stored bytes 0 next before after
    → (next ≡ length bytes) × (after ≡ fit_over bytes before)
stored_first {bytes} {before} {after} {next} s = (s.place ∙ omega arith, s.stored ∙ sets_fit bytes before)
