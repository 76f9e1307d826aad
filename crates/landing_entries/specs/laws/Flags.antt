-- What the contracts speak of: see proofs/laws/Flags.antt.
-- Assumes nothing.
use Rattle.std.specs.Prelude.{ℕ, Bool, cond, List, map, get_or}
use Rattle.limits.specs.Limits.{sender_flag}
use Rattle.lists.specs.Find.{any_to}
use Rattle.lists.specs.Numbers.{numbers}
use Rattle.lists.specs.Over.{over}
use Rattle.subset.specs.Sets.{union}
use Rattle.landing_entries.specs.Entries.{is_sender_at}

-- one of the first n entries is a sender's
abbrev pub some_sender : ℕ → List ℕ → Bool
some_sender n entries = any_to (is_sender_at entries) n

-- each of the first n entries has the flag
abbrev pub all_flagged : ℕ → List ℕ → List ℕ
all_flagged n entries = over (map (λ v. union (get_or entries v 0) sender_flag) (numbers 0 n)) entries

-- each has it where none had it
abbrev pub flagged_unless_some : ℕ → List ℕ → List ℕ
flagged_unless_some n entries = cond (some_sender n entries) entries (all_flagged n entries)
