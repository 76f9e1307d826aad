-- An entry of the landing table. Its lowest ten bits are the set of stations that can be heard at its site (document 01, "The cost table"); the bit
-- worth 1,024 says that the site is a sender (document 02, W-201): "The flag joins the site's landing entry as the value 1,024."
-- Assumes nothing.
use Rattle.std.specs.Prelude.{ℕ, ◌+◌, ◌/◌, ◌%◌, ◌^◌, Bool, cond, List, eqb, get_or}
use Rattle.limits.specs.Limits.{max_terminals, sender_flag}

-- the entry of a site with these stations, where it is a sender or not
abbrev pub entry_of : (terminals : ℕ) → Bool → ℕ
entry_of terminals sender = terminals + cond sender sender_flag 0

-- the stations that an entry says
abbrev pub terminals_in : ℕ → ℕ
terminals_in entry = entry % 2 ^ max_terminals

-- whether it says that its site is a sender
abbrev pub sender_in : ℕ → Bool
sender_in entry = eqb (entry / sender_flag % 2) 1

-- and so of entry v of a landing table
abbrev pub is_sender_at : List ℕ → ℕ → Bool
is_sender_at landings v = sender_in (get_or landings v 0)
