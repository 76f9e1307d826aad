-- What the enquirer answers (document 01, "The cost table" and "What is sent back"): "It gives the cell for a site and a subset. Asked for the best
-- sender of a subset, it gives a site whose cell is least and finite, or "none"". The best sender is judged among the senders, by the landing sets,
-- which "count in its 11" (document 02, W-201). "Where several senders have the least cell, the enquirer names the lowest" (W-203).
-- Assumes nothing.
use Rattle.std.specs.Prelude.{ℕ, ◌*◌, ◌^◌, Bool, not, cond, ◌&&◌, List, ltb, leb, length}
use Rattle.std.proofs.Math.Option.{Option, none, some}
use Rattle.limits.specs.Limits.{min_nodes, max_nodes, min_terminals, max_terminals, no_cost}
use Rattle.limits.specs.Refusals.{bad_head, no_such_site, no_such_station, short_tables}
use Rattle.lists.specs.Cheapest.{lowest_cheapest}
use Rattle.answer.specs.Stated.{Stated, cell, sender, no_sender, refused, of_sheet, of_tables}
use Rattle.landing_entries.specs.Entries.{is_sender_at}
use Rattle.cost_table.specs.Cells.{cell_in}

-- n sites and k stations are what a sheet may have; else 3, "n or k out of range"
abbrev pub in_range : (n k : ℕ) → Bool
in_range n k = leb min_nodes n && leb n max_nodes && leb min_terminals k && leb k max_terminals

-- the cell of site v and the subset w: "Enquirer: 3, 11, 4, 5, place 0"
abbrev pub cell_answer : (cells : List ℕ) → (n k v w : ℕ) → Stated
cell_answer cells n k v w =
    cond (not (in_range n k)) (refused of_sheet bad_head 0)
    (cond (ltb (length cells) (n * 2 ^ k)) (refused of_tables short_tables 0)
    (cond (leb n v) (refused of_sheet no_such_site 0)
    (cond (leb (2 ^ k) w) (refused of_sheet no_such_station 0)
    (cell (cell_in cells (2 ^ k) v w)))))

-- the cheapest sender is named where its cell is finite; else, and where no site is a sender, the answer is "none"
abbrev pub named : (c : ℕ → ℕ) → Option ℕ → Stated
named c none = no_sender
named c (some v) = cond (ltb (c v) no_cost) (sender v) no_sender

-- of n sites, where site u has the cell c u: the lowest of the senders whose cell is least, or "none"
abbrev pub best_sender : (is_sender : ℕ → Bool) (c : ℕ → ℕ) (n : ℕ) → Stated
best_sender is_sender c n = named c (lowest_cheapest is_sender c n)

-- the best sender of the subset w, in which no site is asked: 3, 11, 5
abbrev pub sender_answer : (cells landings : List ℕ) → (n k w : ℕ) → Stated
sender_answer cells landings n k w =
    cond (not (in_range n k)) (refused of_sheet bad_head 0)
    (cond (ltb (length cells) (n * 2 ^ k)) (refused of_tables short_tables 0)
    (cond (ltb (length landings) n) (refused of_tables short_tables 0)
    (cond (leb (2 ^ k) w) (refused of_sheet no_such_station 0)
    (best_sender (is_sender_at landings) (λ v. cell_in cells (2 ^ k) v w) n))))
