-- The answers by the tests that are made, one law each, and what the tests tell of the numbers.
-- Assumes nothing.
use Rattle.std.specs.Prelude.{ℕ, ◌*◌, ◌^◌, ◌≤◌, ◌<◌, ◌≡◌, ◌↔◌, Bool, true, false, ◌&&◌, List, leb, length}
use Rattle.std.proofs.Common.{sym, ◌∙◌, subst, lt-ltb, le-ltb, le-leb, leb-true, leb-false, pow_mono}
use Rattle.std.proofs.lemmas.Bool.{lt-leb}
use Rattle.limits.specs.Limits.{min_nodes, max_nodes, min_terminals, max_terminals, max_subsets}
use Rattle.limits.specs.Refusals.{bad_head, no_such_site, no_such_station, short_tables}
use Rattle.lists.specs.Tests.{both_true}
use Rattle.answer.specs.Stated.{cell, refused, of_sheet, of_tables}
use Rattle.cost_table.specs.Cells.{cell_in}
use Rattle.landing_entries.specs.Entries.{is_sender_at}
use Rattle.cost_table.specs.Cheapest.{column_in}
use Rattle.questions.specs.Questions.{in_range, cell_answer, best_sender, sender_answer}

-- ---- the numbers

-- what n and k in range tell: the limits of a sheet's head
pub record Range (n k : ℕ) : Type 0 where
  pub nodes : (min_nodes ≤ n) × (n ≤ max_nodes)
  pub terminals : (min_terminals ≤ k) × (k ≤ max_terminals)

pub ranged : (n k : ℕ) → in_range n k ≡ true → Range n k
ranged n k passed =
    let (before, last) = both_true (leb min_nodes n && leb n max_nodes && leb min_terminals k) (leb k max_terminals) passed in
    let (both, some_terminal) = both_true (leb min_nodes n && leb n max_nodes) (leb min_terminals k) before in
    let (low, high) = both_true (leb min_nodes n) (leb n max_nodes) both in
    record { nodes = (leb-true _ _ low, leb-true _ _ high); terminals = (leb-true _ _ some_terminal, leb-true _ _ last) }

pub in_limits : (n k : ℕ) → Range n k → in_range n k ≡ true
in_limits n k r =
    simp (le-leb _ _ r.nodes.0, le-leb _ _ r.nodes.1, le-leb _ _ r.terminals.0, le-leb _ _ r.terminals.1)

pub range_iff : (n k : ℕ) → (in_range n k ≡ true) ↔ Range n k
range_iff n k = (ranged n k, in_limits n k)

-- there are at most 1,024 sets
pub few_sets : (n k : ℕ) → Range n k → 2 ^ k ≤ max_subsets
few_sets n k r = pow_mono {j = max_terminals} r.terminals.1

-- with the number of the sets: the limits of a table, and what b, the test of its length, tells
module _ (n k sets : ℕ) (all : sets ≡ 2 ^ k) where
  pub table_limits : Range n k → (n ≤ max_nodes) × (sets ≤ max_subsets)
  table_limits r = (r.nodes.1, subst (λ (x : ℕ). x ≤ max_subsets) (sym all) (few_sets n k r))

  module _ (cells : ℕ) (b : Bool) (tested : b ≡ leb (n * sets) cells) where
    pub table_long : b ≡ true → n * 2 ^ k ≤ cells
    table_long passed = subst (λ (x : ℕ). n * x ≤ cells) all (leb-true _ _ (sym tested ∙ passed))

    pub table_short : b ≡ false → cells < n * 2 ^ k
    table_short failed = subst (λ (x : ℕ). cells < n * x) all (leb-false _ _ (sym tested ∙ failed))

-- ---- the cell

module _ (cells : List ℕ) (n k v w : ℕ) where
  -- 3
  pub cell_head : in_range n k ≡ false → cell_answer cells n k v w ≡ refused of_sheet bad_head 0
  cell_head out = simp out

  module _ (range : in_range n k ≡ true) where
    -- 11
    pub cell_short : length cells < n * 2 ^ k → cell_answer cells n k v w ≡ refused of_tables short_tables 0
    cell_short short = simp (range, lt-ltb _ _ short)

    module _ (long : n * 2 ^ k ≤ length cells) where
      -- 4
      pub cell_site : n ≤ v → cell_answer cells n k v w ≡ refused of_sheet no_such_site 0
      cell_site off = simp (range, le-ltb _ _ long, le-leb _ _ off)

      module _ (on : v < n) where
        -- 5
        pub cell_set : 2 ^ k ≤ w → cell_answer cells n k v w ≡ refused of_sheet no_such_station 0
        cell_set large = simp (range, le-ltb _ _ long, lt-leb _ _ on, le-leb _ _ large)

        -- the cell
        pub cell_stands : w < 2 ^ k → cell_answer cells n k v w ≡ cell (cell_in cells (2 ^ k) v w)
        cell_stands small = simp (range, le-ltb _ _ long, lt-leb _ _ on, lt-leb _ _ small)

-- ---- the best sender

module _ (cells landings : List ℕ) (n k w : ℕ) where
  -- 3
  pub sender_head : in_range n k ≡ false → sender_answer cells landings n k w ≡ refused of_sheet bad_head 0
  sender_head out = simp out

  module _ (range : in_range n k ≡ true) where
    -- 11: the cells
    pub sender_short : length cells < n * 2 ^ k → sender_answer cells landings n k w ≡ refused of_tables short_tables 0
    sender_short short = simp (range, lt-ltb _ _ short)

    module _ (long : n * 2 ^ k ≤ length cells) where
      -- and the landing sets
      pub sender_few : length landings < n → sender_answer cells landings n k w ≡ refused of_tables short_tables 0
      sender_few few = simp (range, le-ltb _ _ long, lt-ltb _ _ few)

      module _ (enough : n ≤ length landings) where
        -- 5
        pub sender_set : 2 ^ k ≤ w → sender_answer cells landings n k w ≡ refused of_sheet no_such_station 0
        sender_set large = simp (range, le-ltb _ _ long, le-ltb _ _ enough, le-leb _ _ large)

        -- the best sender
        pub sender_stands : w < 2 ^ k → sender_answer cells landings n k w ≡ best_sender (is_sender_at landings) (column_in cells k w) n
        sender_stands small = simp (range, le-ltb _ _ long, le-ltb _ _ enough, lt-leb _ _ small)
