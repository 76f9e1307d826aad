-- The lent tables that hold the index of the legs by their end (document 02, W-202): "leg numbers, one entry a leg", and "n + 1 starting places". A
-- table is the list of its entries.
-- Assumes nothing.
use Rattle.std.specs.Prelude.{ℕ, List}

pub record IndexTables : Type 0 where
  -- leg numbers by the end of the leg, one entry a leg
  pub by_end : List ℕ
  -- starting places, one entry a site and one more
  pub places : List ℕ

abbrev pub index_tables : (by_end places : List ℕ) → IndexTables
index_tables by_end places = record { by_end = by_end; places = places }
