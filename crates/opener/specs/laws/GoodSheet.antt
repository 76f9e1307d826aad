-- A good sheet by its numbers of sites, stations and legs: its verdict has these, with its records.
-- Assumes nothing.
use Rattle.std.specs.Prelude.{ℕ, ◌≡◌, List, length}
use Rattle.records.specs.Arcs.{arcs}
use Rattle.records.specs.declared.record.Record.{Record}
use Rattle.sheet.specs.Verdict.{Verdict, good}

pub record GoodSheet (v : Verdict) (n k m : ℕ) : Type 0 where
  pub records : List Record
  pub good_sheet : v ≡ good n k records
  pub count : length (arcs records) ≡ m
