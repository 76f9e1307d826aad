-- One record by the fields after its mark: its length, then its own tests in document 01's order. `at` is the place of the mark; n, k, the number
-- of legs and the heard stations are those of the reading so far.
-- Assumes nothing.
use Rattle.std.specs.Prelude.{ℕ, ◌+◌, cond, Result, Ok, Err, Option, Some, None, length, ltb, leb, eqb}
use Rattle.limits.specs.Limits.{max_arcs, min_weight, max_weight}
use Rattle.answer.specs.declared.SheetFault.{SheetFault}
use Rattle.answer.specs.declared.SheetFault.TheVariants.{ShortSheet, NoSuchSite, NoSuchStation, Loop, BadPrice, TooManyLegs, AfterTheEnd, Unheard}
use Rattle.subset.specs.Sets.{full}
use Rattle.records.specs.Arcs.{arcs_of}
use Rattle.records.specs.declared.fields.Link.{Link}
use Rattle.records.specs.declared.fields.Landing.{Landing as LandingAt}
use Rattle.records.specs.declared.record.Record.{Record}
use Rattle.records.specs.declared.record.Record.TheVariants.{OneWay, BothWays, Landing, Sender}

-- a record, the end (none), or the refusal
abbrev pub Found : Type 0
Found = Result (Option Record) SheetFault

-- links: from (4), to (4), 6, 7, and 8 where the legs of the record would pass the most
abbrev pub link_tests : (at n legs start end weight : ℕ) → Record → Found
link_tests at n legs start end weight x =
    cond (leb n start) (Err (NoSuchSite at))
    (cond (leb n end) (Err (NoSuchSite at))
    (cond (eqb start end) (Err (Loop at))
    (cond (ltb weight min_weight) (Err (BadPrice at))
    (cond (ltb max_weight weight) (Err (BadPrice at))
    (cond (ltb max_arcs (legs + length (arcs_of x))) (Err (TooManyLegs at))
    (Ok (Some x)))))))

-- `LK`
abbrev pub one_way_found : (at n legs : ℕ) → Option Link → Found
one_way_found at n legs None = Err (ShortSheet at)
one_way_found at n legs (Some l) = link_tests at n legs l.start l.end l.weight (OneWay l.start l.end l.weight)

-- `BK`
abbrev pub both_ways_found : (at n legs : ℕ) → Option Link → Found
both_ways_found at n legs None = Err (ShortSheet at)
both_ways_found at n legs (Some l) = link_tests at n legs l.start l.end l.weight (BothWays l.start l.end l.weight)

-- `ST`: 5, 4
abbrev pub landing_found : (at n k : ℕ) → Option LandingAt → Found
landing_found at n k None = Err (ShortSheet at)
landing_found at n k (Some l) =
    cond (leb k l.terminal) (Err (NoSuchStation at))
    (cond (leb n l.node) (Err (NoSuchSite at))
    (Ok (Some (Landing l.terminal l.node))))

-- `SR`: 4
abbrev pub sender_found : (at n : ℕ) → Option ℕ → Found
sender_found at n None = Err (ShortSheet at)
sender_found at n (Some node) = cond (leb n node) (Err (NoSuchSite at)) (Ok (Some (Sender node)))

-- `ED`: 9, at the first byte after it, and 10; `left` is the number of bytes after the mark
abbrev pub end_found : (at k heard left : ℕ) → Found
end_found at k heard left =
    cond (ltb 0 left) (Err (AfterTheEnd (at + 2)))
    (cond (eqb heard (full k)) (Ok None)
    (Err (Unheard at)))
