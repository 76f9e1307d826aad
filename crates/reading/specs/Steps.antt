-- One record further: what stands at the start of the bytes that are left, by its mark, and the reading state after it.
-- Assumes nothing.
use Rattle.std.specs.Prelude.{ℕ, ◌+◌, cond, Result, Ok, Err, Option, Some, None, List, length, drop, ltb, eqb}
use Rattle.limits.specs.Marks.{mark_lk, mark_bk, mark_st, mark_sr, mark_ed}
use Rattle.answer.specs.declared.SheetFault.{SheetFault}
use Rattle.answer.specs.declared.SheetFault.TheVariants.{ShortSheet, StrangeMark}
use Rattle.subset.specs.Sets.{union}
use Rattle.number_fields.specs.Fields.{number16}
use Rattle.records.specs.Records.{link_fields, landing_fields, sender_fields, size}
use Rattle.records.specs.Arcs.{arcs_of}
use Rattle.records.specs.Landings.{heard_by}
use Rattle.record_tests.specs.Tests.{Found, one_way_found, both_ways_found, landing_found, sender_found, end_found}
use Rattle.records.specs.declared.record.Record.{Record}
use Rattle.reading.specs.declared.Reading.{Reading}

-- what stands at the start of the bytes that are left; the fields after the mark are a stretch of their own
abbrev pub found_in : Reading → List ℕ → Found
found_in r bytes =
    cond (ltb (length bytes) 2) (Err (ShortSheet r.offset))
    (cond (eqb (number16 bytes 0) mark_lk) (one_way_found r.offset r.n r.arcs (link_fields (drop 2 bytes)))
    (cond (eqb (number16 bytes 0) mark_bk) (both_ways_found r.offset r.n r.arcs (link_fields (drop 2 bytes)))
    (cond (eqb (number16 bytes 0) mark_st) (landing_found r.offset r.n r.k (landing_fields (drop 2 bytes)))
    (cond (eqb (number16 bytes 0) mark_sr) (sender_found r.offset r.n (sender_fields (drop 2 bytes)))
    (cond (eqb (number16 bytes 0) mark_ed) (end_found r.offset r.k r.heard.0 (length (drop 2 bytes)))
    (Err (StrangeMark r.offset)))))))

-- the state after one record more
abbrev pub after : Reading → Record → Reading
after r x =
    record {
      offset = r.offset + size x;
      n = r.n;
      k = r.k;
      arcs = r.arcs + length (arcs_of x);
      heard = record { 0 = union r.heard.0 (heard_by x) };
    }

-- one record further: the state after it, the end (none), or the refusal
abbrev pub Step : Type 0
Step = Result (Option Reading) SheetFault

abbrev pub step_after : Reading → Found → Step
step_after r (Ok (Some x)) = Ok (Some (after r x))
step_after r (Ok None) = Ok None
step_after r (Err f) = Err f

abbrev pub step_of : Reading → List ℕ → Step
step_of r sheet = step_after r (found_in r (drop r.offset sheet))
