-- A reading state with room for one record more: what the code adds up fits its numbers.
-- Assumes nothing.
use Rattle.std.specs.Prelude.{ℕ, ◌+◌, ◌≤◌, ◌<◌, ◌^◌, List, length, drop}
use Rattle.std.proofs.Common.{arith, length-drop}
use Rattle.limits.specs.Limits.{max_terminals, max_arcs}
use Rattle.records.specs.Records.{size, RecordOk}
use Rattle.records.specs.Arcs.{arcs_of}
use Rattle.records.specs.Landings.{LandsOne}
use Rattle.record_tests.proofs.laws.Passed.{Passed}
use Rattle.records.specs.declared.record.Record.{Record}
use Rattle.records.specs.declared.record.Record.TheVariants.{OneWay, BothWays, Landing, Sender}
use Rattle.reading.specs.declared.Reading.{Reading}

pub record Room (r : Reading) (x : Record) : Type 0 where
  pub offset : r.offset + size x < 2 ^ 64
  pub arcs : r.arcs + length (arcs_of x) < 2 ^ 16
  pub terminals : r.k ≤ max_terminals
  pub ok : RecordOk r.n r.k x

-- the station of a landing is one of ten
pub lands_one : (r : Reading) (x : Record) → Room r x → LandsOne x
lands_one r (OneWay start end weight) room = tt
lands_one r (BothWays start end weight) room = tt
lands_one r (Landing terminal node) room = omega (arith, room.ok.0, room.terminals)
lands_one r (Sender node) room = tt

-- where a record is found, there is room for it
pub room_found : (r : Reading) (s : List ℕ) (x : Record) → r.arcs ≤ max_arcs → r.k ≤ max_terminals → r.offset ≤ length s → length s < 2 ^ 64
    → Passed r.n r.k r.arcs (drop r.offset s) x → Room r x
room_found r s x a k o l p =
    record {
      offset = omega (arith, p.whole, length-drop r.offset s);
      arcs = omega (arith, p.few a);
      terminals = k;
      ok = p.ok;
    }
