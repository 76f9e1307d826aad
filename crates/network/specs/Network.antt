-- The graph that a sheet describes, by its sites, stations and records. (`graphIn` of crate graph is the graph that lent tables hold.)
-- Assumes nothing.
use Rattle.std.specs.Prelude.{ℕ, ◌&&◌, List, ltb, length}
use Rattle.graph.specs.Graph.{Graph}
use Rattle.records.specs.Arcs.{arcs, arc_at}
use Rattle.records.specs.Landings.{terminals_at}
use Rattle.records.specs.Senders.{is_sender}
use Rattle.records.specs.declared.record.Record.{Record}

-- the graph of a sheet with n sites and k stations; no site is charged, and the senders may be a root
abbrev pub graph_of : (n k : ℕ) → List Record → Graph
graph_of n k records = record {
  nodes = n;
  terminals = k;
  arcs = length (arcs records);
  start = λ e. (arc_at records e).start;
  end = λ e. (arc_at records e).end;
  weight = λ e. (arc_at records e).weight;
  landings = terminals_at records;
  charge = λ v. 0;
  may_root = λ v. ltb v n && is_sender records v;
}
