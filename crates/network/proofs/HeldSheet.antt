-- An opened sheet is held by its tables, and the graph that they hold is that of the sheet.
-- Assumes nothing.
use Rattle.std.specs.Prelude.{ℕ, ◌+◌, ◌≤◌, ◌<◌, ◌≡◌, List, length, get_or}
use Rattle.std.proofs.Common.{sym, ap₂, ◌∙◌, subst, subst₂, arith}
use Rattle.limits.specs.Limits.{max_weight, no_cost}
use Rattle.number_fields.specs.Fields.{Bytes}
use Rattle.lists.specs.Over.{over}
use Rattle.lent_tables.specs.SheetTables.{SheetTables}
use Rattle.arc_index.specs.Index.{by_end, places}
use Rattle.arc_index.specs.laws.Indexed.{WholeIndex}
use Rattle.arc_index.proofs.laws.Indexed.{whole_index}
use Rattle.graph.specs.Graph.{Graph, Sound}
use Rattle.graph.specs.HeldGraph.{graph_in, end_in}
use Rattle.graph.specs.LeastTotals.{Room}
use Rattle.sheet.specs.laws.Good.{IsSheet, good_is_sheet}
use Rattle.opener.specs.laws.Opened.{OpenedSheet, still_long}
use Rattle.lent_tables.specs.declared.FurtherLengths.{FurtherLengths}
use Rattle.network.specs.Network.{graph_of}
use Rattle.network.proofs.laws.Loaded.{loaded_graph}
use Rattle.network.proofs.laws.OfSheets.{sheet_sound, sheet_weights, sheet_room}
use Rattle.network.specs.HeldSheet.{HeldSheet}

-- each leg ends at a site, as a program reads its end
pub ends_below : {n k m : ℕ} {t : SheetTables} {f : FurtherLengths} → HeldSheet n k m t f → (e : ℕ) → e < m → get_or t.ends e 0 < n
ends_below {n} {k} {m} {t} H e on = omega (arith, end_in n k m t e on, H.sound.end_lt e on)

-- the tables of the index, once they are filled
pub held_index : {n k m : ℕ} {t : SheetTables} {f : FurtherLengths} {by_end' places' : List ℕ} → HeldSheet n k m t f → (old old' : List ℕ) → m ≤ length old → n + 1 ≤ length old'
    → by_end' ≡ over (by_end n m (graph_in n k m t).end) old → places' ≡ over (places n m (graph_in n k m t).end) old'
    → WholeIndex n m (graph_in n k m t).end by_end' places'
held_index {n} {k} {m} {t} H old old' long long' e e' =
    subst₂ (WholeIndex n m (graph_in n k m t).end) (sym e) (sym e') (whole_index n m (graph_in n k m t).end H.sound.end_lt old old' long long')

module _ (s : List ℕ) (bytes : Bytes s) (before after : SheetTables) (f : FurtherLengths) (n k m : ℕ) (o : OpenedSheet s before after f n k m) where
  is_sheet : IsSheet s n k o.judged.records
  is_sheet = good_is_sheet s bytes n k o.judged.records o.judged.good_sheet

  -- the graph that the tables hold is that of the sheet
  pub opened_graph : graph_in n k m after ≡ graph_of n k o.judged.records
  opened_graph =
      ap₂ (λ (i : ℕ) (t : SheetTables). graph_in n k i t) (sym o.judged.count) o.holds
      ∙ loaded_graph n k o.judged.records before is_sheet.terminals.1 is_sheet.each

  -- what the graph of the sheet has, the graph that the tables hold has
  as_held : (P : Graph → Type 0) → P (graph_of n k o.judged.records) → P (graph_in n k m after)
  as_held P h = subst P (sym opened_graph) h

  pub opened_held : HeldSheet n k m after f
  opened_held = record {
    nodes = is_sheet.nodes;
    terminals = is_sheet.terminals;
    few_arcs = omega (arith, o.judged.count, is_sheet.few);
    sound = as_held Sound (sheet_sound n k o.judged.records is_sheet.each);
    weights_low = λ e l.
        as_held (λ (G : Graph). G.weight e ≤ max_weight) (sheet_weights n k o.judged.records is_sheet.each e (omega (arith, o.judged.count)));
    room = as_held (λ (G : Graph). Room G no_cost) (sheet_room n k o.judged.records is_sheet.nodes.1 is_sheet.each);
    long = still_long o;
  }
