-- The whole of a call, from the opening of the sheet on: a file is read against the tables that hold the sheet and divided, and a refusal of the
-- opening touches nothing.
-- Assumes nothing.
use Rattle.std.specs.Prelude.{ℕ, ◌≡◌, List}
use Rattle.std.proofs.Common.{sym, ap, ◌∙◌}
use Rattle.answer.specs.Stated.{Stated}
use Rattle.number_fields.specs.Fields.{Bytes}
use Rattle.lent_tables.specs.SheetTables.{SheetTables}
use Rattle.graph.specs.Graph.{Graph}
use Rattle.graph.specs.HeldGraph.{graph_in}
use Rattle.opener.specs.Opening.{SheetOpening, refuses, sheet_opening}
use Rattle.opener.specs.laws.Opened.{OpenedSheet}
use Rattle.network.proofs.HeldSheet.{opened_graph}
use Rattle.mission.specs.Runs.{reader_tables, with_reader_sheet, Run, run, run_opened}
use Rattle.file_reader.specs.FileAnswer.{marks_after}
use Rattle.file_shares.specs.Sharing.{sharing_to, shares_after}
use Rattle.shares.specs.SharesOf.{ShareTables, share_tables, share_further, shared_against, sharing_of}

module _ (s file : List ℕ) (t : ShareTables) where
  -- the run of an opening
  abbrev pub given : SheetOpening → Run ShareTables
  given = run_opened t (λ n k records. shared_against n k records file t)

  -- 1 to 11
  pub refusal_shared : {refusal : Stated} {after : SheetTables}
      → (sheet_opening s t.reader.tables (share_further t) ≡ refuses refusal) × (after ≡ t.reader.tables)
      → run refusal (share_tables (with_reader_sheet after t.reader) t.shares) ≡ sharing_of s file t
  refusal_shared {refusal} (opening, kept) =
      ap (λ (x : SheetTables). run refusal (share_tables (with_reader_sheet x t.reader) t.shares)) kept ∙ sym (ap given opening)

  -- the file is read and divided
  pub whole_shared : Bytes s → {after : SheetTables} {n k m : ℕ} → OpenedSheet s t.reader.tables after (share_further t) n k m
      → (answer : Stated) (marks shares : List ℕ) → answer ≡ sharing_to (graph_in n k m after) file
      → marks ≡ marks_after (graph_in n k m after) file t.reader.marks → shares ≡ shares_after (graph_in n k m after) file t.shares
      → run answer (share_tables (reader_tables after marks) shares) ≡ sharing_of s file t
  whole_shared bytes {after} {n} {k} {m} o answer marks shares told marked paid =
      let same = opened_graph s bytes t.reader.tables after (share_further t) n k m o in
      (λ i. run ((told ∙ ap (λ (G : Graph). sharing_to G file) same) i)
      (share_tables (reader_tables (o.holds i) ((marked ∙ ap (λ (G : Graph). marks_after G file t.reader.marks) same) i))
      ((paid ∙ ap (λ (G : Graph). shares_after G file t.shares) same) i)))
      ∙ sym (ap given o.opening)
