-- The whole reading, from the opening of the sheet on: a file is read against the tables that hold the sheet, and a refusal of the opening touches
-- nothing.
-- Assumes nothing.
use Rattle.std.specs.Prelude.{ℕ, ◌≡◌, List}
use Rattle.std.proofs.Common.{sym, ap, ◌∙◌}
use Rattle.answer.specs.Stated.{Stated}
use Rattle.number_fields.specs.Fields.{Bytes}
use Rattle.lent_tables.specs.SheetTables.{SheetTables}
use Rattle.graph.specs.Graph.{Graph}
use Rattle.graph.specs.HeldGraph.{graph_in}
use Rattle.opener.specs.Opening.{refuses, sheet_opening}
use Rattle.opener.specs.laws.Opened.{OpenedSheet}
use Rattle.network.proofs.HeldSheet.{opened_graph}
use Rattle.mission.specs.Runs.{ReaderTables, reader_tables, with_reader_sheet, reader_further, run}
use Rattle.file_reader.specs.FileAnswer.{answer_to, marks_after}
use Rattle.plan_reader.specs.Reader.{reading_of}
use Rattle.plan_reader.specs.laws.Rules.{given}

module _ (s file : List ℕ) (t : ReaderTables) where
  -- 1 to 11
  pub refusal_read : {refusal : Stated} {after : SheetTables}
      → (sheet_opening s t.tables (reader_further t) ≡ refuses refusal) × (after ≡ t.tables)
      → run refusal (with_reader_sheet after t) ≡ reading_of s file t
  refusal_read {refusal} (opening, kept) =
      ap (λ (x : SheetTables). run refusal (with_reader_sheet x t)) kept ∙ sym (ap (given s file t) opening)

  -- the file is read
  pub whole_read : Bytes s → {after : SheetTables} {n k m : ℕ} → OpenedSheet s t.tables after (reader_further t) n k m
      → (answer : Stated) (marks : List ℕ) → answer ≡ answer_to (graph_in n k m after) file → marks ≡ marks_after (graph_in n k m after) file t.marks
      → run answer (reader_tables after marks) ≡ reading_of s file t
  whole_read bytes {after} {n} {k} {m} o answer marks told marked =
      let same = opened_graph s bytes t.tables after (reader_further t) n k m o in
      (λ i. run ((told ∙ ap (λ (G : Graph). answer_to G file) same) i)
      (reader_tables (o.holds i) ((marked ∙ ap (λ (G : Graph). marks_after G file t.marks) same) i)))
      ∙ sym (ap (given s file t) o.opening)
