-- The answer to a sheet and a plan file with shares, and every table afterwards (document 02, W-204): "Refusals and tables are the plan reader's; a
-- share table under k entries counts in 11, and its first k entries are written only on acceptance." The answer to a file against the sheet's graph
-- is defined in crate file_shares.
-- Assumes nothing.
use Rattle.std.specs.Prelude.{ℕ, List, length}
use Rattle.records.specs.declared.record.Record.{Record}
use Rattle.lent_tables.specs.Lengths.{share_lengths}
use Rattle.lent_tables.specs.declared.FurtherLengths.{FurtherLengths}
use Rattle.record_tables.specs.Loaded.{loaded}
use Rattle.opener.specs.Opening.{sheet_opening}
use Rattle.network.specs.Network.{graph_of}
use Rattle.mission.specs.Runs.{ReaderTables, reader_tables, Run, run, run_opened}
use Rattle.file_reader.specs.FileAnswer.{marks_after}
use Rattle.file_shares.specs.Sharing.{sharing_to, shares_after}

-- what is lent: the plan reader's tables, and the share table
pub record ShareTables : Type 0 where
  pub reader : ReaderTables
  pub shares : List ℕ

abbrev pub share_tables : ReaderTables → List ℕ → ShareTables
share_tables reader shares = record { reader = reader; shares = shares }

-- beside the tables that hold a sheet the marks and the shares are needed: "a share table under k entries counts in 11"
abbrev pub share_further : ShareTables → FurtherLengths
share_further t = share_lengths (length t.reader.marks) (length t.shares)

-- the file against the sheet: the leg and landing tables are filled, the marks are the plan reader's, and the shares are written on acceptance
abbrev pub shared_against : ℕ → ℕ → List Record → List ℕ → ShareTables → Run ShareTables
shared_against n k records file t =
    run (sharing_to (graph_of n k records) file)
    (share_tables (reader_tables (loaded n records t.reader.tables) (marks_after (graph_of n k records) file t.reader.marks))
    (shares_after (graph_of n k records) file t.shares))

-- by the opening of the sheet: a refusal, 1 to 11, which touches nothing; or the file is read against the sheet and divided
abbrev pub sharing_of : (sheet file : List ℕ) → ShareTables → Run ShareTables
sharing_of sheet file t =
    run_opened t (λ n k records. shared_against n k records file t) (sheet_opening sheet t.reader.tables (share_further t))
