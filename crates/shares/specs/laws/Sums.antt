-- "Refusals and tables are the plan reader's; a share table under k entries counts in 11, and its first k entries are written only on acceptance. For
-- every accepted plan the shares and the unassigned sum make the total of leg prices." (document 02, W-204)
-- Assumes nothing.
use Rattle.std.specs.Prelude.{ℕ, ◌+◌, ◌≤◌, ◌<◌, ◌≡◌, refl, List, length, get_or}
use Rattle.std.proofs.Common.{sym, ap, ◌∙◌, subst, subst₂, true≢false, arith}
use Rattle.std.proofs.Math.Option.{Option, none, some}
use Rattle.limits.specs.Refusals.{short_tables}
use Rattle.lists.specs.Tests.{by_test}
use Rattle.lists.specs.Numbers.{get_d_values, length_values}
use Rattle.lists.specs.Over.{get_d_over}
use Rattle.lists.specs.Sums.{sum_by, sum_to, sum_to_same}
use Rattle.answer.specs.Stated.{Stated, plan, shared, cell, sender, no_sender, refused, of_tables, stated_sheet, stated_refusal}
use Rattle.answer.proofs.laws.OneToOne.{refusal_stated}
use Rattle.answer.specs.declared.PlanFault.{PlanFault}
use Rattle.answer.specs.declared.SheetFault.{SheetFault}
use Rattle.answer.specs.declared.TableFault.TheVariants.{ShortTables}
use Rattle.answer.specs.declared.Refusal.{Refusal}
use Rattle.answer.specs.declared.Refusal.TheVariants.{Sheet, Tables, PlanFile}
use Rattle.lent_tables.specs.Lengths.{AllLong, are_long}
use Rattle.lent_tables.specs.laws.LengthLaws.{test_long, long_passes}
use Rattle.graph.specs.Graph.{Graph}
use Rattle.graph.proofs.laws.SubtreeParts.{total_weights}
use Rattle.records.specs.Arcs.{arcs}
use Rattle.records.specs.declared.record.Record.{Record}
use Rattle.sheet.specs.Verdict.{good, bad, verdict}
use Rattle.opener.specs.Opening.{SheetOpening}
use Rattle.opener.specs.laws.Cases.{opening_bad, opening_short, opening_good, by_opening_cases}
use Rattle.network.specs.Network.{graph_of}
use Rattle.planfile.specs.Format.{root_in, total_in, count_in, arcs_in}
use Rattle.mission.specs.Runs.{ReaderTables, ReaderLong, reader_further, GoodWith, Run, run}
use Rattle.file_tests.specs.FileFaults.{file_fault, or_else}
use Rattle.plan_tests.specs.PlanFaults.{tree_fault}
use Rattle.file_reader.specs.FileAnswer.{answered, answer_to}
use Rattle.file_reader.proofs.laws.Accepted.{accepted_file}
use Rattle.plan_shares.specs.Shares.{share_of, shares_of, unassigned}
use Rattle.plan_shares.proofs.laws.Parts.{shares_whole}
use Rattle.file_shares.specs.Sharing.{with_unassigned, shares_by, sharing_to, shares_after}
use Rattle.plan_reader.specs.Reader.{reading_of}
use Rattle.plan_reader.specs.laws.Rules.{tables_short, file_read}
use Rattle.shares.specs.SharesOf.{ShareTables, share_further, shared_against, sharing_of}
use Rattle.shares.specs.laws.Whole.{given}

-- ---- the plan reader's refusals and tables

-- all needed tables are long enough for n sites, k stations and so many legs
abbrev pub ShareLong : (n k arc_count : ℕ) → ShareTables → Type 0
ShareLong n k arc_count t = AllLong n k arc_count t.reader.tables (share_further t)

-- a run is that of the plan reader, with shares: its answer, every table of the plan reader, and the share table
pub record ReadWithShares (G : Graph) (file before : List ℕ) (read : Run ReaderTables) (share : Run ShareTables) : Type 0 where
  pub answer : share.answer ≡ with_unassigned G file read.answer
  pub tables : share.after.reader ≡ read.after
  pub shares : share.after.shares ≡ shares_by G file before read.answer

module _ (sheet file : List ℕ) (t : ShareTables) where
  -- 1 to 10 touch nothing
  pub sheet_refused : (fault : SheetFault) → verdict sheet ≡ bad fault → sharing_of sheet file t ≡ run (stated_sheet fault) t
  sheet_refused fault e = ap (given sheet file t) (opening_bad sheet t.reader.tables (share_further t) fault e)

  module _ (n k : ℕ) (records : List Record) (e : verdict sheet ≡ good n k records) where
    -- the tables are long enough where those of the plan reader are, and the share table has k entries
    share_long : ReaderLong n k (length (arcs records)) t.reader → k ≤ length t.shares → ShareLong n k (length (arcs records)) t
    share_long long enough = record {
      tables = long.tables;
      further = record { by_end = tt; places = tt; cells = tt; marks = long.further.marks; shares = enough };
    }

    pub long_read : ShareLong n k (length (arcs records)) t → ReaderLong n k (length (arcs records)) t.reader
    long_read long = record {
      tables = long.tables;
      further = record { by_end = tt; places = tt; cells = tt; marks = long.further.marks; shares = tt };
    }

    short_opened : (ShareLong n k (length (arcs records)) t → ⊥) → sharing_of sheet file t ≡ run (refused of_tables short_tables 0) t
    short_opened short = ap (given sheet file t) (opening_short sheet t.reader.tables (share_further t) n k records e short)

    -- "a share table under k entries counts in 11"
    pub shares_short : length t.shares < k → sharing_of sheet file t ≡ run (refused of_tables short_tables 0) t
    shares_short few = short_opened (λ long. omega (arith, long.further.shares))

    -- with long enough tables the file is read and divided
    pub file_shared : ShareLong n k (length (arcs records)) t → sharing_of sheet file t ≡ shared_against n k records file t
    file_shared long = ap (given sheet file t) (opening_good sheet t.reader.tables (share_further t) n k records e long)

    -- else "Refusals and tables are the plan reader's"
    pub as_read : k ≤ length t.shares → ReadWithShares (graph_of n k records) file t.shares (reading_of sheet file t.reader) (sharing_of sheet file t)
    as_read enough = by_test (are_long n k (length (arcs records)) t.reader.tables (reader_further t.reader)) (λ _. ReadHere)
        (λ h.
        let long = test_long n k (length (arcs records)) t.reader.tables (reader_further t.reader) h in
        both (file_read sheet file t.reader n k records e long) (file_shared (share_long long enough)) (record { answer = refl; tables = refl; shares = refl }))
        (λ h.
        let short : ReaderLong n k (length (arcs records)) t.reader → ⊥ =
        λ long. true≢false (sym (long_passes n k (length (arcs records)) t.reader.tables (reader_further t.reader) long) ∙ h) in
        both (tables_short sheet file t.reader n k records e short) (short_opened (λ long. short (long_read long)))
        (record { answer = refl; tables = refl; shares = refl }))
      where
        ReadHere : Type 0
        ReadHere = ReadWithShares (graph_of n k records) file t.shares (reading_of sheet file t.reader) (sharing_of sheet file t)

        both : {read : Run ReaderTables} {share : Run ShareTables} → reading_of sheet file t.reader ≡ read → sharing_of sheet file t ≡ share
            → ReadWithShares (graph_of n k records) file t.shares read share → ReadHere
        both read share there = subst₂ (ReadWithShares (graph_of n k records) file t.shares) (sym read) (sym share) there

-- ---- the shares make the total

-- an answer with shares
abbrev IsShared : Stated → Type 0
IsShared (shared root cost count rest) = Unit {0}
IsShared (plan root cost count) = ⊥
IsShared (cell cost) = ⊥
IsShared (sender node) = ⊥
IsShared no_sender = ⊥
IsShared (refused family number place) = ⊥

not_shared : (refusal : Refusal) → IsShared (stated_refusal refusal) → ⊥
not_shared refusal h = let (number, place, is) = refusal_stated refusal in subst IsShared is h

-- the shares, the unassigned sum and the total of a plan file
pub record MakesTotal (G : Graph) (file shares : List ℕ) (cost rest : ℕ) : Type 0 where
  -- "the shares and the unassigned sum make the total of leg prices"
  pub leg_prices : sum_to G.terminals (λ i. get_or shares i 0) + rest ≡ sum_by G.weight (arcs_in file)
  -- which is the total that stands in the file
  pub total_is : cost ≡ sum_by G.weight (arcs_in file)

-- of a file that is accepted with shares
pub record SharedFile (G : Graph) (file : List ℕ) (root cost count rest : ℕ) : Type 0 where
  pub accepted : answer_to G file ≡ plan (root_in file) (total_in file) (count_in file)
  pub root_is : root_in file ≡ root
  pub cost_is : total_in file ≡ cost
  pub rest_is : unassigned G (root_in file) (arcs_in file) ≡ rest

module _ (G : Graph) (file : List ℕ) where
  shared_file : (root cost count rest : ℕ) → sharing_to G file ≡ shared root cost count rest → SharedFile G file root cost count rest
  shared_file root cost count rest = go (or_else (file_fault G.nodes G.arcs file) (tree_fault G file)) refl
    where
      go : (o : Option PlanFault) → or_else (file_fault G.nodes G.arcs file) (tree_fault G file) ≡ o
          → with_unassigned G file (answer_to G file) ≡ shared root cost count rest → SharedFile G file root cost count rest
      go none q told =
          let here : answer_to G file ≡ plan (root_in file) (total_in file) (count_in file) = ap (λ (x : Option PlanFault). answered x file) q in
          let values : shared (root_in file) (total_in file) (count_in file) (unassigned G (root_in file) (arcs_in file)) ≡ shared root cost count rest =
          sym (ap (with_unassigned G file) here) ∙ told in
          record { accepted = here; root_is = cc values; cost_is = cc values; rest_is = cc values }
      go (some fault) q told =
          let (number, place, is) = refusal_stated (PlanFile fault) in
          absurd (subst IsShared (sym (sym (ap (with_unassigned G file) (ap (λ (x : Option PlanFault). answered x file) q ∙ is)) ∙ told)) tt)

  -- no site is charged
  module _ (free : (v : ℕ) → G.charge v ≡ 0) where
    makes_total : (before : List ℕ) (root cost count rest : ℕ) → sharing_to G file ≡ shared root cost count rest
        → MakesTotal G file (shares_after G file before) cost rest
    makes_total before root cost count rest told =
        let f = shared_file root cost count rest told in
        let a = accepted_file G file (root_in file) (total_in file) (count_in file) f.accepted in
        let shares = shares_of G (root_in file) (arcs_in file) in
        let paid : (i : ℕ) → i < G.terminals → get_or (shares_after G file before) i 0 ≡ share_of G (root_in file) (arcs_in file) i =
        λ i l.
        ap (λ (s : Stated). get_or (shares_by G file before s) i 0) f.accepted
        ∙ get_d_over shares before i 0 (omega (arith, length_values (share_of G (root_in file) (arcs_in file)) 0 G.terminals))
        ∙ get_d_values (share_of G (root_in file) (arcs_in file)) 0 G.terminals i 0 l ∙ ap (share_of G (root_in file) (arcs_in file)) (omega arith) in
        record {
          leg_prices = omega (
            arith,
            sum_to_same G.terminals (λ i. get_or (shares_after G file before) i 0) (share_of G (root_in file) (arcs_in file)) paid,
            shares_whole G (root_in file) (arcs_in file),
            f.rest_is,
          );
          total_is = sym f.cost_is ∙ a.true_total ∙ total_weights G free (root_in file) (arcs_in file);
        }

-- "For every accepted plan the shares and the unassigned sum make the total of leg prices": of every sheet, every file and all tables
pub sharing_whole : (sheet file : List ℕ) (t : ShareTables) (root cost count rest : ℕ) → (sharing_of sheet file t).answer ≡ shared root cost count rest
    → GoodWith sheet (λ n k records. MakesTotal (graph_of n k records) file (sharing_of sheet file t).after.shares cost rest)
sharing_whole sheet file t root cost count rest =
    by_opening_cases sheet t.reader.tables (share_further t) Whole (record {
      spoilt = λ fault e q. absurd (not_shared (Sheet fault) (subst IsShared (sym q) tt));
      short = λ n k records e short q. absurd (not_shared (Tables ShortTables) (subst IsShared (sym q) tt));
      long = λ n k records e long q. record {
        n = n;
        k = k;
        records = records;
        good_sheet = e;
        holds = makes_total (graph_of n k records) file (λ v. refl) t.shares root cost count rest q;
      };
    })
  where
    Whole : SheetOpening → Type 0
    Whole o = (given sheet file t o).answer ≡ shared root cost count rest
        → GoodWith sheet (λ n k records. MakesTotal (graph_of n k records) file (given sheet file t o).after.shares cost rest)
