-- The theorems of specs/laws/Enquired.antt and EngineShares.antt, of calls: where a call of `plan_sheet` has planned the sheet, or answered 12 or 13, calls of
-- `enquirer::cell` and `enquirer::best_sender` over the cells that it left, the second with the landing entries that it left as well, with the
-- sheet's n and k, give the least total and the lowest of the senders that attain it. Of each call only what its contract promises is used
-- (`Learnt`, which the checker makes of the `ensures` for callers). After a call that gives a plan, the best sender of all stations is its root.
-- And of the shares (document 02, W-204): where a call of `share_plan` accepts a file, the shares and the unassigned sum make the total; and of the file
-- that a call of `plan_sheet` wrote, nothing is unassigned.
-- Assumes nothing.
use Prim.Native.Nat.{ℕ, ◌^◌, ◌<◌}
use mathlib.Core.Path.{◌≡◌, sym, ap, ap₂, ◌∙◌, subst}
use mathlib.Core.List.{List}
use contract.Lifetimes.{Lfts}
use borrow.Fn.Kinds.{Dens, ended_of}
use denote.Ref.{Bor}
use denote.Triple.Clauses.{AtExit}
use lib.ListN.{length}
use Rattle.lists.specs.Over.{over}
use Rattle.subset.specs.Sets.{full}
use Rattle.answer.specs.Stated.{plan, shared, sender, stated, stated_cell, stated_sender, stated_sharing}
use Rattle.answer.specs.declared.Plan.{Plan}
use Rattle.answer.specs.declared.Shared.{Shared}
use Rattle.answer.specs.declared.Refusal.{Refusal}
use Rattle.std.specs.Prelude.{Result, Option}
use Rattle.lent_tables.specs.SheetTables.{sheet_tables}
use Rattle.graph.specs.Graph.{Graph}
use Rattle.number_fields.specs.Fields.{Bytes}
use Rattle.network.specs.Network.{graph_of}
use Rattle.records.specs.Arcs.{arcs}
use Rattle.records.specs.declared.record.Record.{Record}
use Rattle.planfile.specs.Format.{file_size}
use Rattle.mission.specs.Runs.{GoodWith, reader_tables, Run}
use Rattle.questions.specs.Questions.{cell_answer, sender_answer}
use Rattle.engine.proofs.planning.plan_sheet.Kinds as plan-kinds
use Rattle.engine.proofs.planning.plan_sheet.Reads as plan-sheet
use Rattle.enquirer.proofs.cell.Kinds as cell-kinds
use Rattle.enquirer.proofs.cell.Reads as cell
use Rattle.enquirer.proofs.best_sender.Kinds as sender-kinds
use Rattle.enquirer.proofs.best_sender.Reads as best-sender
use Rattle.shares.proofs.share_plan.Kinds as share-kinds
use Rattle.shares.proofs.share_plan.Reads as share-plan
use Rattle.shares.specs.SharesOf.{ShareTables, share_tables, sharing_of}
use Rattle.shares.specs.laws.Sums.{ShareLong, MakesTotal, sharing_whole}
use Rattle.cases.specs.Meaning.{Finished, CellMeans, SenderMeans, MeansLeast}
use Rattle.plan_reader.specs.Reader.{reading_of}
use Rattle.cases.proofs.laws.Enquired.{enquired, root_named}
use Rattle.cases.proofs.laws.EngineShares.{engine_assigned}

-- calls of the enquirer over these cells and landing entries, for n sites and k stations: each answer means the least total
pub record CallsMean (n k : ℕ) (G : Graph) (left entries : List ℕ) : Type 0 where
  pub cell_call : (κs : Lfts 1) (cells : Bor (List ℕ)) → cells.now ≡ left → (v w : ℕ) → v < n → w < 2 ^ k
      → (r : Result ℕ Refusal) (e : AtExit (ended_of 1 cell-kinds.ps cell-kinds.r) κs) → cell.Learnt κs (cells, (n, (k, (v, (w, tt))))) r e
      → CellMeans G v w (stated_cell r)
  pub sender_call : (κs : Lfts 1) (cells landings : Bor (List ℕ)) → cells.now ≡ left → landings.now ≡ entries → (w : ℕ) → w < 2 ^ k
      → (r : Result (Option ℕ) Refusal) (e : AtExit (ended_of 1 sender-kinds.ps sender-kinds.r) κs)
      → best-sender.Learnt κs (cells, (landings, (n, (k, (w, tt))))) r e
      → SenderMeans G w (stated_sender r)

calls : (n k : ℕ) (G : Graph) (left entries : List ℕ) → MeansLeast n k G left entries → CallsMean n k G left entries
calls n k G left entries means = record {
  cell_call = λ κs cells same v w on small r e learnt.
      subst (CellMeans G v w) (sym (learnt ∙ ap (λ (x : List ℕ). cell_answer x n k v w) same)) (means.cell_means v w on small);
  sender_call = λ κs cells landings same alike w small r e learnt.
      subst (SenderMeans G w) (sym (learnt ∙ ap₂ (λ (x y : List ℕ). sender_answer x y n k w) same alike)) (means.sender_means w small);
}

-- after a call of the engine: its arguments a, of which the first is the sheet, its answer r, and what it left e, of which the fifth is the landing
-- entries and the eighth the cells
pub enquired_calls : (κs : Lfts 10) (a : Dens κs plan-kinds.ps) (r : Result Plan Refusal) (e : AtExit (ended_of 10 plan-kinds.ps plan-kinds.r) κs)
    → plan-sheet.Learnt κs a r e → Bytes a.0.now → Finished (stated r)
    → GoodWith a.0.now (λ n k records. CallsMean n k (graph_of n k records) e.1.1.1.1.1.1.1.0.now e.1.1.1.1.0.now)
enquired_calls κs a r e learnt bytes finished =
    let g = enquired a.0.now bytes _ _ (stated r) learnt.1.0 finished in
    record { n = g.n; k = g.k; records = g.records; good_sheet = g.good_sheet; holds = calls _ _ _ _ _ g.holds }

-- a call of the enquirer over these cells and landing entries, for n sites and k stations, names this site as the best sender of all stations
abbrev RootCall : (n k root : ℕ) (left entries : List ℕ) → Type 0
RootCall n k root left entries =
    (κs : Lfts 1) (cells landings : Bor (List ℕ)) → cells.now ≡ left → landings.now ≡ entries
    → (r : Result (Option ℕ) Refusal) (e : AtExit (ended_of 1 sender-kinds.ps sender-kinds.r) κs)
    → best-sender.Learnt κs (cells, (landings, (n, (k, (full k, tt))))) r e → stated_sender r ≡ sender root

-- after a call of the engine that gives a plan: it names the root
pub root_calls : (κs : Lfts 10) (a : Dens κs plan-kinds.ps) (r : Result Plan Refusal) (e : AtExit (ended_of 10 plan-kinds.ps plan-kinds.r) κs)
    → plan-sheet.Learnt κs a r e → Bytes a.0.now → (root cost count : ℕ) → stated r ≡ plan root cost count
    → GoodWith a.0.now (λ n k records. RootCall n k root e.1.1.1.1.1.1.1.0.now e.1.1.1.1.0.now)
root_calls κs a r e learnt bytes root cost count is =
    let g = root_named a.0.now bytes reading_of _ _ (stated r) learnt.1.0 learnt.1.1.0 root cost count is in
    record {
      n = g.n;
      k = g.k;
      records = g.records;
      good_sheet = g.good_sheet;
      holds = λ κs cells landings same alike r e learnt.
          learnt ∙ ap₂ (λ (x y : List ℕ). sender_answer x y g.n g.k (full g.k)) same alike ∙ g.holds;
    }

-- ---- shares

-- what is lent to a call of `share_plan`
abbrev lent_to : (κs : Lfts 8) → Dens κs share-kinds.ps → ShareTables
lent_to κs a =
    share_tables (reader_tables (sheet_tables a.1.1.0.now a.1.1.1.0.now a.1.1.1.1.0.now a.1.1.1.1.1.0.now)
    a.1.1.1.1.1.1.0.now) a.1.1.1.1.1.1.1.0.now

-- a call of `share_plan` that accepts a file: its arguments a, of which the first two are the sheet and the file, its answer r, and what it left e, of
-- which the eighth is the share table
pub whole_calls : (κs : Lfts 8) (a : Dens κs share-kinds.ps) (r : Result Shared Refusal) (e : AtExit (ended_of 8 share-kinds.ps share-kinds.r) κs)
    → share-plan.Learnt κs a r e → (root cost count rest : ℕ) → stated_sharing r ≡ shared root cost count rest
    → GoodWith a.0.now (λ n k records. MakesTotal (graph_of n k records) a.1.0.now e.1.1.1.1.1.1.1.0.now cost rest)
whole_calls κs a r e learnt root cost count rest is =
    let g = sharing_whole a.0.now a.1.0.now (lent_to κs a) root cost count rest (sym (ap (λ (x : Run ShareTables). x.answer) learnt) ∙ is) in
    record {
      n = g.n;
      k = g.k;
      records = g.records;
      good_sheet = g.good_sheet;
      holds = subst (λ (x : Run ShareTables). MakesTotal (graph_of g.n g.k g.records) a.1.0.now x.after.shares cost rest) (sym learnt) g.holds;
    }

-- the shares of a file, asked for with long enough tables: nothing is unassigned
abbrev ShareCall : (sheet : List ℕ) (root cost count : ℕ) (file : List ℕ) (n k : ℕ) (records : List Record) → Type 0
ShareCall sheet root cost count file n k records =
    (κs : Lfts 8) (a : Dens κs share-kinds.ps) (r : Result Shared Refusal) (e : AtExit (ended_of 8 share-kinds.ps share-kinds.r) κs)
    → share-plan.Learnt κs a r e → a.0.now ≡ sheet → a.1.0.now ≡ file → ShareLong n k (length (arcs records)) (lent_to κs a)
    → stated_sharing r ≡ shared root cost count 0

-- after a call of the engine that gives a plan: of the file that stands at the start of the plan buffer, the tenth of what it left
pub record SharedCalls (sheet : List ℕ) (root cost count : ℕ) (before after : List ℕ) (n k : ℕ) (records : List Record) : Type 0 where
  pub file : List ℕ
  pub size : length file ≡ file_size count
  pub written : after ≡ over file before
  pub calls : ShareCall sheet root cost count file n k records

pub share_calls : (κs : Lfts 10) (a : Dens κs plan-kinds.ps) (r : Result Plan Refusal) (e : AtExit (ended_of 10 plan-kinds.ps plan-kinds.r) κs)
    → plan-sheet.Learnt κs a r e → Bytes a.0.now → (root cost count : ℕ) → stated r ≡ plan root cost count
    → GoodWith a.0.now (SharedCalls a.0.now root cost count a.1.1.1.1.1.1.1.1.1.0.now e.1.1.1.1.1.1.1.1.1.0.now)
share_calls κs a r e learnt bytes root cost count is =
    let g = engine_assigned a.0.now bytes root cost count _ _ (learnt.1.1.0 root cost count is) in
    record {
      n = g.n;
      k = g.k;
      records = g.records;
      good_sheet = g.good_sheet;
      holds = record {
        file = g.holds.file;
        size = g.holds.size;
        written = g.holds.written;
        calls = λ κs b r e learnt same alike long.
            ap (λ (x : Run ShareTables). x.answer) learnt
            ∙ ap₂ (λ (s f : List ℕ). (sharing_of s f (lent_to κs b)).answer) same alike
            ∙ g.holds.assigned (lent_to κs b) long;
      };
    }
