-- The text of an answer of the engine, by the tables and the plan buffer that it leaves, is the text of the sheet.
-- Assumes nothing.
use Rattle.std.specs.Prelude.{ℕ, ◌+◌, ◌*◌, ◌^◌, ◌≤◌, ◌<◌, ◌≡◌, refl, Bool, true, false, cond, ◌&&◌, List, ◌++◌, leb, length, get_or, drop, replicate}
use Rattle.std.proofs.Common.{sym, ◌∙◌, subst, zero-add, arith, leb-true, le-leb}
use Rattle.std.proofs.Math.Path.{ap}
use Rattle.std.proofs.Math.Option.{some}
use Rattle.std.proofs.lemmas.List.{length-replicate}
use Rattle.limits.specs.Refusals.{short_tables}
use Rattle.lists.specs.Tests.{by_test, both_true}
use Rattle.lists.specs.Every.{every_at, every_imp}
use Rattle.lists.specs.Joined.{joined, joined_every}
use Rattle.lists.specs.Numbers.{get_d_values}
use Rattle.lists.specs.Over.{over, length_over}
use Rattle.answer.specs.Stated.{Stated, plan, shared, cell, sender, no_sender, refused, of_tables, stated_sheet}
use Rattle.answer.proofs.laws.OneToOne.{refusal_no_plan}
use Rattle.answer.specs.declared.Refusal.TheVariants.{Sheet}
use Rattle.answer.specs.declared.SheetFault.{SheetFault}
use Rattle.answer.specs.declared.SheetFault.TheVariants.{ShortSheet, StrangeMark, BadHead, NoSuchSite, NoSuchStation, Loop, BadPrice, TooManyLegs, AfterTheEnd, Unheard}
use Rattle.records.specs.Arcs.{arcs}
use Rattle.number_fields.specs.Fields.{Bytes}
use Rattle.sheet.specs.Verdict.{Verdict, good, bad, verdict}
use Rattle.records.specs.declared.record.Record.{Record}
use Rattle.lent_tables.specs.SheetTables.{SameLengths, sheet_tables}
use Rattle.lent_tables.specs.IndexTables.{index_tables}
use Rattle.record_tables.specs.laws.Writing.{loaded_lengths}
use Rattle.opener.specs.Opening.{SheetOpening, refuses, opens, by_verdict, by_opening}
use Rattle.record_tables.specs.laws.Held.{start_held, end_held, weight_held}
use Rattle.network.specs.Network.{graph_of}
use Rattle.planfile.specs.Format.{file_bytes, file_size, listed_arc, arcs_to}
use Rattle.planfile.proofs.laws.FormatLaws.{length_file, arcs_read_first}
use Rattle.mission.specs.Runs.{EngineTables, engine_tables, EngineLong, Run, run}
use Rattle.mission.proofs.laws.PointLaws.{refused_not_plan, same_plan}
use Rattle.best_plan.specs.Plan.{Plan, plan_of, with_file}
use Rattle.engine.specs.Engine.{searched, planning_of}
use Rattle.engine.specs.laws.Rules.{by_cases}
use Rattle.best_plan.proofs.laws.Found.{PlanFound, sheet_found}
use Rattle.desk_lines.specs.Lines.{first_line, arc_line}
use Rattle.desk.specs.Text.{refusal_text, arc_text, plan_text, desk_arcs, desk_nodes, desk_cells, desk_tree, desk_fits, sheet_text}
use Rattle.desk_answer.specs.AnswerText.{line_of, answer_text, listed_legs}
use Rattle.desk_answer.specs.Listable.{ArcsHeld, Listable}

-- ---- the text of an answer

-- the answer to a sheet has the text of the sheet
pub record Answered (sheet : List ℕ) (s : Stated) (starts ends weights buffer : List ℕ) : Type 0 where
  pub same : answer_text s starts ends weights buffer ≡ sheet_text sheet
  pub listable : Listable s starts ends weights buffer
  pub few : listed_legs s ≤ desk_tree

abbrev AnsweredBy : List ℕ → Run EngineTables → Type 0
AnsweredBy sheet r =
    Answered sheet r.answer r.after.tables.starts r.after.tables.ends r.after.tables.weights r.after.buffer

-- ---- the text of a sheet, by its verdict

module _ (sheet : List ℕ) where
  -- by the opening
  abbrev text_of : SheetOpening → List ℕ
  text_of = by_opening refusal_text (λ n k records. plan_text (graph_of n k records) (plan_of (graph_of n k records)))

  text_refused : (fault : SheetFault) → verdict sheet ≡ bad fault → sheet_text sheet ≡ refusal_text (stated_sheet fault)
  unfolding sheet_text
  text_refused fault e = ap (λ (v : Verdict). text_of (by_verdict desk_fits v)) e

  text_good : (n k : ℕ) (records : List Record) → verdict sheet ≡ good n k records → (b : Bool) → desk_fits n k (length (arcs records)) ≡ b
      → sheet_text sheet ≡ text_of (cond b (opens n k records) (refuses (refused of_tables short_tables 0)))
  unfolding sheet_text
  text_good n k records e b fits =
      ap (λ (v : Verdict). text_of (by_verdict desk_fits v)) e
      ∙ ap (λ (x : Bool). text_of (cond x (opens n k records) (refuses (refused of_tables short_tables 0)))) fits

-- a refusal has its text, and lists nothing
fault_text : (fault : SheetFault) (starts ends weights buffer : List ℕ)
    → answer_text (stated_sheet fault) starts ends weights buffer ≡ refusal_text (stated_sheet fault)
fault_text (ShortSheet place) starts ends weights buffer = refl
fault_text (StrangeMark place) starts ends weights buffer = refl
fault_text (BadHead place) starts ends weights buffer = refl
fault_text (NoSuchSite place) starts ends weights buffer = refl
fault_text (NoSuchStation place) starts ends weights buffer = refl
fault_text (Loop place) starts ends weights buffer = refl
fault_text (BadPrice place) starts ends weights buffer = refl
fault_text (TooManyLegs place) starts ends weights buffer = refl
fault_text (AfterTheEnd place) starts ends weights buffer = refl
fault_text (Unheard place) starts ends weights buffer = refl

nothing_listed : {s : Stated} {starts ends weights buffer : List ℕ} → ((root cost count : ℕ) → s ≡ plan root cost count → ⊥)
    → Listable s starts ends weights buffer
nothing_listed never = record { held = λ root cost count same. absurd (never root cost count same) }

no_legs : (s : Stated) → ((root cost count : ℕ) → s ≡ plan root cost count → ⊥) → listed_legs s ≤ desk_tree
no_legs (plan root cost count) never = absurd (never root cost count refl)
no_legs (refused family number place) never = omega arith
no_legs (cell cost) never = omega arith
no_legs (sender node) never = omega arith
no_legs no_sender never = omega arith
no_legs (shared root cost count rest) never = omega arith

-- ---- the desk's tables

-- "2,048 legs, 64 sites, 8,192 cells and a plan buffer that holds any tree of 64 sites"; of the index as many legs and sites (document 02, W-202)
pub record DeskTables (t : EngineTables) : Type 0 where
  pub starts : length t.tables.starts ≡ desk_arcs
  pub ends : length t.tables.ends ≡ desk_arcs
  pub weights : length t.tables.weights ≡ desk_arcs
  pub landings : length t.tables.landings ≡ desk_nodes
  pub by_end : length t.index.by_end ≡ desk_arcs
  pub places : length t.index.places ≡ desk_nodes + 1
  pub cells : length t.cells ≡ desk_cells
  pub marks : length t.marks ≡ desk_nodes
  pub buffer : length t.buffer ≡ file_size desk_tree

-- the program's tables, all zeros
abbrev pub zeros : EngineTables
zeros =
    engine_tables (sheet_tables (replicate desk_arcs 0) (replicate desk_arcs 0) (replicate desk_arcs 0) (replicate desk_nodes 0))
    (index_tables (replicate desk_arcs 0) (replicate (desk_nodes + 1) 0)) (replicate desk_cells 0) (replicate desk_nodes 0) (replicate (file_size desk_tree) 0)

pub zeros_desk : DeskTables zeros
zeros_desk = record {
  starts = length-replicate {A = ℕ} desk_arcs 0;
  ends = length-replicate {A = ℕ} desk_arcs 0;
  weights = length-replicate {A = ℕ} desk_arcs 0;
  landings = length-replicate {A = ℕ} desk_nodes 0;
  by_end = length-replicate {A = ℕ} desk_arcs 0;
  places = length-replicate {A = ℕ} (desk_nodes + 1) 0;
  cells = length-replicate {A = ℕ} desk_cells 0;
  marks = length-replicate {A = ℕ} desk_nodes 0;
  buffer = length-replicate {A = ℕ} (file_size desk_tree) 0;
}

module _ (n k m : ℕ) (t : EngineTables) (d : DeskTables t) where
  -- a sheet that fits has long enough tables, and no other
  fits_long : desk_fits n k m ≡ true → EngineLong n k m t
  fits_long h =
      let (legs, rest) = both_true (leb m desk_arcs) (leb n desk_nodes && leb (n * 2 ^ k) desk_cells) h in
      let (sites, cells) = both_true (leb n desk_nodes) (leb (n * 2 ^ k) desk_cells) rest in
      let few = leb-true m desk_arcs legs in
      let small = leb-true n desk_nodes sites in
      let room = leb-true (n * 2 ^ k) desk_cells cells in
      record {
        tables = record {
          starts = omega (arith, d.starts);
          ends = omega (arith, d.ends);
          weights = omega (arith, d.weights);
          landings = omega (arith, d.landings);
        };
        further = record {
          by_end = omega (arith, d.by_end);
          places = omega (arith, d.places);
          cells = omega (arith, d.cells);
          marks = omega (arith, d.marks);
          shares = tt;
        };
      }

  long_fits : EngineLong n k m t → desk_fits n k m ≡ true
  long_fits long =
      λ i.
      le-leb m desk_arcs (omega (arith, d.starts, long.tables.starts)) i
      && (le-leb n desk_nodes (omega (arith, d.landings, long.tables.landings)) i
      && le-leb (n * 2 ^ k) desk_cells (omega (arith, d.cells, long.further.cells)) i)

  short_fails : (EngineLong n k m t → ⊥) → desk_fits n k m ≡ false
  short_fails short = by_test (desk_fits n k m) (λ b. desk_fits n k m ≡ b → desk_fits n k m ≡ false) (λ h _. absurd (short (fits_long h))) (λ h _. h) refl

-- ---- a plan

module _ (sheet : List ℕ) (bytes : Bytes sheet) (t : EngineTables) (n k : ℕ) (records : List Record) (e : verdict sheet ≡ good n k records)
    (long : EngineLong n k (length (arcs records)) t) (d : DeskTables t) (p : Plan) (q : plan_of (graph_of n k records) ≡ some p) where
  abbrev found : PlanFound (graph_of n k records) p
  found = sheet_found sheet bytes n k records e p q

  abbrev m : ℕ
  m = length (arcs records)

  abbrev after : EngineTables
  after = with_file p (searched n k records t)

  -- fewer legs than sites
  few_arcs : length p.arcs ≤ desk_tree
  few_arcs = omega (arith, found.few, long.tables.landings, d.landings)

  -- the plan buffer lists the plan's legs
  arcs_listed : arcs_to after.buffer (length p.arcs) ≡ p.arcs
  arcs_listed =
      arcs_read_first p.root p.cost p.arcs
      (every_imp (λ x. x < m) (λ x. x < 2 ^ 16) (λ x on. omega (arith, long.tables.starts, d.starts)) p.arcs found.is_plan.subtree.on_graph)
      (drop (length (file_bytes p.root p.cost p.arcs)) t.buffer)

  -- each is on the sheet
  listed_on : (i : ℕ) → i < length p.arcs → listed_arc after.buffer i < m
  listed_on i h =
      subst (λ (x : ℕ). x < m)
      (ap (λ (l : List ℕ). get_or l i 0) (sym arcs_listed)
      ∙ get_d_values (listed_arc after.buffer) 0 (length p.arcs) i 0 h
      ∙ ap (listed_arc after.buffer) (zero-add i))
      (every_at (λ x. x < m) p.arcs found.is_plan.subtree.on_graph i 0 h)

  -- the tables keep their lengths
  same_lengths : SameLengths after.tables t.tables
  same_lengths = loaded_lengths n records t.tables long.tables

  plan_held : ArcsHeld after.buffer (length p.arcs) after.tables.starts after.tables.ends after.tables.weights
  plan_held = record {
    size =
        let file : List ℕ = file_bytes p.root p.cost p.arcs in
        let size = length_file p.root p.cost p.arcs in
        omega (arith, few_arcs, d.buffer, size, length_over file t.buffer (omega (arith, few_arcs, d.buffer)));
    start_held = λ i h. omega (arith, listed_on i h, same_lengths.starts, long.tables.starts);
    end_held = λ i h. omega (arith, listed_on i h, same_lengths.ends, long.tables.ends);
    weight_held = λ i h. omega (arith, listed_on i h, same_lengths.weights, long.tables.weights);
  }

  -- a leg's line by the tables is its line by the sheet
  line_same : (x : ℕ) → x < m → line_of after.tables.starts after.tables.ends after.tables.weights x ≡ arc_text (graph_of n k records) x
  line_same x on =
      λ i. arc_line x (start_held n records t.tables x on i) (end_held n records t.tables x on i) (weight_held n records t.tables x on i)

  lines_same : joined (line_of after.tables.starts after.tables.ends after.tables.weights) (arcs_to after.buffer (length p.arcs))
      ≡ joined (arc_text (graph_of n k records)) p.arcs
  lines_same =
      ap (joined (line_of after.tables.starts after.tables.ends after.tables.weights)) arcs_listed
      ∙ joined_every (line_of after.tables.starts after.tables.ends after.tables.weights) (arc_text (graph_of n k records)) p.arcs
      (every_imp (λ x. x < m)
      (λ x. line_of after.tables.starts after.tables.ends after.tables.weights x ≡ arc_text (graph_of n k records) x)
      line_same p.arcs found.is_plan.subtree.on_graph)

  plan_answered : AnsweredBy sheet (run (plan p.root p.cost (length p.arcs)) after)
  plan_answered = record {
    same =
        ap (λ (l : List ℕ). first_line p.root p.cost (length p.arcs) ++ l) lines_same
        ∙ sym (text_good sheet n k records e true (long_fits n k m t d long) ∙ ap (plan_text (graph_of n k records)) q);
    listable = record {
      held = λ root cost count same.
          same_plan (λ a b c. ArcsHeld after.buffer c after.tables.starts after.tables.ends after.tables.weights) same plan_held;
    };
    few = few_arcs;
  }

-- ---- the answer to any sheet

pub answered : (sheet : List ℕ) → Bytes sheet → (t : EngineTables) → DeskTables t → (s : Stated) (after : EngineTables)
    → run s after ≡ planning_of sheet t
    → Answered sheet s after.tables.starts after.tables.ends after.tables.weights after.buffer
answered sheet bytes t d s after ran = subst (AnsweredBy sheet) (sym ran)
    (by_cases sheet t (AnsweredBy sheet)
    (record {
      spoilt = λ fault e.
          record {
            same = fault_text fault t.tables.starts t.tables.ends t.tables.weights t.buffer ∙ sym (text_refused sheet fault e);
            listable = nothing_listed (refusal_no_plan (Sheet fault));
            few = no_legs (stated_sheet fault) (refusal_no_plan (Sheet fault));
          };
      short = λ n k records e short.
          record {
            same = sym (text_good sheet n k records e false (short_fails n k (length (arcs records)) t d short));
            listable = nothing_listed (λ root cost count same. refused_not_plan same);
            few = omega arith;
          };
      long = λ n k records e long. record {
        none_found = λ q.
            record {
              same =
                  sym (text_good sheet n k records e true (long_fits n k (length (arcs records)) t d long)
                  ∙ ap (plan_text (graph_of n k records)) q);
              listable = nothing_listed (λ root cost count same. refused_not_plan same);
              few = omega arith;
            };
        too_long = λ p q over. absurd (omega (arith, few_arcs sheet bytes t n k records e long d p q, d.buffer));
        found = λ p q fits. plan_answered sheet bytes t n k records e long d p q;
      };
    }))
