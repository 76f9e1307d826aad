-- Document 01, "Agreed": "These worthless engines are shut out: "no plan" without a search, by point 3; the same plan for every sheet, by point
-- 2; refusing every sheet, by points 2 and 3; an untouched buffer called a plan, by point 2; a leg count other than the legs listed, by point
-- 2." Of any engine and any plan reader, at the worked sheets B and D and the tables that are lent there. B and D have no `SR`, so each of their sites
-- is a sender. Since senders are licensed (document 02, W-201), an engine that takes its root among all sites is shut out too, by point 2.
-- Assumes nothing.
use Rattle.std.specs.Prelude.{ℕ, ◌+◌, ◌*◌, ◌≤◌, ◌<◌, ◌≡◌, refl, ◌≢◌, Bool, List, [], ◌∷◌, T, ltb, length, take, drop}
use Rattle.std.proofs.Common.{sym, ap, ap₂, ◌∙◌, arith, ltb→lt, take_at}
use Rattle.std.proofs.Math.Option.{some}
use Rattle.limits.specs.Marks.{mark_pn}
use Rattle.limits.specs.Refusals.{no_plan}
use Rattle.lists.specs.Find.{all_of, all_entries}
use Rattle.lists.specs.Listed.{listed_every}
use Rattle.lists.specs.Over.{over, get_d_over}
use Rattle.answer.specs.Stated.{Family, Stated, plan, refused, of_search}
use Rattle.number_fields.specs.Fields.{Bytes, number16, number32}
use Rattle.sheet.specs.Verdict.{good, verdict, read_for}
use Rattle.sheet.specs.Worked.{sheet_b, sheet_d}
use Rattle.records.specs.Senders.{is_sender}
use Rattle.records.specs.declared.record.Record.{Record}
use Rattle.records.specs.declared.record.Record.TheVariants.{BothWays, Landing}
use Rattle.network.specs.Network.{graph_of}
use Rattle.planfile.specs.Format.{file_bytes, file_size, root_in, total_in, count_in}
use Rattle.planfile.proofs.laws.FormatLaws.{encoding_fits, length_file}
use Rattle.planfile.proofs.laws.Encoded.{encoding_fields}
use Rattle.mission.specs.Runs.{EngineTables, EngineLong, Engine, ReaderTables, reader_tables, ReaderLong, Reader}
use Rattle.mission.specs.Rule.{ByRule}
use Rattle.mission.proofs.laws.OnePlan.{one_plan}
use Rattle.mission.specs.PointTwo.{IsPlan, EncodesPlan, EngineSound, EnginePointTwo, ReaderPointTwo}
use Rattle.mission.specs.PointThree.{SomeReachesAll, BufferLong, PointThree}
use Rattle.mission.proofs.laws.PointLaws.{refused_not_plan, same_sheet}
use Rattle.mission.proofs.laws.SheetWords.{sheet_may_root}
use Rattle.best_plan.specs.Plan.{Plan, plan_of}
use Rattle.best_plan.proofs.laws.Found.{found_reaches, sheet_plannable, sheet_found}
use Rattle.cases.specs.Worked.{lent}

-- ---- sheets B and D

abbrev records_b : List Record
records_b = Landing 0 0 ∷ []

abbrev records_d : List Record
records_d = BothWays 0 1 7 ∷ Landing 0 0 ∷ Landing 1 1 ∷ []

good_B : verdict sheet_b ≡ good 1 1 records_b
unfolding verdict read_for
good_B = refl

good_D : verdict sheet_d ≡ good 2 2 records_d
unfolding verdict read_for
good_D = refl

-- a list is bytes where a test of each entry says so
abbrev are_bytes : List ℕ → Bool
are_bytes bytes = all_of (λ b. ltb b 256) bytes

are_bytes_lem : (bytes : List ℕ) → T (are_bytes bytes) → Bytes bytes
are_bytes_lem bytes t = listed_every (λ (b : ℕ). b < 256) bytes (λ b i. ltb→lt b 256 (all_entries (λ b. ltb b 256) bytes t b i))

bytes_B : Bytes sheet_b
bytes_B = are_bytes_lem sheet_b tt

bytes_D : Bytes sheet_d
bytes_D = are_bytes_lem sheet_d tt

-- the plans that the rule gives
abbrev plan_b : Plan
plan_b = record { root = 0; cost = 0; arcs = [] }

abbrev plan_d : Plan
plan_d = record { root = 0; cost = 7; arcs = 0 ∷ [] }

plan_B : plan_of (graph_of 1 1 records_b) ≡ some plan_b
unfolding plan_of
plan_B = refl

plan_D : plan_of (graph_of 2 2 records_d) ≡ some plan_d
unfolding plan_of
plan_D = refl

-- B's site has paths to a landing of its station, and the lent tables and the buffer are long enough for B
reaches_B : SomeReachesAll (graph_of 1 1 records_b)
reaches_B = found_reaches (graph_of 1 1 records_b) (sheet_plannable sheet_b bytes_B 1 1 records_b good_B) plan_b plan_B

long_B : EngineLong 1 1 0 lent
long_B = record {
  tables = record { starts = omega arith; ends = omega arith; weights = omega arith; landings = omega arith };
  further = record { by_end = omega arith; places = omega arith; cells = omega arith; marks = omega arith; shares = tt };
}

buffer_B : BufferLong (graph_of 1 1 records_b) lent.buffer
buffer_B root cost L rule =
    let found = sheet_found sheet_b bytes_B 1 1 records_b good_B plan_b plan_B in
    let (_, _, same) = one_plan (graph_of 1 1 records_b) root 0 cost 0 L [] rule found.by_rule in
    omega (arith, ap length same)

-- B's plan file, and what is lent to a plan reader of it
abbrev file_b : List ℕ
file_b = file_bytes 0 0 []

bytes_file : Bytes file_b
bytes_file = are_bytes_lem file_b tt

abbrev reader_lent : ReaderTables
reader_lent = reader_tables lent.tables lent.marks

reader_long_B : ReaderLong 1 1 0 reader_lent
reader_long_B = record { tables = long_B.tables; further = record { by_end = tt; places = tt; cells = tt; marks = long_B.further.marks; shares = tt } }

encodes_B : EncodesPlan (graph_of 1 1 records_b) file_b 0 0 0
encodes_B = record {
  listed = [];
  is_plan = (sheet_found sheet_b bytes_B 1 1 records_b good_B plan_b plan_B).is_plan;
  count_is = refl;
  encoded = refl;
}

-- ---- what a plan is

-- what stands at the start of a buffer
pub record Stands (buffer : List ℕ) (root cost count : ℕ) : Type 0 where
  pub mark : number16 buffer 0 ≡ mark_pn
  pub root_is : root_in buffer ≡ root
  pub total_is : total_in buffer ≡ cost
  pub count_is : count_in buffer ≡ count

-- a field of a file that stands at the start of a buffer
over16 : (file before : List ℕ) (at : ℕ) → at + 2 ≤ length file → number16 (over file before) at ≡ number16 file at
over16 file before at h =
    ap₂ (λ (a b : ℕ). a * 256 + b) (get_d_over file before at 0 (omega arith)) (get_d_over file before (at + 1) 0 (omega arith))

over32 : (file before : List ℕ) (at : ℕ) → at + 4 ≤ length file → number32 (over file before) at ≡ number32 file at
over32 file before at h = ap₂ (λ (a b : ℕ). a * 65536 + b) (over16 file before at (omega arith)) (over16 file before (at + 2) (omega arith))

module _ (read : Reader) (sheet : List ℕ) (before after : EngineTables) (answer : Stated) (sound : EngineSound read sheet before answer after)
    (root cost count : ℕ) (told : answer ≡ plan root cost count) where
  -- "A plan .. return the root, total and leg count that stand in the file"
  pub plan_stands : Stands after.buffer root cost count
  plan_stands =
      let p = (sound root cost count told).holds.plan_written in
      let f = encoding_fields p.file root cost p.listed p.encoded in
      let whole : 10 ≤ length p.file = omega (arith, f.well_formed.size) in
      let at : (i : ℕ) → i + 2 ≤ length p.file → number16 after.buffer i ≡ number16 p.file i =
      λ i h. ap (λ (l : List ℕ). number16 l i) p.written ∙ over16 p.file before.buffer i h in
      record {
        mark = at 0 (omega arith) ∙ f.well_formed.head_mark;
        root_is = at 2 (omega arith) ∙ f.root_is;
        total_is = ap total_in p.written ∙ over32 p.file before.buffer 4 (omega arith) ∙ f.total_is;
        count_is = at 8 (omega arith) ∙ f.count_is ∙ p.count_is;
      }

  -- the total is that of the plan which the rule gives for the sheet
  pub plan_total : Bytes sheet → (n k : ℕ) (records : List Record) → verdict sheet ≡ good n k records
      → (p : Plan) → plan_of (graph_of n k records) ≡ some p → cost ≡ p.cost
  plan_total bytes n k records e p q =
      let given = sound root cost count told in
      let listed = given.holds.plan_written.listed in
      let rule : ByRule (graph_of n k records) root cost listed =
      same_sheet (λ n k records. ByRule (graph_of n k records) root cost listed) sheet given.good_sheet e given.holds.plan_written.by_rule in
      let found = sheet_found sheet bytes n k records e p q in
      let (_, same, _) = one_plan (graph_of n k records) root p.root cost p.cost listed p.arcs rule found.by_rule in
      same

-- ---- the worthless engines

module _ (engine : Engine) (read : Reader) where
  -- "no plan" without a search, by point 3
  pub no_plan_shut_out : PointThree engine read → (engine sheet_b lent).answer ≡ refused of_search no_plan 0 → ⊥
  no_plan_shut_out point told =
      let (none_reaches, _) = ((point sheet_b bytes_B lent).plans_or_not 1 1 records_b good_B long_B).no_plan_lem in
      none_reaches told reaches_B

  -- refusing every sheet, of an engine by point 3
  pub refusing_shut_out : PointThree engine read → (family : Family) (number place : ℕ) → (engine sheet_b lent).answer ≡ refused family number place → ⊥
  refusing_shut_out point family number place told =
      let (root, cost, count, planned) = ((point sheet_b bytes_B lent).plans_or_not 1 1 records_b good_B long_B).plans reaches_B buffer_B in
      refused_not_plan (sym told ∙ planned)

  -- refusing every file, of a plan reader by point 2: it may not refuse B's plan
  pub refusing_reader_shut_out : ReaderPointTwo read → (family : Family) (number place : ℕ)
      → (read sheet_b file_b reader_lent).answer ≡ refused family number place → ⊥
  refusing_reader_shut_out point family number place told =
      let (_, accepts) = point sheet_b file_b bytes_file reader_lent 1 1 records_b good_B reader_long_B 0 0 0 in
      refused_not_plan (sym told ∙ accepts encodes_B)

  -- the same plan for every sheet, by point 2
  pub same_plan_shut_out : EnginePointTwo engine read → (root cost count : ℕ)
      → (engine sheet_b lent).answer ≡ plan root cost count → (engine sheet_d lent).answer ≡ plan root cost count → ⊥
  same_plan_shut_out point root cost count for-B for-D =
      omega (
        arith,
        plan_total read sheet_b lent (engine sheet_b lent).after (engine sheet_b lent).answer (point sheet_b bytes_B lent) root cost count for-B
            bytes_B 1 1 records_b good_B plan_b plan_B,
        plan_total read sheet_d lent (engine sheet_d lent).after (engine sheet_d lent).answer (point sheet_d bytes_D lent) root cost count for-D
            bytes_D 2 2 records_d good_D plan_d plan_D,
      )

  -- a leg count other than the legs listed, by point 2: the buffer starts with the file of as many legs as the count says
  pub count_shut_out : EnginePointTwo engine read → (sheet : List ℕ) → Bytes sheet → (t : EngineTables) (root cost count : ℕ)
      → (engine sheet t).answer ≡ plan root cost count
      → (L : List ℕ) × (length L ≡ count) × (take (file_size count) (engine sheet t).after.buffer ≡ file_bytes root cost L)
  count_shut_out point sheet bytes t root cost count told =
      let p = (point sheet bytes t root cost count told).holds.plan_written in
      let (_, same) = encoding_fits root cost p.listed p.file p.encoded in
      let so_many : length p.file ≡ file_size count =
      ap length (sym same) ∙ length_file root cost p.listed ∙ ap file_size p.count_is in (
        p.listed,
        p.count_is,
        ap (take (file_size count)) p.written ∙ take_at p.file (drop (length p.file) t.buffer) (file_size count) so_many ∙ sym same,
      )

  -- an untouched buffer called a plan, by point 2: whatever was lent, the untouched buffer would have to start with the plan's own file before
  pub untouched_shut_out : EnginePointTwo engine read → (sheet : List ℕ) → Bytes sheet → (t : EngineTables) (root cost count : ℕ)
      → (engine sheet t).answer ≡ plan root cost count → (engine sheet t).after.buffer ≡ t.buffer
      → ((L : List ℕ) → length L ≡ count → take (file_size count) t.buffer ≡ file_bytes root cost L → ⊥) → ⊥
  untouched_shut_out point sheet bytes t root cost count told untouched no-file =
      let (listed, so_many, file) = count_shut_out point sheet bytes t root cost count told in
      no-file listed so_many (ap (take (file_size count)) (sym untouched) ∙ file)

  -- so also every buffer that does not start with the mark `PN`
  pub unmarked_shut_out : EnginePointTwo engine read → (sheet : List ℕ) → Bytes sheet → (t : EngineTables) (root cost count : ℕ)
      → (engine sheet t).answer ≡ plan root cost count → (engine sheet t).after.buffer ≡ t.buffer → number16 t.buffer 0 ≢ mark_pn → ⊥
  unmarked_shut_out point sheet bytes t root cost count told untouched other =
      let s = plan_stands read sheet t (engine sheet t).after (engine sheet t).answer (point sheet bytes t) root cost count told in
      other (ap (λ (l : List ℕ). number16 l 0) (sym untouched) ∙ s.mark)

  -- and it is the count that stands in the file
  pub count_stands : EnginePointTwo engine read → (sheet : List ℕ) → Bytes sheet → (t : EngineTables) (root cost count : ℕ)
      → (engine sheet t).answer ≡ plan root cost count → count_in (engine sheet t).after.buffer ≡ count
  count_stands point sheet bytes t root cost count told =
      (plan_stands read sheet t (engine sheet t).after (engine sheet t).answer (point sheet bytes t) root cost count told).count_is

  -- a root taken among all sites, by point 2: the root of a plan is a sender of the sheet
  pub any_root_shut_out : EnginePointTwo engine read → (sheet : List ℕ) → Bytes sheet → (n k : ℕ) (records : List Record)
      → verdict sheet ≡ good n k records → (t : EngineTables) (root cost count : ℕ) → (engine sheet t).answer ≡ plan root cost count
      → (T (is_sender records root) → ⊥) → ⊥
  any_root_shut_out point sheet bytes n k records e t root cost count told no_sender_lem =
      let given = point sheet bytes t root cost count told in
      let listed = given.holds.plan_written.listed in
      let p : IsPlan (graph_of n k records) root cost listed =
      same_sheet (λ n k records. IsPlan (graph_of n k records) root cost listed) sheet given.good_sheet e given.holds.plan_written.is_plan in
      let (sender, _) = sheet_may_root n k records root in
      no_sender_lem (sender p.may_root_lem).1
