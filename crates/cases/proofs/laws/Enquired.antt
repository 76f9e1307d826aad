-- The enquirer's answers over the cells and the landing entries that the engine leaves mean least totals: for every sheet that the engine plans or
-- answers 12 or 13, with the sheet's n and k. No other answer means what the best sender means; that of all stations is the root of the plan, or
-- "none" where there is no plan. The hypotheses are what the contract of `plan_sheet` promises (of calls: proofs/Calls.antt), and that the sheet's
-- entries are bytes, as those of a slice are.
-- Assumes nothing.
use Rattle.std.specs.Prelude.{ℕ, ◌*◌, ◌^◌, ◌≤◌, ◌<◌, ◌≡◌, refl, ◌⊎◌, ◌↔◌, Bool, ◌&&◌, List, T, length, drop}
use Rattle.std.proofs.Common.{sym, ap, ◌∙◌, subst, inl, inr, lt-ltb}
use Rattle.std.proofs.Math.Option.{none-ne-some}
use native.Mathlib.Omega.{arith}
use Rattle.std.proofs.Math.ListN.{length-append}
use Rattle.std.proofs.Math.Pow.{ones_lt}
use Rattle.limits.specs.Limits.{no_cost}
use Rattle.limits.specs.Refusals.{no_plan}
use Rattle.lists.proofs.Cheapest.{cheapest_same}
use Rattle.lists.specs.Numbers.{length_values}
use Rattle.lists.specs.Over.{over}
use Rattle.subset.specs.Sets.{full}
use Rattle.answer.specs.Stated.{Stated, plan, shared, cell, sender, no_sender, refused, of_search}
use Rattle.graph.specs.Graph.{Graph}
use Rattle.graph.specs.Paths.{ReachesAll}
use Rattle.graph.specs.Subtrees.{Subtree, Covers, total}
use Rattle.graph.specs.LeastTotals.{least_cell, NoSubtree, Least, IsCostTable, Room}
use Rattle.graph.proofs.Theorems.{one_least, cell_is_least, full_finite_iff_reaches}
use Rattle.number_fields.specs.Fields.{Bytes}
use Rattle.landing_entries.specs.Entries.{is_sender_at}
use Rattle.lent_tables.specs.SheetTables.{SheetTables}
use Rattle.sheet.specs.laws.Good.{IsSheet, good_is_sheet}
use Rattle.sheet.specs.Verdict.{good, verdict}
use Rattle.records.specs.Arcs.{arcs}
use Rattle.records.specs.Senders.{is_sender, landing_entry, landing_entries}
use Rattle.records.specs.declared.record.Record.{Record}
use Rattle.record_tables.specs.Loaded.{loaded}
use Rattle.record_tables.specs.laws.Held.{sender_held}
use Rattle.network.specs.Network.{graph_of}
use Rattle.network.proofs.laws.OfSheets.{sheet_room}
use Rattle.cost_table.specs.Cells.{cell_in, cost_table}
use Rattle.cost_table.specs.Cheapest.{column_in}
use Rattle.cost_table.proofs.laws.Rows.{length_table, table_over}
use Rattle.mission.specs.Runs.{EngineTables, EngineLong, GoodWith, Reader}
use Rattle.mission.specs.Rule.{Costs, Lowest, LeastRoot}
use Rattle.mission.specs.PointOne.{AsAfterPlan, EngineAnswers}
use Rattle.mission.specs.PointTwo.{EngineSound}
use Rattle.mission.specs.PointThree.{EngineBest}
use Rattle.mission.proofs.laws.PointLaws.{same_sheet}
use Rattle.mission.proofs.laws.Roots.{one_root, lowest_by}
use Rattle.engine.specs.Engine.{planning_of}
use Rattle.engine.specs.laws.PointOne.{point_one}
use Rattle.engine.specs.laws.PointTwo.{point_two}
use Rattle.plan_reader.specs.Reader.{reading_of}
use Rattle.questions.specs.Questions.{named, best_sender, sender_answer}
use Rattle.questions.proofs.laws.Tested.{in_limits, cell_stands, sender_stands}
use Rattle.questions.proofs.laws.Best.{site_in, Named, Unnamed, answers}
use Rattle.cases.specs.Meaning.{Finished, CellMeans, least_total_lem, no_total, SenderMeans, lowest_best, none_serves, MeansLeast}

-- ---- of a cost table

module _ (G : Graph) (room : Room G no_cost) (free : (v : ℕ) → G.charge v ≡ 0) (c : ℕ → ℕ → ℕ) (table : IsCostTable G c no_cost) where
  right : (v w : ℕ) → v < G.nodes → w < 2 ^ G.terminals → Least G v w (c v w) ⊎ ((c v w ≡ no_cost) × NoSubtree G v w)
  right = cell_is_least G no_cost c table free

  below_none : {v w x : ℕ} → Least G v w x → x < no_cost
  below_none {v} {w} {x} l = subst (λ (y : ℕ). y < no_cost) l.attained (room v l.tree l.subtree)

  -- the cell of a node and a set
  cell_told : (v w : ℕ) → v < G.nodes → w < 2 ^ G.terminals → CellMeans G v w (cell (c v w))
  cell_told v w on small = go (right v w on small)
    where
      go : Least G v w (c v w) ⊎ ((c v w ≡ no_cost) × NoSubtree G v w) → CellMeans G v w (cell (c v w))
      go (inl l) = least_total_lem (c v w) l (below_none l)
      go (inr (is, none)) = subst (λ (x : ℕ). CellMeans G v w (cell x)) (sym is) (no_total none)

  module _ (w : ℕ) (small : w < 2 ^ G.terminals) where
    -- a cell is no more than the total of any subtree with that root
    below_total : (u : ℕ) (L : List ℕ) → Subtree G u L → Covers G u L w → c u w ≤ total G u L
    below_total u L t cov = go (right u w t.root small)
      where
        go : Least G u w (c u w) ⊎ ((c u w ≡ no_cost) × NoSubtree G u w) → c u w ≤ total G u L
        go (inl l) = l.least L t cov
        go (inr (_, none)) = absurd (none L t cov)

    -- a cost is the cell
    cost_is : (u x : ℕ) → u < G.nodes → Costs G u w x → c u w ≡ x
    cost_is u x on costs = go (right u w on small)
      where
        go : Least G u w (c u w) ⊎ ((c u w ≡ no_cost) × NoSubtree G u w) → c u w ≡ x
        go (inl l) = one_least G u w (c u w) x l costs
        go (inr (_, none)) = absurd (none costs.tree costs.subtree costs.covers)

    -- the best sender of a set
    sender_told : SenderMeans G w (best_sender G.may_root (λ v. c v w) G.nodes)
    sender_told = go (answers G.may_root (λ v. c v w) G.nodes)
      where
        go : Named G.may_root (λ v. c v w) G.nodes ⊎ Unnamed G.may_root (λ v. c v w) G.nodes
            → SenderMeans G w (best_sender G.may_root (λ v. c v w) G.nodes)
        go (inl (v, cheapest, finite, is)) = subst (SenderMeans G w) (sym is) (by_cell (right v w cheapest.below small))
          where
            by_cell : Least G v w (c v w) ⊎ ((c v w ≡ no_cost) × NoSubtree G v w) → SenderMeans G w (sender v)
            by_cell (inl l) = lowest_best v (c v w) (lowest_by G w (λ u. c u w) cost_is v cheapest l)
            by_cell (inr (none, _)) = absurd (omega arith)
        go (inr (none_finite, is)) =
            subst (SenderMeans G w) (sym is)
            (none_serves (λ u may L t cov. omega (arith, none_finite u t.root may, below_total u L t cov, room u L t)))

-- ---- the meaning of a best sender

-- a sender that is meant is the root of a subtree
served : (G : Graph) (w v x : ℕ) → Lowest (LeastRoot G w x) v → ((u : ℕ) → T (G.may_root u) → NoSubtree G u w) → ⊥
served G w v x low none =
    let tree = low.holds.costs in
    none v low.holds.may_root_lem tree.tree tree.subtree tree.covers

-- "No other answer remains free": only one answer means it
pub one_answer : (G : Graph) (w : ℕ) {s t : Stated} → SenderMeans G w s → SenderMeans G w t → s ≡ t
one_answer G w (lowest_best v x a) (lowest_best u y b) = let (same, _) = one_root G w v u x y a b in ap sender same
one_answer G w (lowest_best v x a) (none_serves none) = absurd (served G w v x a none)
one_answer G w (none_serves none) (lowest_best v x a) = absurd (served G w v x a none)
one_answer G w (none_serves _) (none_serves _) = refl

-- the answer is "none" exactly where no sender is the root of a subtree that holds a landing of each station of w
pub none_exactly : (G : Graph) (w : ℕ) {s : Stated} → SenderMeans G w s → (s ≡ no_sender) ↔ ((u : ℕ) → T (G.may_root u) → NoSubtree G u w)
none_exactly G w means = (none_of means, (λ none. one_answer G w means (none_serves none)))
  where
    none_of : {s : Stated} → SenderMeans G w s → s ≡ no_sender → (u : ℕ) → T (G.may_root u) → NoSubtree G u w
    none_of (lowest_best v x low) e = absurd (none-ne-some v (ap site_in (sym e)))
    none_of (none_serves none) e = none

-- ---- of the tables that the engine leaves

module _ (sheet : List ℕ) (bytes : Bytes sheet) (n k : ℕ) (records : List Record) (e : verdict sheet ≡ good n k records) where
  abbrev G : Graph
  G = graph_of n k records

  is_sheet : IsSheet sheet n k records
  is_sheet = good_is_sheet sheet bytes n k records e

  -- the landing entries flag the senders, and there are enough of them
  flagged_senders : (old : SheetTables) (v : ℕ) → v < n → is_sender_at (loaded n records old).landings v ≡ G.may_root v
  flagged_senders old v on =
      sender_held n records old k is_sheet.terminals.1 is_sheet.each v on ∙ ap (λ (b : Bool). b && is_sender records v) (sym (lt-ltb v n on))

  enough_entries : (old : SheetTables) → n ≤ length (loaded n records old).landings
  unfolding loaded
  enough_entries old =
      omega (
        arith,
        length-append (landing_entries n records) (drop (length (landing_entries n records)) old.landings),
        length_values (landing_entry records) 0 n,
      )

  -- a site from which a subtree holds a landing of every station has directed paths to them
  tree_reaches : (u : ℕ) (L : List ℕ) → Subtree G u L → Covers G u L (full k) → ReachesAll G u
  tree_reaches u L t cov =
      let room = sheet_room n k records is_sheet.nodes.1 is_sheet.each in
      let (there, _) = full_finite_iff_reaches G no_cost room is_sheet.terminals.0 u t.root in
      there (omega (arith, below_total G room (λ _. refl) (least_cell G no_cost) (λ v w on small. refl) (full k) (ones_lt k) u L t cov, room u L t))

  -- cells that begin with the cost table of the sheet, and landing entries that begin with the sheet's
  pub over_means : (old : List ℕ) (cells : List ℕ) → cells ≡ over (cost_table G no_cost) old
      → (lent : SheetTables) (landings : List ℕ) → landings ≡ (loaded n records lent).landings → MeansLeast n k G cells landings
  over_means old cells is lent landings entries =
      let range = in_limits n k (record { nodes = is_sheet.nodes; terminals = is_sheet.terminals }) in
      let long : n * 2 ^ k ≤ length cells =
      omega (arith, ap length is, length-append (cost_table G no_cost) (drop (length (cost_table G no_cost)) old), length_table G no_cost) in
      let table : IsCostTable G (cell_in cells (2 ^ k)) no_cost =
      λ v w on small. ap (λ (x : List ℕ). cell_in x (2 ^ k) v w) is ∙ table_over G no_cost old v w on small in
      let room = sheet_room n k records is_sheet.nodes.1 is_sheet.each in
      let enough : n ≤ length landings = subst (λ (x : List ℕ). n ≤ length x) (sym entries) (enough_entries lent) in
      let same : (v : ℕ) → v < n → is_sender_at landings v ≡ G.may_root v =
      λ v on. ap (λ (x : List ℕ). is_sender_at x v) entries ∙ flagged_senders lent v on in
      record {
        cell_means = λ v w on small.
            subst (CellMeans G v w) (sym (cell_stands cells n k v w range long on small))
            (cell_told G room (λ _. refl) (cell_in cells (2 ^ k)) table v w on small);
        sender_means = λ w small.
            subst (SenderMeans G w)
            (sym (sender_stands cells landings n k w range long enough small
            ∙ ap (named (column_in cells k w)) (cheapest_same (is_sender_at landings) G.may_root (column_in cells k w) (column_in cells k w) n same (λ u on. refl))))
            (sender_told G room (λ _. refl) (cell_in cells (2 ^ k)) table w small);
      }

-- for every sheet that the engine plans or answers 12 or 13: the enquirer over the cells and the landing entries that it leaves, with the sheet's n
-- and k, gives the least total and the lowest of the senders that attain it
abbrev pub LeftMeansLeast : (sheet : List ℕ) → EngineTables → Type 0
LeftMeansLeast sheet after = GoodWith sheet (λ n k records. MeansLeast n k (graph_of n k records) after.cells after.tables.landings)

pub enquired : (sheet : List ℕ) → Bytes sheet → (before after : EngineTables) (answer : Stated) → EngineAnswers sheet before answer after
    → Finished answer → LeftMeansLeast sheet after
enquired sheet bytes before after answer (safe, _) finished = go answer refl finished
  where
    by_tables : GoodWith sheet (λ n k records. AsAfterPlan n k records before after) → LeftMeansLeast sheet after
    by_tables g = record {
      n = g.n;
      k = g.k;
      records = g.records;
      good_sheet = g.good_sheet;
      holds =
          over_means sheet bytes g.n g.k g.records g.good_sheet before.cells after.cells g.holds.cells
          before.tables after.tables.landings (ap (λ (t : SheetTables). t.landings) g.holds.tables);
    }

    go : (s : Stated) → answer ≡ s → Finished s → LeftMeansLeast sheet after
    go (plan root cost count) is _ = by_tables (safe.planned root cost count is)
    go (shared root _ _ unassigned) is f = elim f [ ]
    go (cell _) is f = elim f [ ]
    go (sender _) is f = elim f [ ]
    go no_sender is f = elim f [ ]
    go (refused family number place) is (inl twelve) = by_tables (safe.late family number place is (omega arith))
    go (refused family number place) is (inr thirteen) = by_tables (safe.late family number place is (omega arith))

-- so of every run of the engine as it is defined
pub planned_table : (sheet : List ℕ) → Bytes sheet → (t : EngineTables) → Finished (planning_of sheet t).answer
    → LeftMeansLeast sheet (planning_of sheet t).after
planned_table sheet bytes t = enquired sheet bytes t (planning_of sheet t).after (planning_of sheet t).answer (point_one sheet t)

-- ---- all stations

-- of every engine that keeps its promises: the best sender of all stations is the root of the plan
pub root_named : (sheet : List ℕ) → Bytes sheet → (read : Reader) (before after : EngineTables) (answer : Stated) → EngineAnswers sheet before answer after
    → EngineSound read sheet before answer after → (root cost count : ℕ) → answer ≡ plan root cost count
    → GoodWith sheet (λ n k records. sender_answer after.cells after.tables.landings n k (full k) ≡ sender root)
root_named sheet bytes read before after answer safe sound root cost count is =
    let g = enquired sheet bytes before after answer safe (subst Finished (sym is) tt) in
    let p = sound root cost count is in
    record {
      n = p.n;
      k = p.k;
      records = p.records;
      good_sheet = p.good_sheet;
      holds =
          one_answer (graph_of p.n p.k p.records) (full p.k)
          ((same_sheet (λ n k records. MeansLeast n k (graph_of n k records) after.cells after.tables.landings) sheet g.good_sheet p.good_sheet
          g.holds).sender_means (full p.k) (ones_lt p.k))
          (lowest_best root cost p.holds.plan_written.by_rule.root_is);
    }

-- and where there is no plan, there is none
pub none_named : (sheet : List ℕ) → Bytes sheet → (read : Reader) (before after : EngineTables) (answer : Stated) → EngineAnswers sheet before answer after
    → EngineBest read sheet before answer → answer ≡ refused of_search no_plan 0
    → (n k : ℕ) (records : List Record) → verdict sheet ≡ good n k records → EngineLong n k (length (arcs records)) before
    → sender_answer after.cells after.tables.landings n k (full k) ≡ no_sender
none_named sheet bytes read before after answer safe best is n k records e long =
    let g = enquired sheet bytes before after answer safe (subst Finished (sym is) (inl refl)) in
    let (none_reaches, _) = (best.plans_or_not n k records e long).no_plan_lem in
    one_answer (graph_of n k records) (full k)
    ((same_sheet (λ n k records. MeansLeast n k (graph_of n k records) after.cells after.tables.landings) sheet g.good_sheet e
    g.holds).sender_means (full k) (ones_lt k))
    (none_serves (λ u may L t cov. none_reaches is (u, t.root, may, tree_reaches sheet bytes n k records e u L t cov)))

-- so of every run of the engine as it is defined
pub planned_root : (sheet : List ℕ) → Bytes sheet → (t : EngineTables) (root cost count : ℕ) → (planning_of sheet t).answer ≡ plan root cost count
    → GoodWith sheet (λ n k records. sender_answer (planning_of sheet t).after.cells (planning_of sheet t).after.tables.landings n k (full k) ≡ sender root)
planned_root sheet bytes t =
    root_named sheet bytes reading_of t (planning_of sheet t).after (planning_of sheet t).answer (point_one sheet t) (point_two sheet bytes t)
