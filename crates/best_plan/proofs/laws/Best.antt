-- The plan as the code finds it: from the root and the cells of a finished cost table, and what is sent back of it with the plan buffer. The
-- tables themselves stay as the search left them.
-- Assumes nothing.
use Rattle.std.specs.Prelude.{Result, Ok, Err, ℕ, ◌-◌, ◌*◌, ◌^◌, ◌≤◌, ◌<◌, ◌≡◌, refl, Bool, true, cond, leb, length, take, drop}
use Rattle.std.proofs.Math.Path.{sym, ap, ap₂}
use Rattle.std.proofs.Common.{◌∙◌, subst, arith, take_at}
use Rattle.std.proofs.Math.Bool.{false}
use Rattle.std.proofs.Math.Option.{Option, none, some}
use mathlib.Core.List.{List}
use Rattle.std.proofs.Math.Dec.{T}
use Rattle.std.proofs.Math.Pow.{ones_lt}
use Rattle.limits.specs.Limits.{no_cost}
use Rattle.limits.specs.Refusals.{no_plan, short_buffer}
use Rattle.lists.specs.Every.{every_imp}
use Rattle.lists.specs.Over.{over, length_over}
use Rattle.lists.specs.Tests.{by_test, choice_passed}
use Rattle.subset.specs.Sets.{full}
use Rattle.subset.specs.laws.Parts.{full_ne}
use Rattle.answer.specs.Stated.{Stated, plan, refused, of_tables, of_search}
use Rattle.graph.specs.Graph.{Graph}
use Rattle.graph.specs.HeldGraph.{graph_in}
use Rattle.graph.specs.LeastTotals.{least_cell, IsCostTable}
use Rattle.graph.specs.Layout.{root_of, layout}
use Rattle.graph.proofs.Theorems.{Laid, layout_is_least, root_rule, same_root, same_layout}
use Rattle.cost_table.specs.Cells.{cell_in, cost_table}
use Rattle.landing_entries.specs.Entries.{is_sender_at}
use Rattle.cost_table.specs.Cheapest.{sender_column, LowestTo}
use Rattle.cost_table.proofs.laws.Rows.{length_table, table_over}
use Rattle.lent_tables.specs.SheetTables.{SheetTables}
use Rattle.lent_tables.specs.declared.FurtherLengths.{FurtherLengths}
use Rattle.network.specs.HeldSheet.{HeldSheet}
use Rattle.planfile.specs.Format.{file_bytes, file_size}
use Rattle.planfile.specs.laws.FormatLaws.{Fits}
use Rattle.planfile.proofs.laws.FormatLaws.{fits_encoding, length_file}
use Rattle.planfile.specs.Writing.{Writing, writing, written_over, writing_of}
use Rattle.planfile.specs.declared.write.WriteFault.{WriteFault}
use Rattle.planfile.specs.declared.write.WriteFault.TheVariants.{ShortBuffer, NoFile}
use Rattle.layout_walk.specs.Plan.{laid}
use Rattle.layout.specs.Root.{full_cell_in}
use Rattle.layout.specs.laws.Roots.{lowest_root, lowest_none}
use Rattle.mission.specs.Runs.{EngineTables, with_buffer, run}
use Rattle.best_plan.specs.Plan.{full_cell, Plan, plan_with, all_none, plan_at, plan_unless, plan_of, written, sent_back}
use Rattle.best_plan.proofs.laws.Laid.{Plannable}
use Rattle.best_plan.proofs.laws.Found.{all_none_at, all_none_of, full_capped}
use Rattle.best_plan.specs.laws.Best.{SentBack, FinishedSheet, FiniteRoot}

-- ---- the file

module _ (root total : ℕ) (arcs buffer : List ℕ) where
  -- what a writing gave, by number
  abbrev kind_of : Result ℕ WriteFault → ℕ
  kind_of (Ok size) = 0
  kind_of (Err ShortBuffer) = 1
  kind_of (Err NoFile) = 2

  abbrev kind : Writing → ℕ
  kind (writing w after) = kind_of w

  abbrev buffer_of : Writing → List ℕ
  buffer_of (writing w after) = after

  module _ (f : Fits root total arcs) (w : Result ℕ WriteFault) (after : List ℕ) (e : writing w after ≡ writing_of root total arcs buffer) where
    -- by the test of the lengths
    by_length : (b : Bool) → leb (length (file_bytes root total arcs)) (length buffer) ≡ b
        → writing w after ≡ cond b (writing (Ok (length (file_bytes root total arcs))) (over (file_bytes root total arcs) buffer)) (writing (Err ShortBuffer) buffer)
    by_length b q =
        e ∙ ap (λ (o : Option (List ℕ)). written_over o buffer) (fits_encoding root total arcs f)
        ∙ ap (λ (c : Bool). cond c (writing (Ok (length (file_bytes root total arcs))) (over (file_bytes root total arcs) buffer))
        (writing (Err ShortBuffer) buffer)) q

    test_is : leb (file_size (length arcs)) (length buffer) ≡ leb (length (file_bytes root total arcs)) (length buffer)
    test_is = ap (λ (x : ℕ). leb x (length buffer)) (sym (length_file root total arcs))

    pub sent_file : (size : ℕ) → w ≡ Ok size → SentBack (some (plan_with root total arcs)) (plan root total (length arcs)) buffer after
    sent_file size is = record { sent = λ t. go t (leb (length (file_bytes root total arcs)) (length buffer)) refl }
      where
        go : (t : EngineTables) (b : Bool) → leb (length (file_bytes root total arcs)) (length buffer) ≡ b
            → run (plan root total (length arcs)) (with_buffer after t) ≡ sent_back (some (plan_with root total arcs))
            (with_buffer buffer t)
        go t true q =
            ap (λ (x : List ℕ). run (plan root total (length arcs)) (with_buffer x t)) (ap buffer_of (by_length true q))
            ∙ sym (ap (λ (c : Bool). written c (plan_with root total arcs) (with_buffer buffer t)) (test_is ∙ q))
        go t false q = let z : ◌≡◌ {A = ℕ} 0 1 = ap kind_of (sym is) ∙ ap kind (by_length false q) in absurd (omega arith)

    pub sent_short : w ≡ Err ShortBuffer → SentBack (some (plan_with root total arcs)) (refused of_tables short_buffer 0) buffer after
    sent_short is = record { sent = λ t. go t (leb (length (file_bytes root total arcs)) (length buffer)) refl }
      where
        go : (t : EngineTables) (b : Bool) → leb (length (file_bytes root total arcs)) (length buffer) ≡ b
            → run (refused of_tables short_buffer 0) (with_buffer after t) ≡ sent_back (some (plan_with root total arcs))
            (with_buffer buffer t)
        go t true q = let z : ◌≡◌ {A = ℕ} 1 0 = ap kind_of (sym is) ∙ ap kind (by_length true q) in absurd (omega arith)
        go t false q =
            ap (λ (x : List ℕ). run (refused of_tables short_buffer 0) (with_buffer x t)) (ap buffer_of (by_length false q))
            ∙ sym (ap (λ (c : Bool). written c (plan_with root total arcs) (with_buffer buffer t)) (test_is ∙ q))

    -- every number of a plan fits
    pub never_none : w ≡ Err NoFile → ⊥
    never_none is = go (leb (length (file_bytes root total arcs)) (length buffer)) refl
      where
        go : (b : Bool) → leb (length (file_bytes root total arcs)) (length buffer) ≡ b → ⊥
        go true q = let z : ◌≡◌ {A = ℕ} 2 0 = ap kind_of (sym is) ∙ ap kind (by_length true q) in omega arith
        go false q = let z : ◌≡◌ {A = ℕ} 2 1 = ap kind_of (sym is) ∙ ap kind (by_length false q) in omega arith

-- ---- the plan of the cells

module _ {n k m : ℕ} {t : SheetTables} {cells : List ℕ} (F : FinishedSheet n k m t cells) where
  abbrev G : Graph
  G = graph_in n k m t

  table : IsCostTable G (cell_in cells (2 ^ k)) no_cost
  table = F.ready.finished.table

  plannable : Plannable G
  plannable = record {
    sound = F.ready.finished.sound;
    room = F.ready.finished.room;
    some_terminal = F.ready.some_terminal;
  }

  -- the cell of the full set, as it is read
  pub of_full : (root w cost : ℕ) → cost ≡ sender_column cells t.landings k w root → w ≡ full k → cost ≡ full_cell_in k cells t.landings root
  of_full root w cost e q = e ∙ ap (λ (x : ℕ). sender_column cells t.landings k x root) q

  -- what is in the cell of a node and the full set
  cell_is : (v : ℕ) → v < n → cell_in cells (2 ^ k) v (full k) ≡ full_cell G v
  cell_is v on = table v (full k) on (ones_lt k)

  module _ (root : ℕ) (is : LowestTo (full_cell_in k cells t.landings) n root) where
    -- 12
    pub none_sent : (cost : ℕ) → cost ≡ full_cell_in k cells t.landings root → cost ≡ no_cost → (buffer : List ℕ)
        → SentBack (plan_of G) (refused of_search no_plan 0) buffer buffer
    unfolding plan_of
    none_sent cost of_root none_here buffer = record { sent = λ lent. sym (ap (λ (o : Option Plan). sent_back o (with_buffer buffer lent)) no_plan_lem) }
      where
        each : (v : ℕ) → v < n → T (G.may_root v) → full_cell G v ≡ no_cost
        each v on may =
            omega (arith, cell_is v on, lowest_none n k m t cells root is (omega (arith, of_root, none_here)) v on may, full_capped G plannable v on)

        no_plan_lem : plan_of G ≡ none
        no_plan_lem = ap (λ (b : Bool). plan_unless b G) (all_none_of G each)

  module _ {root cost : ℕ} (R : FiniteRoot n k cells t.landings root cost) where
    pub on : root < n
    on = R.lowest.below

    is_cell : cell_in cells (2 ^ k) root (full k) ≡ full_cell G root
    is_cell = cell_is root on

    -- the cost is the cell's
    cost_is : cost ≡ cell_in cells (2 ^ k) root (full k)
    cost_is = R.of_root ∙ (choice_passed (is_sender_at t.landings root) (cell_in cells (2 ^ k) root (full k)) no_cost (λ e. R.some_cost (R.of_root ∙ e))).1

    pub finite_root : cell_in cells (2 ^ k) root (full k) < no_cost
    finite_root = omega (arith, is_cell, full_capped G plannable root on, cost_is, R.some_cost)

    is_root : root_of G (least_cell G no_cost) ≡ some root
    is_root =
        sym (same_root G (cell_in cells (2 ^ k)) (least_cell G no_cost) table)
        ∙ lowest_root n k m t cells root R.lowest (omega (arith, finite_root, cost_is, R.of_root))

    arcs_are : laid G cells root (full k) ≡ layout G (least_cell G no_cost) no_cost root (full k)
    arcs_are = same_layout G plannable.sound (cell_in cells (2 ^ k)) (least_cell G no_cost) no_cost table root (full k) on (ones_lt k)

    plan_is : plan_of G ≡ some (plan_with root cost (laid G cells root (full k)))
    unfolding plan_of
    plan_is =
        ap (λ (b : Bool). plan_unless b G) some_finite ∙ ap (plan_at G) is_root
        ∙ ap₂ (λ (x : ℕ) (l : List ℕ). some (plan_with root x l)) (sym (cost_is ∙ is_cell)) (sym arcs_are)
      where
        some_finite : all_none G ≡ false
        some_finite =
            by_test (all_none G) (λ b. b ≡ false)
            (λ q. absurd (R.some_cost (cost_is ∙ is_cell ∙ all_none_at G q root on (root_rule G (least_cell G no_cost) root is_root).passes)))
            (λ q. refl)

    -- the arcs are a subtree's
    least : Laid G root (full k) (cell_in cells (2 ^ k) root (full k)) (laid G cells root (full k))
    least =
        layout_is_least G plannable.sound no_cost plannable.room (cell_in cells (2 ^ k)) table root (full k) on
        (full_ne k F.ready.some_terminal) (ones_lt k) finite_root

    -- at most one arc for each node but the root
    pub few_laid : {count : ℕ} → count ≡ length (laid G cells root (full k)) → count ≤ n - 1
    few_laid counted = omega (arith, least.few)

    -- the numbers of the plan fit its file
    module _ (legs out : List ℕ) (count : ℕ) (laid_out : out ≡ over (laid G cells root (full k)) legs)
        (counted : count ≡ length (laid G cells root (full k))) where
      pub taken : take count out ≡ laid G cells root (full k)
      taken =
          ap (take count) laid_out
          ∙ take_at (laid G cells root (full k)) (drop (length (laid G cells root (full k))) legs) count (sym counted)

      pub plan_fits : root < 2 ^ 16 → Fits root cost (take count out)
      plan_fits small =
          subst (Fits root cost) (sym taken)
          (record {
            root_fits = small;
            total_fits = omega (arith, finite_root, cost_is);
            count_fits = omega (arith, least.few, F.few_nodes);
            arcs_fit = every_imp (λ e. e < m) (λ e. e < 2 ^ 16) (λ e on. omega (arith, F.few_arcs)) (laid G cells root (full k)) least.subtree.on_graph;
          })

      pub plan_sent : {answer : Stated} {before after : List ℕ} → SentBack (some (plan_with root cost (take count out))) answer before after
          → SentBack (plan_of G) answer before after
      plan_sent {answer} {before} {after} done = record {
        sent = λ lent.
            done.sent lent
            ∙ ap (λ (l : List ℕ). sent_back (some (plan_with root cost l)) (with_buffer before lent)) taken
            ∙ sym (ap (λ (o : Option Plan). sent_back o (with_buffer before lent)) plan_is);
      }

-- ---- over tables that hold a sheet

module _ {n k m : ℕ} {t : SheetTables} {f : FurtherLengths} (H : HeldSheet n k m t f) where
  -- the table that the search leaves is finished
  pub search_finishes : (cells : List ℕ) → n * 2 ^ k ≤ length cells → {after : List ℕ} → after ≡ over (cost_table (graph_in n k m t) no_cost) cells
      → FinishedSheet n k m t after
  search_finishes cells long {after} e = record {
    some_node = H.nodes.0;
    few_nodes = H.nodes.1;
    few_arcs = H.few_arcs;
    ready = record {
      some_terminal = H.terminals.0;
      terminals = H.terminals.1;
      long = H.long.tables;
      long_cells = omega (arith, ap length e, length_over table cells (omega (arith, so_many)));
      finished = record { sound = H.sound; room = H.room; table = held };
    };
  }
    where
      table : List ℕ
      table = cost_table (graph_in n k m t) no_cost

      so_many : length table ≡ n * 2 ^ k
      so_many = length_table (graph_in n k m t) no_cost

      held : IsCostTable (graph_in n k m t) (cell_in after (2 ^ k)) no_cost
      held v w on small = ap (λ (x : List ℕ). cell_in x (2 ^ k) v w) e ∙ table_over (graph_in n k m t) no_cost cells v w on small
