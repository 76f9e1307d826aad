-- The search from its start to its end: the table that is filled is the cost table.
-- Assumes nothing.
use Rattle.std.specs.Prelude.{ℕ, ◌+◌, ◌*◌, ◌^◌, ◌≤◌, ◌<◌, ◌≡◌, refl, ◌⊎◌, List, ◌++◌, map, Bool, true, false, cond, length, get_or, take, drop, replicate, eqb}
use Rattle.std.proofs.Common.{sym, ap, ap₂, ◌∙◌, subst, subst₂, inl, inr, arith, zero-add, mul-le-mul, length-append, length-drop, length-take-le, pow_pos, pow_mono}
use Rattle.std.proofs.Math.Option
use Rattle.std.proofs.Math.Option.{Option, none, some}
use Rattle.std.proofs.Math.Arith.{digits_lt}
use Rattle.std.proofs.lemmas.List.{length-replicate}
use Rattle.std.proofs.Math.Pow.{pow-lt}
use Rattle.limits.specs.Limits.{max_nodes, max_terminals, max_subsets, max_weight, no_cost}
use Rattle.lists.specs.Numbers.{numbers, length_values, get_d_values}
use Rattle.lists.specs.Over.{over}
use Rattle.subset.specs.Sets.{single}
use Rattle.landing_entries.specs.Entries.{terminals_in}
use Rattle.subset.specs.laws.Terminals.{has_lt}
use Rattle.lent_tables.specs.SheetTables.{SheetTables, arc_tables_of, arcs_long}
use Rattle.graph.specs.LeastTotals.{least_total, IsLeastTotal, least_cell, IsCostTable, Room}
use Rattle.graph.proofs.Theorems.{least_total_is_least}
use Rattle.graph.specs.Graph.{Graph}
use Rattle.graph.specs.HeldGraph.{graph_in, start_in, end_in, weight_in, landings_in}
use Rattle.graph.specs.ClosedSupported.{by_landing}
use Rattle.graph.proofs.laws.LeastMeaning.{room_above}
use Rattle.cost_table.specs.Cells.{cell_in, cost_table}
use Rattle.cost_table.proofs.laws.Rows.{row_fits, length_cells, cells_are}
use Rattle.working_none.specs.laws.WorkingNone.{finished_below, working_none, finished}
use Rattle.working_none.specs.laws.Low.{entry, AllLow}
use Rattle.order_ranges.specs.laws.Ranges.{entry_of, Ordered, OneSize, first_empty, taken_order}
use Rattle.settling.specs.laws.ClosedOver.{ArcFrom, ClosedOver}
use Rattle.settling.specs.laws.Arcs.{start_at, end_at, weight_at, ArcTables}
use Rattle.settling.specs.laws.Lowered.{AllCovered}
use Rattle.arc_index.specs.laws.Indexed.{Indexed}
use Rattle.columns.specs.laws.Searched.{Tables, cells_low}
use Rattle.columns.specs.laws.ClosedCells.{SetsClosed}
use Rattle.rows.specs.laws.Start.{start_cell, start_landing, start_le, start_finite}
use Rattle.rows.specs.laws.Rows.{row_of, StartRow, EachRow, row_length, row_entry}
use Rattle.splits.specs.laws.SplitRows.{SplitTo}
use Rattle.search.specs.laws.Filling.{Filling, splitting, closing, filled}
use Rattle.search.specs.Searchable.{Searchable}

-- the least totals with the one "none" become those with the other
finished_cell : (G : Graph) → Room G working_none → (v w : ℕ) → finished (least_cell G working_none v w) ≡ least_cell G no_cost v w
finished_cell G room v w = go (eqb w 0) (least_total G v w) (least_total_is_least G v w)
  where
    go : (b : Bool) (o : Option ℕ) → IsLeastTotal G v w o → finished (cond b 0 (Option.get_or o working_none)) ≡ cond b 0 (Option.get_or o no_cost)
    go true o says = refl
    go false none says = refl
    go false (some x) says = finished_below x (subst (λ (y : ℕ). y < working_none) says.attained (room v says.tree says.subtree))

module _ {n k m : ℕ} {t : SheetTables} (S : Searchable n k m t) where
  abbrev G : Graph
  G = graph_in n k m t

  pub arc_tables : ArcTables n m (arc_tables_of t)
  arc_tables = record {
    few = S.few_nodes;
    long = arcs_long S.long;
    start_lt = λ e l. subst (λ (x : ℕ). x < n) (start_in n k m t e l) (S.sound.start_lt e l);
    end_lt = λ e l. subst (λ (x : ℕ). x < n) (end_in n k m t e l) (S.sound.end_lt e l);
    weight_le = λ e l. subst (λ (x : ℕ). x ≤ max_weight) (weight_in n k m t e l) (S.weights_low e l);
  }

  room : Room G working_none
  room = room_above G S.sound max_weight 0 working_none S.weights_low (λ u _. omega arith) (omega (arith, S.few_nodes))

  pub few_sets : 2 ^ k ≤ max_subsets
  few_sets = pow_mono {j = max_terminals} S.few_terminals

  -- the index, by the ends as a program reads them
  pub index_in : {by_end places : List ℕ} → Indexed n m G.end by_end places → Indexed n m (end_at t) by_end places
  index_in I = record {
    by_end_long = I.by_end_long;
    places_long = I.places_long;
    place_le = I.place_le;
    first = I.first;
    last = I.last;
    group = λ v i on from to. let (arc, ends) = I.group v i on from to in (arc, sym (end_in n k m t _ arc) ∙ ends);
  }

  module _ {size : ℕ} (is : size ≡ 2 ^ k) where
    -- ---- the start

    module _ {at : ℕ → ℕ} {count : ℕ} (O : Ordered at count (2 ^ k)) {before cells : List ℕ} (whole : length before ≡ n * size)
        (E : EachRow (StartRow t.landings) n size n before cells) where
      start_cells : (v w : ℕ) → v < n → w < size → cell_in cells size v w ≡ start_cell (G.landings v) w
      start_cells v w on small =
          let fits = row_fits v n size on in
          let f : ℕ → ℕ = start_cell (terminals_in (get_or t.landings v 0)) in
          sym (row_entry size cells v w small)
          ∙ ap (λ (l : List ℕ). entry l w) (E.done v on).cells
          ∙ get_d_values f 0 (length (row_of before size v)) w 0 (omega (arith, row_length size before v (omega arith)))
          ∙ ap f (zero-add w)
          ∙ ap (λ (x : ℕ). start_cell x w) (sym (landings_in n k m t v on))

      pub fill_start : Filling G working_none at 1 1 (cell_in cells size)
      fill_start = record {
        nothing = λ v on. start_cells v 0 on (omega (arith, pow_pos k));
        landed = λ v i on l here. start_cells v (single i) on (omega (arith, pow-lt l)) ∙ start_landing (G.landings v) i here;
        capped = λ v w on small. omega (arith, start_cells v w on (omega arith), start_le (G.landings v) w);
        supported = λ v w on ne small finite.
            let one = start_finite (G.landings v) w ne (omega (arith, start_cells v w on (omega arith))) in
            by_landing one.terminal (has_lt k w one.terminal small one.own) one.alone one.landing (omega arith);
        closed = λ i l ne small. absurd (ne (ap at (let z : i ≡ 0 = omega arith in z) ∙ first_empty at count (2 ^ k) O (pow_pos k)));
        started = λ i f g small. absurd (omega arith);
      }

    -- ---- one size

    module _ {at : ℕ → ℕ} {count : ℕ} (O : Ordered at count (2 ^ k)) {first last : ℕ} (R : OneSize at count first last) {before after : List ℕ} where
      pub fill_split : Filling G working_none at first first (cell_in before size) → SplitTo at first last n size n before after
          → Filling G working_none at first last (cell_in after size)
      fill_split F E =
          splitting G S.sound (λ v. refl) working_none at count O first last R (cell_in before size) (cell_in after size) room F
          (record {
            others = λ v w on small out. (E.done v on on).others w (omega arith) out;
            each = λ v i on f g. (E.done v on on).each i f g;
          })

      pub fill_close : Filling G working_none at first last (cell_in before size) → SetsClosed n m size (arc_tables_of t) at first last last before after
          → Filling G working_none at last last (cell_in after size)
      fill_close F C =
          closing G S.sound (λ v. refl) working_none at count O first last R (cell_in before size) (cell_in after size) F
          (record {
            others = λ v w on small out. C.others v w on (omega arith) out;
            each = λ i f g. on_graph i (C.each i f g g);
          })
        where
          on_graph : (i : ℕ) → ClosedOver n m (start_at t) (end_at t) (weight_at t) (λ v. cell_in before size v (at i)) (λ v. cell_in after size v (at i))
              → ClosedOver n m G.start G.end G.weight (λ v. cell_in before size v (at i)) (λ v. cell_in after size v (at i))
          on_graph i D = record {
            low = D.low;
            from = λ v on. go v (D.from v on);
            closed = λ e l.
                omega (
                  arith,
                  D.closed e l,
                  weight_in n k m t e l,
                  ap (λ (u : ℕ). cell_in after size u (at i)) (start_in n k m t e l),
                  ap (λ (u : ℕ). cell_in after size u (at i)) (end_in n k m t e l),
                );
          }
            where
              go : (v : ℕ) → (cell_in after size v (at i) ≡ cell_in before size v (at i))
                  ⊎ ArcFrom m (start_at t) (end_at t) (weight_at t) (λ u. cell_in after size u (at i)) v
                  → (cell_in after size v (at i) ≡ cell_in before size v (at i)) ⊎ ArcFrom m G.start G.end G.weight
                  (λ u. cell_in after size u (at i)) v
              go v (inl e) = inl e
              go v (inr h) = inr (record {
                arc = h.arc;
                on_graph = h.on_graph;
                from = start_in n k m t h.arc h.on_graph ∙ h.from;
                gives = omega (
                  arith,
                  h.gives,
                  weight_in n k m t h.arc h.on_graph,
                  ap (λ (u : ℕ). cell_in after size u (at i)) (end_in n k m t h.arc h.on_graph),
                );
              })

    -- no entry of the list of cells is above "none"
    fill_low : {at : ℕ → ℕ} {p q : ℕ} (cells : List ℕ) → length cells ≡ n * size → Filling G working_none at p q (cell_in cells size) → AllLow cells
    fill_low cells whole F = cells_low n size cells whole (λ v w on small. F.capped v w on (omega arith))

    -- ---- what is asked of the cells and the lanes

    size_few : size ≤ max_subsets
    size_few = omega (arith, few_sets)

    pub start_asked : (cells : List ℕ) → length cells ≡ n * 2 ^ k
        → (n ≤ max_nodes) × (size ≤ max_subsets) × (length cells ≡ n * size) × (n ≤ length t.landings)
    start_asked cells whole = (S.few_nodes, size_few, whole ∙ ap (λ (x : ℕ). n * x) (sym is), S.long.landings)

    -- there is a set, the empty one
    pub some_set : {at : ℕ → ℕ} {count : ℕ} → Ordered at count (2 ^ k) → 1 ≤ count
    some_set O = let (i, l, e) = O.found 0 (pow_pos k) in omega arith

    -- the order, of `size` sets
    pub sets_in : {at : ℕ → ℕ} {count : ℕ} → Ordered at count (2 ^ k) → Ordered at count size
    sets_in {at} {count} O = subst (Ordered at count) (sym is) O

    module _ {at : ℕ → ℕ} {count : ℕ} (O : Ordered at count (2 ^ k)) {first last : ℕ} (R : OneSize at count first last) where
      pub split_asked : (cells : List ℕ) → length cells ≡ n * size → 0 < first → Filling G working_none at first first (cell_in cells size)
          → {lanes : ℕ} → 2 ^ k * 4 ≤ lanes
          → Ordered at count size × OneSize at count first last × (0 < first) × (n ≤ max_nodes) × (size ≤ max_subsets) × (length cells ≡ n * size)
          × AllLow cells × (size * 4 ≤ lanes) × (n ≤ length t.landings)
      split_asked cells whole pos F wide = (sets_in O, R, pos, S.few_nodes, size_few, whole, fill_low cells whole F, omega arith, S.long.landings)

      -- after the splits
      pub close_asked : (before cells lanes : List ℕ) {by_end places : List ℕ} → Indexed n m G.end by_end places
          → AllCovered m (start_at t) (end_at t) (weight_at t) by_end (entry places n) → length lanes ≡ n * 4 → length before ≡ n * size
          → Filling G working_none at first first (cell_in before size) → SplitTo at first last n size n before cells
          → Tables n m size (arc_tables_of t) by_end places cells lanes
      close_asked before cells lanes I covered wide whole F E =
          let all : length cells ≡ n * size = E.same_length ∙ whole in
          record {
            arcs = arc_tables;
            index = index_in I;
            whole = all;
            low = fill_low cells all (fill_split O R F E);
            wide = wide;
            few_arcs = S.few_arcs;
            covered = covered;
          }

      -- one size is done
      pub fill_next : {before mid after : List ℕ} → length before ≡ n * size → Filling G working_none at first first (cell_in before size)
          → SplitTo at first last n size n before mid → SetsClosed n m size (arc_tables_of t) at first last last mid after
          → (length after ≡ n * size) × Filling G working_none at last last (cell_in after size)
      fill_next whole F E C = (C.same_length ∙ E.same_length ∙ whole, fill_close O R (fill_split O R F E) C)

    -- ---- the end

    pub fill_end : {at : ℕ → ℕ} {p count : ℕ} (before : List ℕ) {after : List ℕ} → Ordered at count (2 ^ k) → count ≤ p → p ≤ count → length before ≡ n * size
        → Filling G working_none at p p (cell_in before size)
        → after ≡ map (λ i. finished (entry before i)) (numbers 0 (length before)) → after ≡ cost_table G no_cost
    fill_end {at} {p} {count} before {after} O high low whole F done =
        cells_are n (2 ^ k) (least_cell G no_cost) after
        (ap length done ∙ length_values (λ i. finished (entry before i)) 0 (length before) ∙ whole ∙ ap (λ (x : ℕ). n * x) is)
        (λ v w on small. ap (λ (x : ℕ). cell_in after x v w) (sym is) ∙ each v w on (omega arith))
      where
        each : (v w : ℕ) → v < n → w < size → cell_in after size v w ≡ least_cell G no_cost v w
        each v w on small =
            let l = digits_lt on small in
            ap (λ (x : List ℕ). entry x (v * size + w)) done
            ∙ get_d_values (λ i. finished (entry before i)) 0 (length before) (v * size + w) 0 (omega arith)
            ∙ ap (λ (x : ℕ). finished (entry before x)) (zero-add (v * size + w))
            ∙ ap finished (table v w on (omega arith))
            ∙ finished_cell G room v w
          where
            table : IsCostTable G (cell_in before size) working_none
            table = filled G S.sound working_none room at count O (cell_in before size)
                (subst (λ (x : ℕ). Filling G working_none at x x (cell_in before size)) (let e : p ≡ count = omega arith in e) F)

-- ---- parts of longer tables

-- the first i entries of a list, changed: it is as long as before
pub relent_length : (i : ℕ) (old new : List ℕ) {len : ℕ} → length new ≡ length (take i old) → length old ≡ len → i ≤ len → length (new ++ drop i old) ≡ len
relent_length i old new e same long = omega (arith, length-append new (drop i old), length-drop i old, length-take-le i old (omega arith))

module _ {n k m : ℕ} {t : SheetTables} (S : Searchable n k m t) where
  -- how many cells there are
  pub total_fits : {size : ℕ} → size ≡ 2 ^ k → n * size ≤ max_nodes * max_subsets
  total_fits {size} is = let few : size ≤ max_subsets = omega (arith, few_sets S) in mul-le-mul S.few_nodes few

  pub size_fits : {size : ℕ} → size ≡ 2 ^ k → size ≤ max_subsets
  size_fits is = omega (arith, few_sets S)

  pub total_long : {size len : ℕ} → size ≡ 2 ^ k → n * 2 ^ k ≤ len → n * size ≤ len
  total_long is long = omega (arith, ap (λ (x : ℕ). n * x) is)

  -- what is asked of parts of the sets and the cells, where so many are taken, and of so many lanes
  pub fill_asked : {size count : ℕ} {by_end places : List ℕ} → size ≡ 2 ^ k → (sets cells : List ℕ) (lanes : ℕ) → n * 2 ^ k ≤ length cells → max_nodes * 4 ≤ lanes
      → length sets ≡ max_subsets → (count ≤ max_subsets) × Ordered (entry_of sets) count size → Indexed n m (graph_in n k m t).end by_end places
      → AllCovered m (start_at t) (end_at t) (weight_at t) by_end (entry places n)
      → Searchable n k m t × Indexed n m (graph_in n k m t).end by_end places × (length (take (n * size) cells) ≡ n * 2 ^ k)
      × (n * 4 ≤ lanes) × (2 ^ k * 4 ≤ lanes) × Ordered (entry_of (take count sets)) (length (take count sets)) (2 ^ k)
      × (length (take count sets) ≤ max_subsets) × AllCovered m (start_at t) (end_at t) (weight_at t) by_end (entry places n)
  fill_asked {size} {count} is sets cells lanes long wide all (few, order) I covered =
      let so_many : length (take count sets) ≡ count = length-take-le count sets (omega arith) in (
        S,
        I,
        length-take-le (n * size) cells (total_long is long) ∙ ap (λ (x : ℕ). n * x) is,
        omega (arith, S.few_nodes),
        omega (arith, few_sets S),
        subst₂ (Ordered (entry_of (take count sets))) (sym so_many) is (taken_order count sets order),
        omega arith,
        covered,
      )

  -- the first cells are the cost table, and later ones are untouched
  pub cells_over : {size : ℕ} → size ≡ 2 ^ k → (old new : List ℕ) → new ≡ cost_table (graph_in n k m t) no_cost
      → new ++ drop (n * size) old ≡ over (cost_table (graph_in n k m t) no_cost) old
  cells_over {size} is old new e =
      let so_many : n * size ≡ length (cost_table (graph_in n k m t) no_cost) =
      ap (λ (x : ℕ). n * x) is ∙ sym (length_cells n (2 ^ k) (least_cell (graph_in n k m t) no_cost)) in
      ap₂ (λ (a : List ℕ) (i : ℕ). a ++ drop i old) e so_many

-- the first marks are 1, and later ones are untouched
pub marks_over : (n : ℕ) (old new : List ℕ) → n ≤ length old → new ≡ replicate (length (take n old)) 1 → new ++ drop n old ≡ over (replicate n 1) old
marks_over n old new long e =
    ap₂ (λ (a : List ℕ) (i : ℕ). a ++ drop i old) (e ∙ ap (λ (x : ℕ). replicate x 1) (length-take-le n old long)) (sym (length-replicate n 1))
