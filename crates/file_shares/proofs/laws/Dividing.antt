-- The shares and the unassigned sum of a plan, from the sets of terminals that are entered at each node and from the prices split arc by arc.
-- Assumes nothing.
use Rattle.std.specs.Prelude.{ℕ, ◌+◌, ◌/◌, ◌%◌, ◌^◌, ◌<◌, ◌≡◌, Bool, cond, ◌&&◌, List, T, ltb, length, get_or}
use Rattle.std.proofs.Common.{sym, ap, ap₂, ◌∙◌, subst, arith, ltb→lt, ext_get_or, lt-ltb}
use Rattle.limits.specs.Limits.{max_nodes}
use Rattle.lists.specs.Tests.{and_left}
use Rattle.lists.specs.Count.{bit}
use Rattle.lists.specs.Listed.{listed}
use Rattle.lists.specs.Numbers.{length_values, get_d_values, value_in}
use Rattle.lists.specs.Sums.{sum_by, sum_to, sum_to_same, sum_values}
use Rattle.subset.specs.Sets.{has}
use Rattle.subset.specs.laws.Parts.{terminals_lt}
use Rattle.lent_tables.specs.SheetTables.{SheetTables}
use Rattle.graph.specs.Graph.{Graph}
use Rattle.graph.proofs.laws.SubtreeParts.{arc_of}
use Rattle.planfile.specs.Format.{listed_arc, arcs_to}
use Rattle.plan_shares.specs.Shares.{payers_to, part_of, unpaid_of, is_below, sits_below, part_at, unpaid_at, share_of, shares_of}
use Rattle.serving.specs.Parents.{Parents}
use Rattle.serving.specs.Seats.{seat_in, Served}
use Rattle.price_parts.specs.Splitting.{paid_by, paid_by_none, weight_at, set_at, ListedReady, ListedSplit}
use Rattle.file_shares.specs.PlanReady.{PlanReady, Divided}
use Rattle.file_shares.proofs.laws.PlanWays.{plan_ways, above_seat, plan_seat}

-- ---- payers that agree

module _ (pays other : ℕ → Bool) where
  payers_same : (n : ℕ) → ((i : ℕ) → i < n → pays i ≡ other i) → payers_to pays n ≡ payers_to other n
  payers_same n same = sum_to_same n (λ i. bit (pays i)) (λ i. bit (other i)) (λ i l. ap bit (same i l))

  -- the part of one of k terminals
  part_same : (k price i : ℕ) → ((j : ℕ) → j < k → pays j ≡ other j) → i < k
      → part_of pays (payers_to pays k) price i ≡ part_of other (payers_to other k) price i
  part_same k price i same l = λ x.
      cond (same i l x) (price / payers_same k same x + bit (ltb (payers_same i (λ j m. same j (omega arith)) x) (price % payers_same k same x))) 0

module _ {G : Graph} {root : ℕ} {file : List ℕ} {count k : ℕ} {t : SheetTables} {marks : List ℕ} (ready : PlanReady G root file count k t marks)
    (parents : List ℕ) (size : length parents ≡ max_nodes) (P : Parents (λ e. get_or t.starts e 0) (λ e. get_or t.ends e 0) (arcs_to file count) parents)
    (served : List ℕ) (room : length served ≡ max_nodes) (S : Served parents marks t.landings k served) where
  abbrev L : List ℕ
  L = arcs_to file count

  -- ---- the sets

  entered : (v : ℕ) → v < G.nodes → (i : ℕ) → has (get_or served v 0) i ≡ (ltb i k && sits_below G root L v i)
  entered v on i =
      (S (plan_ways ready parents size P)).at v (omega (arith, ready.nodes, ready.few_nodes)) i
      ∙ ap (λ (b : Bool). ltb i k && b)
      (above_seat ready parents size P v (seat_in marks t.landings i) ∙ ap (is_below G root L v) (plan_seat ready i))

  entered_below : (v : ℕ) → v < G.nodes → (i : ℕ) → i < k → has (get_or served v 0) i ≡ sits_below G root L v i
  entered_below v on i l = entered v on i ∙ ap (λ (b : Bool). b && sits_below G root L v i) (lt-ltb i k l)

  entered_few : (v : ℕ) → v < G.nodes → get_or served v 0 < 2 ^ k
  entered_few v on =
      terminals_lt k (get_or served v 0) (λ i h. ltb→lt i k (and_left (ltb i k) (sits_below G root L v i) (subst T (entered v on i) h)))

  -- ---- the listed arcs

  is_listed : (j : ℕ) → j < count → T (listed (listed_arc file j) L)
  is_listed j l = value_in (listed_arc file) count j l

  end_on : (j : ℕ) → j < count → G.end (listed_arc file j) < G.nodes
  end_on j l = ready.sound.end_lt (listed_arc file j) (arc_of ready.tree (listed_arc file j) (is_listed j l))

  weight_is : (j : ℕ) → j < count → weight_at file t.weights j ≡ G.weight (listed_arc file j)
  weight_is j l = sym (ready.held (listed_arc file j) (is_listed j l)).weight

  set_is : (j : ℕ) → j < count → set_at file t.ends served j ≡ get_or served (G.end (listed_arc file j)) 0
  set_is j l = ap (λ (v : ℕ). get_or served v 0) (sym (ready.held (listed_arc file j) (is_listed j l)).end)

  -- a sum over the records is one over the arcs
  over_arcs : (f g : ℕ → ℕ) → ((j : ℕ) → j < count → f j ≡ g (listed_arc file j)) → sum_to count f ≡ sum_by g L
  over_arcs f g same = sum_to_same count f (λ j. g (listed_arc file j)) same ∙ sum_values g (listed_arc file) count

  -- what the splitting asks for, with a table of n shares
  pub listed_ready : {n : ℕ} → n ≡ k → ListedReady file count t.ends t.weights served n
  listed_ready same = subst (ListedReady file count t.ends t.weights served) (sym same) record {
    few = ready.few_terminals;
    in_ends = λ j l. (ready.held (listed_arc file j) (is_listed j l)).in_ends;
    in_weights = λ j l. (ready.held (listed_arc file j) (is_listed j l)).in_weights;
    in_served = λ j l.
        omega (arith, (ready.held (listed_arc file j) (is_listed j l)).end, end_on j l, ready.nodes, ready.few_nodes);
    sets = λ j l. subst (λ (w : ℕ). w < 2 ^ k) (sym (set_is j l)) (entered_few (G.end (listed_arc file j)) (end_on j l));
    low = omega (arith, over_arcs (weight_at file t.weights) G.weight weight_is, ready.low);
  }

  -- ---- the shares

  -- what one terminal pays of one arc, and what nobody pays of it
  arc_part : (i : ℕ) → i < k → (j : ℕ) → j < count
      → paid_by k (set_at file t.ends served j) (weight_at file t.weights j) i ≡ part_at G root L (G.end (listed_arc file j)) (G.weight (listed_arc file j)) i
  arc_part i l j m =
      let v = G.end (listed_arc file j) in
      ap₂ (λ (w x : ℕ). paid_by k w x i) (set_is j m) (weight_is j m)
      ∙ part_same (has (get_or served v 0)) (sits_below G root L v) k (G.weight (listed_arc file j)) i (entered_below v (end_on j m)) l
      ∙ ap (λ (n : ℕ). part_of (sits_below G root L v) (payers_to (sits_below G root L v) n) (G.weight (listed_arc file j)) i) (sym ready.terminals)

  arc_rest : (j : ℕ) → j < count
      → paid_by_none k (set_at file t.ends served j) (weight_at file t.weights j) ≡ unpaid_at G root L (G.end (listed_arc file j)) (G.weight (listed_arc file j))
  arc_rest j m =
      let v = G.end (listed_arc file j) in
      ap₂ (λ (w x : ℕ). paid_by_none k w x) (set_is j m) (weight_is j m)
      ∙ ap (λ (n : ℕ). unpaid_of n (G.weight (listed_arc file j)))
      (payers_same (has (get_or served v 0)) (sits_below G root L v) k (entered_below v (end_on j m))
      ∙ ap (payers_to (sits_below G root L v)) (sym ready.terminals))

  pub divided : {n rest : ℕ} {shares : List ℕ} → n ≡ k → ListedSplit file count t.ends t.weights served n shares rest
      → Divided G root file count shares rest
  divided {n} {rest} {shares} same split = record {
    paid = ext_get_or 0 shares (shares_of G root L) (D.size ∙ sym ready.terminals ∙ sym (length_values (share_of G root L) 0 G.terminals))
        (λ i l. share i (omega (arith, D.size)));
    unpaid =
        D.unpaid
        ∙ over_arcs (λ j. paid_by_none k (set_at file t.ends served j) (weight_at file t.weights j))
        (λ e. unpaid_at G root L (G.end e) (G.weight e)) arc_rest;
  }
    where
      D : ListedSplit file count t.ends t.weights served k shares rest
      D = subst (λ (m : ℕ). ListedSplit file count t.ends t.weights served m shares rest) same split

      share : (i : ℕ) → i < k → get_or shares i 0 ≡ get_or (shares_of G root L) i 0
      share i l =
          D.paid i l
          ∙ over_arcs (λ j. paid_by k (set_at file t.ends served j) (weight_at file t.weights j) i)
          (λ e. part_at G root L (G.end e) (G.weight e) i) (arc_part i l)
          ∙ ap (share_of G root L) (omega arith)
          ∙ sym (get_d_values (share_of G root L) 0 G.terminals i 0 (omega (arith, ready.terminals)))
