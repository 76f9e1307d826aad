-- The ways up in a plan, by the parents of its nodes: a node is above another where a path of listed arcs leads down from it. And the seats by the
-- marks and the landing entries are those of the plan.
-- Assumes nothing.
use Rattle.std.specs.Prelude.{ℕ, ◌-◌, ◌≤◌, ◌<◌, ◌≡◌, Bool, true, false, ◌&&◌, ◌||◌, List, T, eqb, length, get_or}
use Rattle.std.proofs.Math.Path.{refl}
use Rattle.std.proofs.Common.{sym, ap, ap₂, ◌∙◌, subst, arith}
use Rattle.std.proofs.Math.Option.{Option, none, some}
use Rattle.limits.specs.Limits.{max_nodes}
use Rattle.lists.specs.Tests.{same_tests}
use Rattle.lists.specs.Count.{bit}
use Rattle.lists.specs.Listed.{listed}
use Rattle.lists.specs.Find.{first, first_same}
use Rattle.lists.specs.Sums.{sum_to, passing_most, passing_one}
use Rattle.subset.specs.Sets.{has}
use Rattle.lent_tables.specs.SheetTables.{SheetTables}
use Rattle.graph.specs.Graph.{Graph}
use Rattle.graph.specs.Paths.{is_reached}
use Rattle.graph.specs.Subtrees.{held}
use Rattle.graph.proofs.laws.Reaching.{path_same}
use Rattle.graph.proofs.laws.ReachTest.{reached_path, path_reached}
use Rattle.graph.proofs.laws.Holding.{held_reached, reached_held}
use Rattle.graph.proofs.laws.SubtreeParts.{arc_of, start_reached}
use Rattle.planfile.specs.Format.{arcs_to}
use Rattle.marking.specs.Links.{Within}
use Rattle.reaching.specs.laws.MarkLaws.{mark_at_lem}
use Rattle.plan_shares.specs.Shares.{seat, is_below}
use Rattle.plan_shares.proofs.laws.Above.{top_alone, above_end, fewer_above}
use Rattle.serving.specs.Parents.{no_parent, Parents, Ways}
use Rattle.serving.specs.Seats.{may_seat, seat_in, is_above_seat}
use Rattle.file_shares.specs.PlanReady.{PlanReady}

module _ {G : Graph} {root : ℕ} {file : List ℕ} {count k : ℕ} {t : SheetTables} {marks : List ℕ} (ready : PlanReady G root file count k t marks) where
  abbrev L : List ℕ
  L = arcs_to file count

  -- the listed arcs lead between nodes that tables of the largest sheet have
  pub plan_within : Within max_nodes L t.starts t.ends
  plan_within = record {
    in_starts = λ e i. (ready.held e i).in_starts;
    in_ends = λ e i. (ready.held e i).in_ends;
    start_lt = λ e i.
        omega (arith, (ready.held e i).start, ready.sound.start_lt e (arc_of ready.tree e i), ready.nodes, ready.few_nodes);
    end_lt = λ e i. omega (arith, (ready.held e i).end, ready.sound.end_lt e (arc_of ready.tree e i), ready.nodes, ready.few_nodes);
  }

  -- ---- the ways up

  module _ (parents : List ℕ) (size : length parents ≡ max_nodes)
      (P : Parents (λ e. get_or t.starts e 0) (λ e. get_or t.ends e 0) L parents) where
    -- the arc to a node that has a parent, by the graph
    pub record ArcTo (v : ℕ) : Type 0 where
      pub arc : ℕ
      pub is_listed : T (listed arc L)
      pub from : G.start arc ≡ get_or parents v 0
      pub to : G.end arc ≡ v

    arc_to : (v : ℕ) → v < length parents → (get_or parents v 0 ≡ no_parent → ⊥) → ArcTo v
    arc_to v on named =
        let a = P.some v on named in
        let h = ready.held a.arc a.is_listed in
        record { arc = a.arc; is_listed = a.is_listed; from = h.start ∙ a.from; to = h.end ∙ a.to }

    -- how many nodes are above v
    abbrev above : ℕ → ℕ
    above v = sum_to G.nodes (λ u. bit (is_reached G L u v))

    above_some : (v : ℕ) → v < G.nodes → 1 ≤ above v
    above_some v on = passing_one (λ u. is_reached G L u v) G.nodes v on (path_reached G L v v (path_same G L refl))

    falls : (v : ℕ) → v < length parents → ArcTo v → (get_or parents v 0 < length parents) × (above (get_or parents v 0) - 1 < above v - 1)
    falls v on a =
        let e = a.arc in
        let start_on : G.start e < G.nodes = ready.sound.start_lt e (arc_of ready.tree e a.is_listed) in
        let fewer : above (G.start e) < above (G.end e) = fewer_above G root L ready.tree e a.is_listed ready.sound in
        let few : above (get_or parents v 0) < above v = subst (λ (x : ℕ). above (get_or parents v 0) < above x) a.to
        (subst (λ (x : ℕ). above x < above (G.end e)) a.from fewer) in
        let one : 1 ≤ above (get_or parents v 0) = subst (λ (x : ℕ). 1 ≤ above x) a.from (above_some (G.start e) start_on) in
        (omega (arith, a.from, ready.nodes, ready.few_nodes), omega arith)

    pub plan_ways : Ways parents
    plan_ways = record {
      is_above = is_reached G L;
      depth = λ v. above v - 1;
      low = λ v on. omega (arith, passing_most (λ u. is_reached G L u v) G.nodes, ready.nodes, ready.few_nodes);
      top = λ v on alone. top_alone G L v (λ e i q. P.none v on alone e i (sym (ready.held e i).end ∙ q));
      up = λ v on named u.
          let a = arc_to v on named in
          ap (is_reached G L u) (sym a.to) ∙ above_end G root L ready.tree a.arc a.is_listed u
          ∙ ap₂ (λ (x y : ℕ). eqb u x || is_reached G L u y) a.to a.from;
      falls = λ v on named. falls v on (arc_to v on named);
    }

    -- a node is above a seat where the seat is at or below it
    pub above_seat : (u : ℕ) (o : Option ℕ) → is_above_seat plan_ways u o ≡ is_below G root L u o
    unfolding plan_ways
    above_seat u none = refl
    above_seat u (some v) = refl

  -- ---- the seats

  -- the marked nodes are those that the plan holds
  marked_held : (v : ℕ) → v < length marks → eqb (get_or marks v 0) 1 ≡ listed v (held G root L)
  marked_held v on =
      ap (λ (l : List ℕ). eqb (get_or l v 0) 1) ready.marked
      ∙ ap (λ (x : ℕ). eqb x 1) (mark_at_lem G L root v (omega (arith, ready.nodes)))
      ∙ one (is_reached G L root v)
      ∙ same_tests (is_reached G L root v) (listed v (held G root L))
      (λ s. reached_held G root L (reached_path G L root (length L) v s))
      (λ s. path_reached G L root v (held_reached G root L (start_reached ready.tree) v s))
    where
      one : (b : Bool) → eqb (bit b) 1 ≡ b
      one true = refl
      one false = refl

  pub plan_seat : (i : ℕ) → seat_in marks t.landings i ≡ seat G root L i
  plan_seat i =
      first_same (may_seat marks t.landings i) (λ v. listed v (held G root L) && has (G.landings v) i) (length marks)
      (λ v on. ap₂ ◌&&◌ (marked_held v on) (ap (λ (w : ℕ). has w i) (sym (ready.landings v on))))
      ∙ ap (first (λ v. listed v (held G root L) && has (G.landings v) i)) (sym ready.nodes)
