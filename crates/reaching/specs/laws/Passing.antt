-- Passes over the listed arcs: what each leaves fewer unmarked, and that the marks are those of the definition once no listed arc leads from a
-- marked node to one that is not marked.
-- Assumes nothing.
use Rattle.std.specs.Prelude.{ℕ, ◌+◌, ◌≤◌, ◌<◌, ◌≡◌, refl, ◌≢◌, Bool, true, false, not, ◌||◌, List, [], ◌∷◌, ◌++◌, map, length, get_or, set, replicate, T, eqb}
use Rattle.std.proofs.Common.{sym, ap, ◌∙◌, subst, ⊎_elim, add-one, arith, length-set, ext_get_or}
use Rattle.std.proofs.lemmas.List.{length-replicate}
use Rattle.lists.specs.Tests.{by_fact, by_eq, not_both}
use Rattle.lists.specs.Count.{bit}
use Rattle.lists.specs.Listed.{listed, listed_only, listed_append}
use Rattle.lists.specs.Numbers.{numbers, values_more}
use Rattle.lists.specs.Sums.{sum_to_lt}
use Rattle.graph.specs.Graph.{Graph}
use Rattle.graph.specs.Paths.{is_reached}
use Rattle.graph.proofs.laws.Reaching.{path_carries}
use Rattle.graph.proofs.laws.ReachTest.{reached_path, path_reached}
use Rattle.marking.specs.Links.{link_graph, Within}
use Rattle.marking.specs.Marking.{Marked, Marking, Carried, ArcMarks}
use Rattle.marking.specs.laws.MarkingLaws.{set_marked, set_keeps, marking_start, carried_none, arc_start, arc_end, arc_to, marked_at, carried_arc}
use Rattle.reaching.specs.Marks.{marks_of}
use Rattle.reaching.specs.Passes.{Settled, unmarked, Progress, Passing, Passed, Completed}
use Rattle.reaching.specs.laws.MarkLaws.{marks_size, mark_at_lem}

-- ---- what is left to mark

-- a node that is not marked, and is then, is one less
unmarked_falls : (marks : List ℕ) (x : ℕ) → x < length marks → (n : ℕ) → x < n → get_or marks x 0 ≢ 1 → unmarked n (set marks x 1) < unmarked n marks
unmarked_falls marks x on n l ne = sum_to_lt n x (λ v. bit (not (eqb (get_or (set marks x 1) v 0) 1))) (λ v. bit (not (eqb (get_or marks v 0) 1))) each l there
  where
    each : (v : ℕ) → v < n → bit (not (eqb (get_or (set marks x 1) v 0) 1)) ≤ bit (not (eqb (get_or marks v 0) 1))
    each v _ = by_eq (get_or (set marks x 1) v 0) 1 (λ b. bit (not b) ≤ bit (not (eqb (get_or marks v 0) 1))) (λ _. omega arith)
        (λ p. by_eq (get_or marks v 0) 1 (λ b. 1 ≤ bit (not b)) (λ m. absurd (p (set_keeps marks x on v m))) (λ _. omega arith))

    there : bit (not (eqb (get_or (set marks x 1) x 0) 1)) < bit (not (eqb (get_or marks x 0) 1))
    there = by_eq (get_or (set marks x 1) x 0) 1 (λ b. bit (not b) < bit (not (eqb (get_or marks x 0) 1)))
        (λ _. by_eq (get_or marks x 0) 1 (λ b. 0 < bit (not b)) (λ m. absurd (ne m)) (λ _. omega arith))
        (λ p. absurd (p (set_marked marks x on)))

-- where nothing is left to mark, the marks are those of the definition
marking_settled : (G : Graph) (L : List ℕ) (r : ℕ) (marks : List ℕ) → Marking G L r marks → Settled G L marks → marks ≡ marks_of G L r
marking_settled G L r marks m settled = ext_get_or 0 marks (marks_of G L r) (m.size ∙ sym (marks_size G L r))
    (λ i l. at i (omega (arith, m.size)))
  where
    mark : (v : ℕ) → v < G.nodes → get_or marks v 0 ≡ bit (is_reached G L r v)
    mark v l = by_fact (is_reached G L r v) (λ b. get_or marks v 0 ≡ bit b)
        (λ t. path_carries G L (Marked marks) settled (reached_path G L r (length L) v t) m.root)
        (λ n.
        let unreached : get_or marks v 0 ≢ 1 = λ q. not_both (is_reached G L r v) (path_reached G L r v (m.paths v l q)) n in
        omega (arith, m.bits v l, unreached))

    at : (i : ℕ) → i < G.nodes → get_or marks i 0 ≡ get_or (marks_of G L r) i 0
    at i l = mark i l ∙ sym (mark_at_lem G L r i l)

-- ---- a pass

pub passing_start : (G : Graph) (L before : List ℕ) → Passing G L [] before before false
passing_start G L before = record { carried = carried_none G L before; progress = (refl, λ e t _. absurd t) }

-- no more nodes are unmarked than before
progress_le : (G : Graph) (seen before after : List ℕ) (b : Bool) → Progress G seen before after b → unmarked G.nodes after ≤ unmarked G.nodes before
progress_le G seen before after true p = omega (arith, p)
progress_le G seen before after false p = omega (arith, ap (unmarked G.nodes) p.0)

-- an answer, or another one
or_true : (b : Bool) → (b || true) ≡ true
or_true true = refl
or_true false = refl

or_false : (b : Bool) → (b || false) ≡ b
or_false true = refl
or_false false = refl

pub or_taken : (b : Bool) {r marked : Bool} → r ≡ true → marked ≡ true → marked ≡ (b || r)
or_taken b e f = f ∙ sym (ap (λ (x : Bool). b || x) e ∙ or_true b)

pub or_left : (b : Bool) {r marked : Bool} → r ≡ false → marked ≡ b → marked ≡ (b || r)
or_left b e f = f ∙ sym (ap (λ (x : Bool). b || x) e ∙ or_false b)

-- an arc more, which leads from no marked node to one that is not marked
settled_more : (G : Graph) (L marks : List ℕ) (e : ℕ) → (Marked marks (G.start e) → Marked marks (G.end e)) → Settled G L marks
    → Settled G (L ++ (e ∷ [])) marks
settled_more G L marks e at_e settled d t = ⊎_elim (λ (i : T (listed d L)). settled d i)
    (λ (i : T (listed d (e ∷ []))). subst (λ (x : ℕ). Marked marks (G.start x) → Marked marks (G.end x)) (sym (listed_only d e i)) at_e)
    (listed_append d L (e ∷ []) t)

progress_more : (G : Graph) (seen before after : List ℕ) (b : Bool) (e : ℕ) → (Marked after (G.start e) → Marked after (G.end e))
    → Progress G seen before after b → Progress G (seen ++ (e ∷ [])) before after b
progress_more G seen before after true e at_e p = p
progress_more G seen before after false e at_e p = (p.0, settled_more G seen after e at_e p.1)

module _ (n : ℕ) (L starts ends : List ℕ) (within : Within n L starts ends) (e : ℕ) (t : T (listed e L)) where
  abbrev G : Graph
  G = link_graph n starts ends

  from_start : G.start e ≡ get_or starts e 0
  from_start = arc_start n L starts ends within e t

  to_end : G.end e ≡ get_or ends e 0
  to_end = arc_end n L starts ends within e t

  end_lt : G.end e < n
  end_lt = arc_to n L starts ends within e t

  -- an arc marked its end: the marks, with the end as the graph has it
  end_set : (marks : List ℕ) {after : List ℕ} → after ≡ set marks (get_or ends e 0) 1 → after ≡ set marks (G.end e) 1
  end_set marks q = q ∙ ap (λ (x : ℕ). set marks x 1) (sym to_end)

  -- the pass has gone over one arc more
  progress_arc : (seen before marks after : List ℕ) (b r : Bool) → length marks ≡ n → Progress G seen before marks b
      → ArcMarks (get_or starts e 0) (get_or ends e 0) marks after r → Progress G (seen ++ (e ∷ [])) before after (b || r)
  progress_arc seen before marks after b true size p (s, ne, q) =
      subst (Progress G (seen ++ (e ∷ [])) before after) (sym (or_true b)) (omega (arith, fewer, progress_le G seen before marks b p))
    where
      fewer : unmarked n after < unmarked n marks
      fewer = subst (λ (l : List ℕ). unmarked n l < unmarked n marks) (sym (end_set marks q))
          (unmarked_falls marks (G.end e) (omega (arith, end_lt, size)) n end_lt (λ m. ne (marked_at marks (sym to_end) m)))
  progress_arc seen before marks after b false size p (same, h) =
      subst (Progress G (seen ++ (e ∷ [])) before after) (sym (or_false b))
      (subst (λ (l : List ℕ). Progress G (seen ++ (e ∷ [])) before l b) (sym same)
      (progress_more G seen before marks b e (λ m. marked_at marks to_end (h (marked_at marks (sym from_start) m))) p))

  pub passing_arc : (f : ℕ → ℕ) (i : ℕ) (before marks after : List ℕ) (b r marked : Bool) → length before ≡ n → e ≡ f i
      → Passing G L (map f (numbers 0 i)) before marks b → ArcMarks (get_or starts e 0) (get_or ends e 0) marks after r → marked ≡ (b || r)
      → Passing G L (map f (numbers 0 (i + 1))) before after marked
  passing_arc f i before marks after b r marked size at pass given answer =
      subst (Passing G L (map f (numbers 0 (i + 1))) before after) (sym answer)
      (subst (λ (l : List ℕ). Passing G L l before after (b || r)) (sym more) (record {
        carried = carried_arc n L starts ends within e t before marks after r pass.carried given;
        progress = progress_arc (map f (numbers 0 i)) before marks after b r (pass.carried.size ∙ size) pass.progress given;
      }))
    where
      more : map f (numbers 0 (i + 1)) ≡ map f (numbers 0 i) ++ (e ∷ [])
      more = ap (λ (m : ℕ). map f (numbers 0 m)) (add-one i) ∙ values_more f i ∙ ap (λ (x : ℕ). map f (numbers 0 i) ++ (x ∷ [])) (sym at)

-- ---- pass after pass

module _ (L starts ends before marks after : List ℕ) (c : Carried (link_graph (length before) starts ends) L before marks) where
  -- the pass, of the graph with as many nodes as there were marks at first
  same_nodes : (b : Bool) → Passed (link_graph (length marks) starts ends) L marks after b → Passed (link_graph (length before) starts ends) L marks after b
  same_nodes b pass = subst (λ (n : ℕ). Passed (link_graph n starts ends) L marks after b) c.size pass

  pub pass_carries : (b : Bool) → Passed (link_graph (length marks) starts ends) L marks after b → Carried (link_graph (length before) starts ends) L before after
  pass_carries b pass =
      let p = same_nodes b pass in
      record { size = p.carried.size ∙ c.size; carries = λ r m. p.carried.carries r (c.carries r m) }

  -- a pass that marks a node leaves fewer unmarked
  pub pass_falls : (b : Bool) → b ≡ true → Passed (link_graph (length marks) starts ends) L marks after b
      → unmarked (length before) after < unmarked (length before) marks
  pass_falls b answer pass = subst (Progress (link_graph (length before) starts ends) L marks after) answer (same_nodes b pass).progress

  -- after one that marks none, the marks are those of the definition
  pub pass_completes : (b : Bool) → b ≡ false → Passed (link_graph (length marks) starts ends) L marks after b
      → Completed (link_graph (length before) starts ends) L before after
  pass_completes b answer pass r m =
      let (_, settled) = subst (Progress (link_graph (length before) starts ends) L marks after) answer (same_nodes b pass).progress in
      marking_settled (link_graph (length before) starts ends) L r after ((pass_carries b pass).carries r m) settled

-- from the root alone
module _ (marks none : List ℕ) (r : ℕ) (cleared : none ≡ replicate (length marks) 0) where
  pub root_size : length (set none r 1) ≡ length marks
  root_size = length-set none r 1 ∙ ap length cleared ∙ length-replicate (length marks) 0

  pub root_completes : (L starts ends mid after : List ℕ) → r < length marks → Carried (link_graph (length (set none r 1)) starts ends) L (set none r 1) mid
      → Completed (link_graph (length mid) starts ends) L mid after → after ≡ marks_of (link_graph (length marks) starts ends) L r
  root_completes L starts ends mid after on carried done =
      let G : Graph = link_graph (length marks) starts ends in
      let c = subst (λ (n : ℕ). Carried (link_graph n starts ends) L (set none r 1) mid) root_size carried in
      subst (λ (n : ℕ). Completed (link_graph n starts ends) L mid after) (carried.size ∙ root_size) done r
      (c.carries r (subst (λ (l : List ℕ). Marking G L r (set l r 1)) (sym cleared) (marking_start G L r on)))
