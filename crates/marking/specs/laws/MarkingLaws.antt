-- A marking underway: the root alone is one, a listed arc whose start is marked carries it on, and so does one step after another.
-- Assumes nothing.
use Rattle.std.specs.Prelude.{ℕ, ◌≤◌, ◌<◌, ◌≡◌, refl, Bool, true, false, List, [], length, get_or, set, replicate, T}
use Rattle.std.proofs.Common.{sym, ap, ◌∙◌, subst, arith, length-set, get_or-set_same, get_or-set_other}
use Rattle.std.proofs.Math.Decide.{ℕ_discrete}
use Rattle.std.proofs.lemmas.List.{length-replicate, get_or-replicate}
use Rattle.lists.specs.Listed.{listed}
use Rattle.lent_tables.specs.SheetTables.{arcs_alone}
use Rattle.graph.specs.Graph.{Graph}
use Rattle.graph.specs.HeldGraph.{start_in, end_in}
use Rattle.graph.specs.Paths.{DirectedPath}
use Rattle.graph.proofs.laws.Reaching.{path_same, path_then}
use Rattle.marking.specs.Links.{link_graph, Within}
use Rattle.marking.specs.Marking.{Marked, Marking, Carried, ArcMarks}

-- ---- one mark more

-- a node that is named otherwise
pub marked_at : (marks : List ℕ) {v u : ℕ} → v ≡ u → Marked marks u → Marked marks v
marked_at marks same m = ap (λ (x : ℕ). get_or marks x 0) same ∙ m

module _ (marks : List ℕ) (x : ℕ) (on : x < length marks) where
  -- x is marked, and a node that was marked before is marked
  pub set_marked : Marked (set marks x 1) x
  set_marked = get_or-set_same marks x 1 0 on

  pub set_keeps : (v : ℕ) → Marked marks v → Marked (set marks x 1) v
  set_keeps v m = go (ℕ_discrete v x)
    where
      go : Dec (v ≡ x) → Marked (set marks x 1) v
      go (yes e) = subst (Marked (set marks x 1)) (sym e) set_marked
      go (no ne) = get_or-set_other marks x v 1 0 ne ∙ m

-- ---- a marking

-- the root alone
pub marking_start : (G : Graph) (L : List ℕ) (r : ℕ) → r < G.nodes → Marking G L r (set (replicate G.nodes 0) r 1)
marking_start G L r on = record {
  size = length-set none r 1 ∙ length-replicate G.nodes 0;
  bits = λ v l. let (le, _) = at v l (ℕ_discrete v r) in le;
  root = set_marked none r in_marks;
  paths = λ v l m. let (_, path) = at v l (ℕ_discrete v r) in path m;
}
  where
    none : List ℕ
    none = replicate G.nodes 0

    in_marks : r < length none
    in_marks = omega (arith, length-replicate {A = ℕ} G.nodes 0)

    at : (v : ℕ) → v < G.nodes → Dec (v ≡ r) → (get_or (set none r 1) v 0 ≤ 1) × (Marked (set none r 1) v → DirectedPath G L r v)
    at v l (yes e) = (
      (let m : Marked (set none r 1) v = subst (Marked (set none r 1)) (sym e) (set_marked none r in_marks) in omega (arith, m)),
      λ _. path_same G L (sym e),
    )
    at v l (no ne) =
        let zero_there : get_or (set none r 1) v 0 ≡ 0 = get_or-set_other none r v 1 0 ne ∙ get_or-replicate G.nodes v 0 0 l in
        (omega (arith, zero_there), λ m. absurd (omega (arith, zero_there, m)))

module _ (G : Graph) (L : List ℕ) (r : ℕ) (marks : List ℕ) (m : Marking G L r marks) where
  -- a listed arc whose start is marked marks its end
  marking_arc : (e : ℕ) → T (listed e L) → G.start e < G.nodes → G.end e < G.nodes → Marked marks (G.start e)
      → Marking G L r (set marks (G.end e) 1)
  marking_arc e t from to s = record {
    size = length-set marks (G.end e) 1 ∙ m.size;
    bits = λ v l. at_bits v l (ℕ_discrete v (G.end e));
    root = set_keeps marks (G.end e) in_marks r m.root;
    paths = λ v l q. at_paths v l q (ℕ_discrete v (G.end e));
  }
    where
      in_marks : G.end e < length marks
      in_marks = omega (arith, m.size)

      at_bits : (v : ℕ) → v < G.nodes → Dec (v ≡ G.end e) → get_or (set marks (G.end e) 1) v 0 ≤ 1
      at_bits v l (yes q) =
          let one : Marked (set marks (G.end e) 1) v = subst (Marked (set marks (G.end e) 1)) (sym q) (set_marked marks (G.end e) in_marks) in
          omega (arith, one)
      at_bits v l (no ne) = omega (arith, get_or-set_other marks (G.end e) v 1 0 ne, m.bits v l)

      at_paths : (v : ℕ) → v < G.nodes → Marked (set marks (G.end e) 1) v → Dec (v ≡ G.end e) → DirectedPath G L r v
      at_paths v l one (yes q) = path_then G L e t (m.paths (G.start e) from s) (sym q)
      at_paths v l one (no ne) = m.paths v l (sym (get_or-set_other marks (G.end e) v 1 0 ne) ∙ one)

-- ---- markings of any root

pub carried_none : (G : Graph) (L before : List ℕ) → Carried G L before before
carried_none G L before = record { size = refl; carries = λ r m. m }

-- one marking after another
pub carried_then : (L starts ends before marks after : List ℕ) → Carried (link_graph (length before) starts ends) L before marks
    → Carried (link_graph (length marks) starts ends) L marks after → Carried (link_graph (length before) starts ends) L before after
carried_then L starts ends before marks after c d =
    let d' = subst (λ (n : ℕ). Carried (link_graph n starts ends) L marks after) c.size d in
    record { size = d'.size ∙ c.size; carries = λ r m. d'.carries r (c.carries r m) }

-- ---- a listed arc

-- as many nodes, named otherwise
pub same_within : (m n : ℕ) (L starts ends : List ℕ) → m ≡ n → Within n L starts ends → Within m L starts ends
same_within m n L starts ends e within = subst (λ (x : ℕ). Within x L starts ends) (sym e) within

module _ (n : ℕ) (L starts ends : List ℕ) (within : Within n L starts ends) (e : ℕ) (t : T (listed e L)) where
  abbrev G : Graph
  G = link_graph n starts ends

  -- the start and the end of a listed arc, as code reads them
  pub arc_start : G.start e ≡ get_or starts e 0
  arc_start = start_in n 0 (length starts) (arcs_alone starts ends []) e (within.in_starts e t)

  pub arc_end : G.end e ≡ get_or ends e 0
  arc_end = end_in n 0 (length starts) (arcs_alone starts ends []) e (within.in_starts e t)

  pub arc_to : G.end e < n
  arc_to = omega (arith, arc_end, within.end_lt e t)

  -- what a listed arc gives carries every marking
  pub carried_arc : (before marks after : List ℕ) (r : Bool) → Carried G L before marks → ArcMarks (get_or starts e 0) (get_or ends e 0) marks after r
      → Carried G L before after
  carried_arc before marks after true c (s, _, q) =
      subst (Carried G L before) (sym (q ∙ ap (λ (x : ℕ). set marks x 1) (sym arc_end))) (record {
        size = length-set marks (G.end e) 1 ∙ c.size;
        carries = λ r m. marking_arc G L r marks (c.carries r m) e t (omega (arith, arc_start, within.start_lt e t)) arc_to (marked_at marks arc_start s);
      })
  carried_arc before marks after false c (same, _) = subst (Carried G L before) (sym same) c
