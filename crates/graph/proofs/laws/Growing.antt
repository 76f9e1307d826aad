-- What growth does with a list of arcs: it needs no more turns than there are arcs; the arcs kept are a part of the list and a directed
-- subtree that holds what the list reaches from the root, and they cost no more than the list. A subtree is kept whole.
-- Assumes nothing.
use Rattle.std.specs.Prelude.{ℕ, zero, suc, ◌+◌, ◌≤◌, ◌<◌, ◌≡◌, refl, Bool, true, false, not, ◌&&◌, ◌||◌, List, [], ◌∷◌, length, T, eqb}
use Rattle.std.proofs.Common.{sym, ap, subst, ⊎_elim, arith}
use Rattle.std.proofs.Math.Option.{Option, none, some}
use Rattle.std.proofs.Math.Dec.{eqb_refl}
use Rattle.lists.specs.Tests.{by_fact, eq_fact, fact_true, true_fact, false_not_fact, and_left, and_right}
use Rattle.lists.specs.Count.{bit, bit_le, bit_passed, count}
use Rattle.lists.specs.Listed.{listed, listed_head, listed_same, listed_tail, listed_cases, listed_count, count_listed}
use Rattle.lists.specs.Sums.{sum_by, sum_lt, sum_at_most, sum_entry, count_sum, Same}
use Rattle.lists.specs.Remaining.{remaining, sum_remaining}
use Rattle.graph.specs.Graph.{Graph, Sound}
use Rattle.graph.specs.Paths.{DirectedPath}
use Rattle.graph.specs.Subtrees.{Subtree, held, total}
use Rattle.graph.specs.Growth.{extends, or_later, first_extending, kept_then, grow_in, grow, kept}
use Rattle.graph.proofs.laws.Reaching.{path_carries, path_then}
use Rattle.graph.proofs.laws.Holding.{EndsAt, held_after, held_cases, after_keeps, held_after_lem, after_held}
use Rattle.graph.proofs.laws.SubtreeParts.{cost, total_by_arc, start_reached, root_endings, node_endings, same_subtree}
use Rattle.graph.proofs.laws.GrownLists.{Grown, grown_distinct, grown_joined, root_reached, grown_subtree}

-- ---- one turn

-- what is found: no listed arc extends, or this one, which starts at a held node and ends at one that is not held
abbrev IsExtending : Graph → List ℕ → List ℕ → Option ℕ → Type 0
IsExtending G H L none = (e : ℕ) → T (listed e L) → T (not (extends G H e))
IsExtending G H L (some e) = T (listed e L) × T (listed (G.start e) H) × T (not (listed (G.end e) H))

first_extending_lem : (G : Graph) (H L : List ℕ) → IsExtending G H L (first_extending G H L)
first_extending_lem G H [] = λ e t. absurd t
first_extending_lem G H (e ∷ L) = go (extends G H e) refl (first_extending G H L) (first_extending_lem G H L)
  where
    go : (b : Bool) → extends G H e ≡ b → (o : Option ℕ) → IsExtending G H L o → IsExtending G H (e ∷ L) (or_later b e o)
    go true q o s =
        let starts : Bool = listed (G.start e) H in
        let leads_out : Bool = not (listed (G.end e) H) in
        (listed_head e L, and_left starts leads_out (true_fact q), and_right starts leads_out (true_fact q))
    go false q none s = λ d t. ⊎_elim (λ (x : d ≡ e). subst (λ (y : ℕ). T (not (extends G H y))) (sym x) (false_not_fact q))
        (λ (i : T (listed d L)). s d i) (listed_cases d e L t)
    go false q (some d) s = (listed_tail d e L s.0, s.1, s.2)

-- 1 where arc e ends at a node that is not held, else 0; and how many listed arcs do: no more than are listed, and fewer after each turn
abbrev unheld : Graph → List ℕ → ℕ → ℕ
unheld G H e = bit (not (listed (G.end e) H))

abbrev unheld_ends : Graph → List ℕ → List ℕ → ℕ
unheld_ends G H L = sum_by (unheld G H) L

unheld_length : (G : Graph) (H L : List ℕ) → unheld_ends G H L ≤ length L
unheld_length G H L =
    omega (arith, sum_at_most (unheld G H) 1 L (λ e _. bit_le (not (listed (G.end e) H))))

unheld_falls : (G : Graph) (H L : List ℕ) (e : ℕ) → IsExtending G H L (some e) → unheld_ends G (G.end e ∷ H) L < unheld_ends G H L
unheld_falls G H L e s =
    let x : ℕ = G.end e in
    let each : (d : ℕ) → unheld G (x ∷ H) d ≤ unheld G H d =
    λ d. by_fact (eqb (G.end d) x) (λ b. bit (not (b || listed (G.end d) H)) ≤ unheld G H d) (λ _. omega arith) (λ _. omega arith) in
    let before : unheld G H e ≡ 1 = bit_passed (not (listed x H)) s.2 in
    let after : unheld G (x ∷ H) e ≡ 0 = ap (λ (b : Bool). bit (not b)) (fact_true {b = listed x (x ∷ H)} (listed_head x H)) in
    sum_lt (unheld G (x ∷ H)) (unheld G H) L (λ d _. each d) e s.0 (omega arith)

-- where no such arc is left, none extends
none_found : (G : Graph) (H L : List ℕ) → unheld_ends G H L ≤ 0 → first_extending G H L ≡ none
none_found G H L l = go (first_extending G H L) (first_extending_lem G H L)
  where
    go : (o : Option ℕ) → IsExtending G H L o → o ≡ none
    go none s = refl
    go (some e) s = absurd (omega (arith, unheld_falls G H L e s))

-- ---- all turns

-- growing a list L from the held nodes H keeps K: arcs of the list, in a grown order; and no arc of the list extends what is held then
pub record Growth (G : Graph) (H L K : List ℕ) : Type 0 where
  pub grown : Grown G H K
  pub within : (e : ℕ) → T (listed e K) → T (listed e L)
  pub ended : (e : ℕ) → T (listed e L) → T (not (extends G (held_after G H K) e))

grow_growth : (G : Graph) (m : ℕ) (H L : List ℕ) → unheld_ends G H L ≤ m → Growth G H L (grow_in m G H L)
grow_growth G zero H L l =
    record { grown = tt; within = λ e t. absurd t; ended = subst (IsExtending G H L) (none_found G H L l) (first_extending_lem G H L) }
grow_growth G (suc m) H L l = go (first_extending G H L) (first_extending_lem G H L) (λ e h. grow_growth G m (G.end e ∷ H) L h)
  where
    go : (o : Option ℕ) → IsExtending G H L o
        → ((e : ℕ) → unheld_ends G (G.end e ∷ H) L ≤ m → Growth G (G.end e ∷ H) L (grow_in m G (G.end e ∷ H) L))
        → Growth G H L (kept_then o (λ e. grow_in m G (G.end e ∷ H) L))
    go none s rest = record { grown = tt; within = λ e t. absurd t; ended = s }
    go (some e) s rest =
        let K : List ℕ = grow_in m G (G.end e ∷ H) L in
        let g : Growth G (G.end e ∷ H) L K = rest e (omega (arith, unheld_falls G H L e s)) in
        record {
          grown = (s.1, s.2, g.grown);
          within = λ d t. ⊎_elim (λ (q : d ≡ e). subst (λ (x : ℕ). T (listed x L)) (sym q) s.0)
              (λ (i : T (listed d K)). g.within d i) (listed_cases d e K t);
          ended = g.ended;
        }

-- more turns than the list has arcs change nothing
pub grow_enough : (G : Graph) (m : ℕ) (H L : List ℕ) → length L ≤ m → grow_in m G H L ≡ grow G H L
grow_enough G m H L l = agree m (length L) H (omega (arith, unheld_length G H L)) (unheld_length G H L)
  where
    agree : (a b : ℕ) (H : List ℕ) → unheld_ends G H L ≤ a → unheld_ends G H L ≤ b → grow_in a G H L ≡ grow_in b G H L
    agree zero zero H la lb = refl
    agree zero (suc b) H la lb = sym (ap (λ (o : Option ℕ). kept_then o (λ e. grow_in b G (G.end e ∷ H) L)) (none_found G H L la))
    agree (suc a) zero H la lb = ap (λ (o : Option ℕ). kept_then o (λ e. grow_in a G (G.end e ∷ H) L)) (none_found G H L lb)
    agree (suc a) (suc b) H la lb = go (first_extending G H L) (first_extending_lem G H L) (λ e k h. agree a b (G.end e ∷ H) k h)
      where
        go : (o : Option ℕ) → IsExtending G H L o
            → ((e : ℕ) → unheld_ends G (G.end e ∷ H) L ≤ a → unheld_ends G (G.end e ∷ H) L ≤ b → grow_in a G (G.end e ∷ H) L ≡ grow_in b G (G.end e ∷ H) L)
            → kept_then o (λ e. grow_in a G (G.end e ∷ H) L) ≡ kept_then o (λ e. grow_in b G (G.end e ∷ H) L)
        go none s rest = refl
        go (some e) s rest =
            let fewer = unheld_falls G H L e s in
            ap (λ (K : List ℕ). e ∷ K) (rest e (omega arith) (omega arith))

-- the rule: nothing is kept where no arc extends; else the first that does is kept, and growth goes on
pub grow_rule : (G : Graph) (H L : List ℕ) → grow G H L ≡ kept_then (first_extending G H L) (λ e. grow G (G.end e ∷ H) L)
grow_rule G H L = sym (grow_enough G (suc (length L)) H L (omega arith))

-- ---- growth from a root

-- an arc that does not extend and starts at a held node ends at one
ends_held : (a b : Bool) → T a → T (not (a && not b)) → T b
ends_held true true s n = tt
ends_held true false s n = absurd n
ends_held false b s n = absurd s

-- what is left out: the list without the arcs that are kept, each taken out once
abbrev pub left_out : Graph → ℕ → List ℕ → List ℕ
left_out G r L = remaining L (kept G r L)

module _ (G : Graph) (r : ℕ) (L : List ℕ) where
  -- what growth keeps of the list
  pub growth : Growth G (r ∷ []) L (kept G r L)
  growth = grow_growth G (length L) (r ∷ []) L (unheld_length G (r ∷ []) L)

  -- the arcs kept are arcs of the list
  pub kept_listed : (e : ℕ) → T (listed e (kept G r L)) → T (listed e L)
  kept_listed = growth.within

  -- the arcs kept and left out make the list: each sum over it is that over both, and an arc is in it as often as in both together
  pub kept_parts : (f : ℕ → ℕ) → sum_by f L ≡ sum_by f (kept G r L) + sum_by f (left_out G r L)
  kept_parts f = sum_remaining f L (kept G r L) (grown_distinct G (r ∷ []) (kept G r L) growth.grown) kept_listed

  pub parts_count : (e : ℕ) → count e L ≡ count e (kept G r L) + count e (left_out G r L)
  parts_count e = omega (arith, count_sum e L, count_sum e (kept G r L), count_sum e (left_out G r L), kept_parts (λ d. bit (eqb e d)))

  -- so the arcs left out are arcs of the list
  left_listed : (e : ℕ) → T (listed e (left_out G r L)) → T (listed e L)
  left_listed e t = count_listed e L (omega (arith, listed_count e (left_out G r L) t, parts_count e))

  -- the arcs kept are a subtree
  pub kept_subtree : r < G.nodes → ((e : ℕ) → T (listed e L) → e < G.arcs) → Subtree G r (kept G r L)
  kept_subtree on arcs = grown_subtree G r (kept G r L) on growth.grown (λ e t. arcs e (kept_listed e t))

  -- the arcs kept hold exactly the nodes that the list reaches from the root
  pub reached_kept : {x : ℕ} → DirectedPath G L r x → T (listed x (held G r (kept G r L)))
  reached_kept {x} p = after_held G r (kept G r L) x (path_carries G L Held carry p (after_keeps G (kept G r L) (r ∷ []) r (listed_head r [])))
    where
      after : List ℕ
      after = held_after G (r ∷ []) (kept G r L)

      Held : ℕ → Type 0
      Held x = T (listed x after)

      carry : (e : ℕ) → T (listed e L) → Held (G.start e) → Held (G.end e)
      carry e t h = ends_held (listed (G.start e) after) (listed (G.end e) after) h (growth.ended e t)

  pub kept_reached : (x : ℕ) → T (listed x (held G r (kept G r L))) → DirectedPath G L r x
  kept_reached x t = ⊎_elim (λ (q : x ≡ r). root_reached G r L x (listed_same x r [] q))
      (λ (d : EndsAt G (kept G r L) x).
      let (e, i, q) = d in
      let to_start : DirectedPath G L r (G.start e) =
      grown_joined G r L (r ∷ []) (kept G r L) growth.grown (root_reached G r L) kept_listed e i in
      path_then G L e (kept_listed e i) to_start q)
      (held_cases G r (kept G r L) x t)

  -- the total of the arcs kept, with what the arcs left out add, is that of the list
  pub kept_total : total G r L ≡ total G r (kept G r L) + sum_by (cost G) (left_out G r L)
  kept_total = omega (arith, total_by_arc G r L, total_by_arc G r (kept G r L), kept_parts (cost G))

  -- where the arcs kept cost no less than the list, nothing is left out
  pub kept_all : Sound G → ((e : ℕ) → T (listed e L) → e < G.arcs) → total G r L ≤ total G r (kept G r L) → left_out G r L ≡ []
  kept_all sound arcs le = go (left_out G r L) refl
    where
      go : (M : List ℕ) → left_out G r L ≡ M → M ≡ []
      go [] q = refl
      go (e ∷ M) q =
          let out : T (listed e (left_out G r L)) = subst (λ (N : List ℕ). T (listed e N)) (sym q) (listed_head e M) in
          absurd (omega (arith, kept_total, sum_entry (cost G) e (left_out G r L) out, sound.weight_pos e (arcs e (left_listed e out))))

  -- of a subtree nothing is left out: the arc would end at the root, or at a node at which a kept arc ends
  pub subtree_kept : Subtree G r L → left_out G r L ≡ []
  subtree_kept t = go (left_out G r L) refl
    where
      K : List ℕ
      K = kept G r L

      -- an arc that is left out and one that is kept do not end at one node
      twice : (e d : ℕ) → T (listed e (left_out G r L)) → T (listed d K) → G.end d ≡ G.end e → ⊥
      twice e d i j q =
          let x : ℕ = G.end e in
          let f : ℕ → ℕ = λ a. bit (eqb x (G.end a)) in
          let at_e : f e ≡ 1 = bit_passed (eqb x (G.end e)) (eqb_refl x) in
          let at_d : f d ≡ 1 = bit_passed (eqb x (G.end d)) (eq_fact (sym q)) in
          omega (arith, node_endings t x, kept_parts f, sum_entry f e (left_out G r L) i, sum_entry f d K j)

      -- and an arc that is left out does not end at the root
      at_root : (e : ℕ) → T (listed e (left_out G r L)) → G.end e ≡ r → ⊥
      at_root e i q =
          let f : ℕ → ℕ = λ a. bit (eqb r (G.end a)) in
          let at_e : f e ≡ 1 = bit_passed (eqb r (G.end e)) (eq_fact (sym q)) in
          omega (arith, root_endings t, kept_parts f, sum_entry f e (left_out G r L) i)

      go : (M : List ℕ) → left_out G r L ≡ M → M ≡ []
      go [] q = refl
      go (e ∷ M) q =
          let out : T (listed e (left_out G r L)) = subst (λ (N : List ℕ). T (listed e N)) (sym q) (listed_head e M) in
          let after : List ℕ = held_after G (r ∷ []) K in
          let from : T (listed (G.start e) after) = held_after_lem G r K (G.start e) (reached_kept (start_reached t e (left_listed e out))) in
          let to : T (listed (G.end e) after) = ends_held (listed (G.start e) after) (listed (G.end e) after) from (growth.ended e (left_listed e out)) in
          absurd (⊎_elim (λ (p : G.end e ≡ r). at_root e out p)
          (λ (d : EndsAt G K (G.end e)). twice e d.0 out d.1 d.2)
          (held_cases G r K (G.end e) (after_held G r K (G.end e) to)))

  -- where nothing is left out, the arcs kept are those of the list in another order
  pub kept_same : left_out G r L ≡ [] → Same L (kept G r L)
  kept_same q f = omega (arith, kept_parts f, ap (sum_by f) q)

  -- and the list is a subtree
  pub whole_subtree : r < G.nodes → ((e : ℕ) → T (listed e L) → e < G.arcs) → left_out G r L ≡ [] → Subtree G r L
  whole_subtree on arcs q = same_subtree G r (kept G r L) L (λ f. sym (kept_same q f)) (kept_subtree on arcs)

  -- nothing is left out where each arc is kept as often as it is listed
  pub counts_whole : ((e : ℕ) → count e (kept G r L) ≡ count e L) → left_out G r L ≡ []
  counts_whole same = no_entry (left_out G r L) (λ e. omega (arith, same e, parts_count e))
    where
      no_entry : (M : List ℕ) → ((e : ℕ) → count e M ≡ 0) → M ≡ []
      no_entry [] h = refl
      no_entry (e ∷ M) h = absurd (omega (arith, h e, listed_count e (e ∷ M) (listed_head e M)))
