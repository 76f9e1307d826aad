-- Parents set arc by arc; and a set of terminals entered node by node on the way up from a seat: what is entered, and what is still above, stays the
-- same together.
-- Assumes nothing.
use Rattle.std.specs.Prelude.{ℕ, ◌+◌, ◌≤◌, ◌<◌, ◌≡◌, refl, ◌≢◌, Bool, true, false, ◌&&◌, ◌||◌, List, [], ◌∷◌, ◌++◌, T, eqb, length, get_or, set}
use Rattle.std.proofs.Common.{sym, ap, ap₂, ◌∙◌, subst, ⊎_elim, add-one, arith, length-set, get_or-set_same, get_or-set_other, eq-eqb, ne_eqb}
use Rattle.std.proofs.Math.Decide.{ℕ_discrete}
use Rattle.limits.specs.Limits.{max_nodes}
use Rattle.lists.specs.Numbers.{values_more, value_in}
use Rattle.lists.specs.Listed.{listed, listed_head, listed_left, listed_right, listed_append, listed_only}
use Rattle.subset.specs.Sets.{has, union}
use Rattle.subset.specs.laws.Terminals.{has_union}
use Rattle.planfile.specs.Format.{listed_arc, arcs_to}
use Rattle.marking.specs.Links.{Within}
use Rattle.serving.specs.Parents.{no_parent, NoParents, ArcBetween, Parents, Ways, EnteredBy}

-- ---- parents

module _ (start end : ℕ → ℕ) where
  -- with no arc no node has a parent
  pub parents_none : (parents : List ℕ) → NoParents parents → Parents start end [] parents
  parents_none parents none = record { none = λ v l q e t. absurd t; some = λ v l q. absurd (q (none v l)) }

  -- one arc more: its start is the parent of its end
  pub parents_more : (L parents : List ℕ) (e : ℕ) → Parents start end L parents → end e < length parents → start e ≢ no_parent
      → Parents start end (L ++ (e ∷ [])) (set parents (end e) (start e))
  parents_more L parents e P on named = record {
    none = λ v l q. none v (subst (λ (n : ℕ). v < n) (length-set parents (end e) (start e)) l) q (ℕ_discrete v (end e));
    some = λ v l q. some v (subst (λ (n : ℕ). v < n) (length-set parents (end e) (start e)) l) q (ℕ_discrete v (end e));
  }
    where
      after : List ℕ
      after = set parents (end e) (start e)

      here : (v : ℕ) → v ≡ end e → get_or after v 0 ≡ start e
      here v q = ap (λ (x : ℕ). get_or after x 0) q ∙ get_or-set_same parents (end e) (start e) 0 on

      none : (v : ℕ) → v < length parents → get_or after v 0 ≡ no_parent → Dec (v ≡ end e) → (d : ℕ) → T (listed d (L ++ (e ∷ []))) → end d ≢ v
      none v l q (yes at) d t = absurd (named (sym (here v at) ∙ q))
      none v l q (no other) d t = ⊎_elim
          (λ (s : T (listed d L)). P.none v l (sym (get_or-set_other parents (end e) v (start e) 0 other) ∙ q) d s)
          (λ (s : T (listed d (e ∷ []))). λ to. other (sym to ∙ ap end (listed_only d e s)))
          (listed_append d L (e ∷ []) t)

      some : (v : ℕ) → v < length parents → get_or after v 0 ≢ no_parent → Dec (v ≡ end e) → ArcBetween start end (L ++ (e ∷ [])) (get_or after v 0) v
      some v l q (yes at) =
          record { arc = e; is_listed = listed_right e L (e ∷ []) (listed_head e []); from = sym (here v at); to = sym at }
      some v l q (no other) =
          let same = get_or-set_other parents (end e) v (start e) 0 other in
          let a = P.some v l (λ p. q (same ∙ p)) in
          record { arc = a.arc; is_listed = listed_left a.arc L (e ∷ []) a.is_listed; from = a.from ∙ sym same; to = a.to }

-- the arcs of the first records of a file, one record more
pub parents_listed : (file starts ends : List ℕ) (count n i e : ℕ) → Within n (arcs_to file count) starts ends → n ≤ max_nodes → i < count
    → e ≡ listed_arc file i → (parents : List ℕ) → length parents ≡ n
    → Parents (λ d. get_or starts d 0) (λ d. get_or ends d 0) (arcs_to file i) parents
    → Parents (λ d. get_or starts d 0) (λ d. get_or ends d 0) (arcs_to file (i + 1)) (set parents (get_or ends e 0) (get_or starts e 0))
parents_listed file starts ends count n i e within few l q parents size P =
    let found : T (listed e (arcs_to file count)) = subst (λ (x : ℕ). T (listed x (arcs_to file count))) (sym q) (value_in (listed_arc file) count i l) in
    let more : arcs_to file i ++ (e ∷ []) ≡ arcs_to file (i + 1) =
    ap (λ (x : ℕ). arcs_to file i ++ (x ∷ [])) q ∙ sym (ap (arcs_to file) (add-one i) ∙ values_more (listed_arc file) i) in
    subst (λ (L : List ℕ). Parents (λ d. get_or starts d 0) (λ d. get_or ends d 0) L (set parents (get_or ends e 0) (get_or starts e 0))) more
    (parents_more (λ d. get_or starts d 0) (λ d. get_or ends d 0) (arcs_to file i) parents e P
    (omega (arith, within.end_lt e found)) (λ z. omega (arith, within.start_lt e found, z)))

-- ---- the way up

-- entered here, or still to be entered above: of a node, by whether it has the terminal, whether the terminal is entered, and whether it is above
joined_here : (h s b : Bool) → ((h || s) || (s && b)) ≡ (h || (s && true))
joined_here true s b = refl
joined_here false true b = refl
joined_here false false b = refl

module _ (parents : List ℕ) (ways : Ways parents) (seat terminals : ℕ) (before : List ℕ) where
  -- has node u terminal i, where `served` is entered and the nodes above v are still to be?
  abbrev will_have : List ℕ → (v u i : ℕ) → Bool
  will_have served v u i = has (get_or served u 0) i || (has terminals i && ways.is_above u v)

  -- a way up from the seat to node v, after so many steps
  pub record Upward (served : List ℕ) (v steps : ℕ) : Type 0 where
    pub left : (u : ℕ) → u < length before → (i : ℕ) → will_have served v u i ≡ will_have before seat u i
    pub depth : steps + ways.depth v ≤ ways.depth seat

  pub upward_start : Upward before seat 0
  upward_start = record { left = λ u l i. refl; depth = omega arith }

  module _ (served : List ℕ) (v : ℕ) (size : length served ≡ length before) (on : v < length parents) (fits : length parents ≤ length before) where
    -- node v has the terminals
    abbrev entered : List ℕ
    entered = set served v (union (get_or served v 0) terminals)

    at_node : (i : ℕ) → has (get_or entered v 0) i ≡ (has (get_or served v 0) i || has terminals i)
    at_node i =
        ap (λ (x : ℕ). has x i) (get_or-set_same served v (union (get_or served v 0) terminals) 0 (omega arith)) ∙ has_union (get_or served v 0) terminals i

    elsewhere : (u : ℕ) → u ≢ v → get_or entered u 0 ≡ get_or served u 0
    elsewhere u other = get_or-set_other served v u (union (get_or served v 0) terminals) 0 other

    -- the rest of the way, where the nodes above v are v itself and those that pass the test `rest`
    on_the_way : (rest : ℕ → Bool) → ((u : ℕ) → ways.is_above u v ≡ (eqb u v || rest u)) → (u i : ℕ)
        → (has (get_or entered u 0) i || (has terminals i && rest u)) ≡ will_have served v u i
    on_the_way rest above u i = go (ℕ_discrete u v)
      where
        go : Dec (u ≡ v) → (has (get_or entered u 0) i || (has terminals i && rest u)) ≡ will_have served v u i
        go (yes q) =
            ap (λ (b : Bool). b || (has terminals i && rest u)) (ap (λ (x : ℕ). has (get_or entered x 0) i) q ∙ at_node i)
            ∙ joined_here (has (get_or served v 0) i) (has terminals i) (rest u)
            ∙ ap₂ (λ (x : ℕ) (b : Bool). has (get_or served x 0) i || (has terminals i && b)) (sym q)
            (sym (above u ∙ ap (λ (b : Bool). b || rest u) (eq-eqb u v q)))
        go (no other) = ap₂ (λ (x : ℕ) (b : Bool). has x i || (has terminals i && b)) (elsewhere u other)
            (sym (above u ∙ ap (λ (b : Bool). b || rest u) (ne_eqb u v other)))

    -- one step up
    pub upward_next : {steps : ℕ} → Upward served v steps → get_or parents v 0 ≢ no_parent → Upward entered (get_or parents v 0) (steps + 1)
    upward_next {steps} way some =
        let (_, falls) = ways.falls v on some in
        record {
          left = λ u l i. on_the_way (λ x. ways.is_above x (get_or parents v 0)) (ways.up v on some) u i ∙ way.left u l i;
          depth = omega (arith, way.depth);
        }

    -- at the top nothing is left
    pub upward_top : {steps : ℕ} → Upward served v steps → get_or parents v 0 ≡ no_parent → EnteredBy parents ways seat terminals before entered
    upward_top way none = record {
      size = length-set served v (union (get_or served v 0) terminals) ∙ size;
      at = λ u l i.
          nothing_left (has (get_or entered u 0) i) (has terminals i)
          ∙ on_the_way (λ x. false) (λ x. ways.top v on none x ∙ no_more (eqb x v)) u i ∙ way.left u l i;
    }
      where
        nothing_left : (h s : Bool) → h ≡ (h || (s && false))
        nothing_left true s = refl
        nothing_left false true = refl
        nothing_left false false = refl

        no_more : (b : Bool) → b ≡ (b || false)
        no_more true = refl
        no_more false = refl

  -- a way up has fewer steps than there are nodes
  pub upward_ends : (served : List ℕ) (v steps : ℕ) → Upward served v steps → seat < length parents → length parents ≤ steps → ⊥
  upward_ends served v steps way on long = omega (arith, way.depth, ways.low seat on)
