-- The offer for a cell: the least that any landing, arc or split gives, or `top` where they give nothing. A number below `top` that is no
-- less than the offer has a support, and the offer is no more than what each landing, arc or split gives.
-- Assumes nothing.
use Rattle.std.specs.Prelude.{ℕ, ◌+◌, ◌-◌, ◌≤◌, ◌<◌, min, ◌≡◌, ◌≢◌, Bool, not, ◌&&◌, cond, T, eqb, ltb, leb}
use Rattle.std.proofs.Common.{ap, arith, eqb→eq, ltb→lt, lt→ltb, leb→le}
use Rattle.std.specs.Int.Bits.{bit_and}
use Rattle.std.proofs.Math.Dec.{eqb_refl, nleb→lt}
use Rattle.lists.specs.Tests.{by_fact, eq_fact, ne_fact, fact_ne, and_left, and_right, and_both, choice_passed, choice_first}
use Rattle.lists.specs.Least.{least_to, least_to_top, least_to_le, least_to_at}
use Rattle.subset.specs.Sets.{has, single, Part, is_part}
use Rattle.subset.specs.laws.Parts.{part_le, part_sum, rest_disjoint}
use Rattle.graph.specs.Graph.{Graph, Landing}
use Rattle.graph.specs.Layout.{lands_alone}
use Rattle.graph.specs.ClosedSupported.{Support, by_landing, by_arc, by_split}

-- ---- what a landing, an arc and a split give; `top` where they give nothing

-- arc e starts at v, and the cell of its end is finite
abbrev can_follow : Graph → (ℕ → ℕ → ℕ) → ℕ → ℕ → ℕ → ℕ → Bool
can_follow G c top v w e = eqb (G.start e) v && ltb (c (G.end e) w) top

-- the cell of v and y, and that of v and the rest of w, are finite
abbrev finite_parts : (ℕ → ℕ → ℕ) → ℕ → ℕ → ℕ → ℕ → Bool
finite_parts c top v w y = ltb (c v y) top && ltb (c v (w - y)) top

-- y is not empty and a part of w, and both cells are finite
abbrev can_split : (ℕ → ℕ → ℕ) → ℕ → ℕ → ℕ → ℕ → Bool
can_split c top v w y = not (eqb y 0) && (is_part y w && finite_parts c top v w y)

abbrev via_landing : Graph → ℕ → ℕ → ℕ → ℕ → ℕ
via_landing G top v w i = cond (lands_alone G v w i) (G.charge v) top

abbrev via_arc : Graph → (ℕ → ℕ → ℕ) → ℕ → ℕ → ℕ → ℕ → ℕ
via_arc G c top v w e = cond (can_follow G c top v w e) (G.weight e + G.charge v + c (G.end e) w) top

abbrev via_split : Graph → (ℕ → ℕ → ℕ) → ℕ → ℕ → ℕ → ℕ → ℕ
via_split G c top v w y = cond (can_split c top v w y) (c v y + c v (w - y) - G.charge v) top

-- the least that any landing gives, any arc, any split
abbrev by_landings : Graph → ℕ → ℕ → ℕ → ℕ
by_landings G top v w = least_to (via_landing G top v w) top G.terminals

abbrev by_arcs : Graph → (ℕ → ℕ → ℕ) → ℕ → ℕ → ℕ → ℕ
by_arcs G c top v w = least_to (via_arc G c top v w) top G.arcs

abbrev by_splits : Graph → (ℕ → ℕ → ℕ) → ℕ → ℕ → ℕ → ℕ
by_splits G c top v w = least_to (via_split G c top v w) top w

-- the least that any of them gives
abbrev pub offer : Graph → (ℕ → ℕ → ℕ) → ℕ → ℕ → ℕ → ℕ
offer G c top v w = min (by_landings G top v w) (min (by_arcs G c top v w) (by_splits G c top v w))

module _ (G : Graph) (c : ℕ → ℕ → ℕ) (top : ℕ) where
  -- a number below `top` that is no less than what some landing gives has a support; and so for an arc and a split
  landing_support : (v w x : ℕ) → by_landings G top v w ≤ x → x < top → Support G c top v w x
  landing_support v w x h l =
      let (i, li, q) = least_to_at (via_landing G top v w) top G.terminals (omega arith) in
      let all : Bool = eqb w (single i) in
      let landing : Bool = has (G.landings v) i in
      let (t, r) = choice_passed (all && landing) (G.charge v) top (omega arith) in
      by_landing i li (eqb→eq w (single i) (and_left all landing t)) (and_right all landing t) (omega arith)

  arc_support : (v w x : ℕ) → by_arcs G c top v w ≤ x → x < top → Support G c top v w x
  arc_support v w x h l =
      let (e, le, q) = least_to_at (via_arc G c top v w) top G.arcs (omega arith) in
      let starts : Bool = eqb (G.start e) v in
      let finite : Bool = ltb (c (G.end e) w) top in
      let (t, r) = choice_passed (starts && finite) (G.weight e + G.charge v + c (G.end e) w) top (omega arith) in
      by_arc e le (eqb→eq (G.start e) v (and_left starts finite t)) (ltb→lt (c (G.end e) w) top (and_right starts finite t)) (omega arith)

  split_support : (v w x : ℕ) → by_splits G c top v w ≤ x → x < top → Support G c top v w x
  split_support v w x h l =
      let (y, ly, q) = least_to_at (via_split G c top v w) top w (omega arith) in
      let filled : Bool = not (eqb y 0) in
      let within : Bool = is_part y w in
      let finite : Bool = ltb (c v y) top in
      let finite_rest : Bool = ltb (c v (w - y)) top in
      let (t, r) = choice_passed (filled && (within && (finite && finite_rest))) (c v y + c v (w - y) - G.charge v) top (omega arith) in
      let after_Filled = and_right filled (within && (finite && finite_rest)) t in
      let both_finite_lem = and_right within (finite && finite_rest) after_Filled in
      let part : Part y w = eqb→eq (bit_and y w) y (and_left within (finite && finite_rest) after_Filled) in
      let le = part_le y w part in
      by_split y (w - y) (fact_ne y 0 (and_left filled (within && (finite && finite_rest)) t)) (omega arith) (rest_disjoint w y part) (omega arith)
      (ltb→lt (c v y) top (and_left finite finite_rest both_finite_lem)) (ltb→lt (c v (w - y)) top (and_right finite finite_rest both_finite_lem)) (omega arith)

  -- so has a number below `top` that is no less than the offer
  pub offer_support : (v w x : ℕ) → offer G c top v w ≤ x → x < top → Support G c top v w x
  offer_support v w x h l =
      let landings : ℕ = by_landings G top v w in
      let arcs : ℕ = by_arcs G c top v w in
      by_fact (leb landings x) (λ _. Support G c top v w x)
      (λ t. landing_support v w x (leb→le landings x t) l)
      (λ a. by_fact (leb arcs x) (λ _. Support G c top v w x)
      (λ t. arc_support v w x (leb→le arcs x t) l)
      (λ b. split_support v w x (omega (arith, nleb→lt landings x a, nleb→lt arcs x b)) l))

  -- the offer is no more than what each gives
  pub offer_landing : (v i : ℕ) → i < G.terminals → Landing G i v → offer G c top v (single i) ≤ G.charge v
  offer_landing v i l t =
      let passes : T (lands_alone G v (single i) i) = and_both (eqb (single i) (single i)) (has (G.landings v) i) (eqb_refl (single i)) t in
      omega (
        arith,
        least_to_le (via_landing G top v (single i)) top G.terminals i l,
        choice_first (lands_alone G v (single i) i) (G.charge v) top passes,
      )

  pub offer_arc : (e w : ℕ) → e < G.arcs → c (G.end e) w < top → offer G c top (G.start e) w ≤ G.weight e + G.charge (G.start e) + c (G.end e) w
  offer_arc e w l f =
      let v : ℕ = G.start e in
      let passes : T (can_follow G c top v w e) = and_both (eqb v v) (ltb (c (G.end e) w) top) (eqb_refl v) (lt→ltb (c (G.end e) w) top f) in
      omega (
        arith,
        least_to_le (via_arc G c top v w) top G.arcs e l,
        choice_first (can_follow G c top v w e) (G.weight e + G.charge v + c (G.end e) w) top passes,
      )

  pub offer_split : (v y z : ℕ) → y ≢ 0 → z ≢ 0 → bit_and y z ≡ 0 → c v y < top → c v z < top → offer G c top v (y + z) ≤ c v y + c v z - G.charge v
  offer_split v y z ny nz d fy fz =
      let w : ℕ = y + z in
      let rest : c v (w - y) ≡ c v z = ap (c v) (let e : w - y ≡ z = omega arith in e) in
      let finite : T (finite_parts c top v w y) =
      and_both (ltb (c v y) top) (ltb (c v (w - y)) top) (lt→ltb (c v y) top fy) (lt→ltb (c v (w - y)) top (omega arith)) in
      let passes : T (can_split c top v w y) =
      and_both (not (eqb y 0)) (is_part y w && finite_parts c top v w y) (ne_fact ny)
      (and_both (is_part y w) (finite_parts c top v w y) (eq_fact (part_sum y z d)) finite) in
      omega (
        arith,
        least_to_le (via_split G c top v w) top w y (omega arith),
        choice_first (can_split c top v w y) (c v y + c v (w - y) - G.charge v) top passes,
      )

  -- and no more than `top`
  pub offer_top : (v w : ℕ) → offer G c top v w ≤ top
  offer_top v w = omega (arith, least_to_top (via_landing G top v w) top G.terminals)
