-- Document 01's rule for laying out a plan, of any cell function: what the tests of the layout say, that more steps than the layout is given
-- change nothing, and the rule itself, in which no number of steps occurs.
-- Assumes nothing.
use Rattle.std.specs.Prelude.{ℕ, zero, suc, ◌+◌, ◌-◌, ◌<◌, ◌≡◌, refl, ◌≢◌, ◌⊎◌, Bool, true, false, not, ◌&&◌, List, [], ◌∷◌, ◌++◌, T, eqb, ltb}
use Rattle.std.proofs.Common.{ap, ap₂, inl, inr, arith, eqb→eq, ltb→lt, lt→ltb}
use Rattle.std.proofs.Math.Option.{Option, none, some}
use Rattle.lists.specs.Tests.{fact_true, not_fact_false, eq_fact, ne_fact, fact_ne, and_left, and_right, and_both, or_cases, or_left, or_right}
use Rattle.lists.specs.Find.{any_to, any_at, any_of_lem, first}
use Rattle.lists.proofs.First.{first_says}
use Rattle.subset.specs.Sets.{single, has, Part, is_part}
use Rattle.graph.specs.Graph.{Graph, Sound, Landing}
use Rattle.graph.specs.Layout.{lands_alone, is_done, fits, splits, step, follow_in, layout_in, layout}

-- ---- what the tests say

-- an arc fits exactly where it starts at v, and its weight, the charge and the finite cell of its end make the cell
pub fits_facts : (G : Graph) (c : ℕ → ℕ → ℕ) (top v w e : ℕ) → T (fits G c top v w e)
    → (G.start e ≡ v) × ((c (G.end e) w < top) × (G.weight e + G.charge v + c (G.end e) w ≡ c v w))
fits_facts G c top v w e t =
    let starts : Bool = eqb (G.start e) v in
    let finite : Bool = ltb (c (G.end e) w) top in
    let makes : Bool = eqb (G.weight e + G.charge v + c (G.end e) w) (c v w) in
    let later = and_right starts (finite && makes) t in (
      eqb→eq (G.start e) v (and_left starts (finite && makes) t),
      (ltb→lt (c (G.end e) w) top (and_left finite makes later), eqb→eq (G.weight e + G.charge v + c (G.end e) w) (c v w) (and_right finite makes later)),
    )

pub facts_fit : (G : Graph) (c : ℕ → ℕ → ℕ) (top v w e : ℕ)
    → (G.start e ≡ v) × ((c (G.end e) w < top) × (G.weight e + G.charge v + c (G.end e) w ≡ c v w)) → T (fits G c top v w e)
facts_fit G c top v w e (starts, (finite, makes)) =
    and_both (eqb (G.start e) v) (ltb (c (G.end e) w) top && eqb (G.weight e + G.charge v + c (G.end e) w) (c v w)) (eq_fact starts)
    (and_both (ltb (c (G.end e) w) top) (eqb (G.weight e + G.charge v + c (G.end e) w) (c v w)) (lt→ltb (c (G.end e) w) top finite) (eq_fact makes))

-- a set y splits w exactly where it is a part of w that is not empty, and its cell and that of the rest make the cell
pub splits_facts : (G : Graph) (c : ℕ → ℕ → ℕ) (v w y : ℕ) → T (splits G c v w y) → (y ≢ 0) × (Part y w × (c v y + c v (w - y) ≡ c v w + G.charge v))
splits_facts G c v w y t =
    let filled : Bool = not (eqb y 0) in
    let makes : Bool = eqb (c v y + c v (w - y)) (c v w + G.charge v) in
    let later = and_right filled (is_part y w && makes) t in (
      fact_ne y 0 (and_left filled (is_part y w && makes) t),
      (eqb→eq _ y (and_left (is_part y w) makes later), eqb→eq (c v y + c v (w - y)) (c v w + G.charge v) (and_right (is_part y w) makes later)),
    )

pub facts_split : (G : Graph) (c : ℕ → ℕ → ℕ) (v w y : ℕ) → (y ≢ 0) × (Part y w × (c v y + c v (w - y) ≡ c v w + G.charge v)) → T (splits G c v w y)
facts_split G c v w y (filled, (part, makes)) =
    let sums : Bool = eqb (c v y + c v (w - y)) (c v w + G.charge v) in
    and_both (not (eqb y 0)) (is_part y w && sums) (ne_fact filled) (and_both (is_part y w) sums (eq_fact part) (eq_fact makes))

-- nothing is added exactly where w is empty, or some terminal is all of w and has a landing at v
pub done_facts : (G : Graph) (v w : ℕ) → T (is_done G v w) → (w ≡ 0) ⊎ ((i : ℕ) × (i < G.terminals) × (w ≡ single i) × Landing G i v)
done_facts G v w t = go (or_cases (eqb w 0) (any_to (lands_alone G v w) G.terminals) t)
  where
    go : T (eqb w 0) ⊎ T (any_to (lands_alone G v w) G.terminals) → (w ≡ 0) ⊎ ((i : ℕ) × (i < G.terminals) × (w ≡ single i) × Landing G i v)
    go (inl s) = inl (eqb→eq w 0 s)
    go (inr s) =
        let (i, l, u) = any_at (lands_alone G v w) G.terminals s in
        inr (i, l, eqb→eq w (single i) (and_left (eqb w (single i)) (has (G.landings v) i) u), and_right (eqb w (single i)) (has (G.landings v) i) u)

pub facts_done : (G : Graph) (v w : ℕ) → (w ≡ 0) ⊎ ((i : ℕ) × (i < G.terminals) × (w ≡ single i) × Landing G i v) → T (is_done G v w)
facts_done G v w (inl q) = or_left (eqb w 0) (any_to (lands_alone G v w) G.terminals) (eq_fact q)
facts_done G v w (inr (i, l, q, t)) =
    or_right (eqb w 0) (any_to (lands_alone G v w) G.terminals)
    (any_of_lem (lands_alone G v w) G.terminals i l (and_both (eqb w (single i)) (has (G.landings v) i) (eq_fact q) t))

-- ---- one step

-- two steps by the same tests and searches are equal where they do the same with what is found
pub step_same : (done : Bool) (arc part : Option ℕ) (f g s t : ℕ → List ℕ)
    → ((e : ℕ) → arc ≡ some e → f e ≡ g e) → ((y : ℕ) → part ≡ some y → s y ≡ t y) → step done arc part f s ≡ step done arc part g t
step_same true arc part f g s t by_arc by_part = refl
step_same false (some e) part f g s t by_arc by_part = by_arc e refl
step_same false none (some y) f g s t by_arc by_part = by_part y refl
step_same false none none f g s t by_arc by_part = refl

module _ (G : Graph) (sound : Sound G) (c : ℕ → ℕ → ℕ) (top : ℕ) where
  -- the cell falls with the arc that is followed
  pub arc_falls : (v w e : ℕ) → first (fits G c top v w) G.arcs ≡ some e → c (G.end e) w < c v w
  arc_falls v w e q =
      let (l, t, _) = first_says (fits G c top v w) G.arcs (some e) q in
      let (_, (_, makes)) = fits_facts G c top v w e t in
      omega (arith, sound.weight_pos e l)

  -- the part by which a set is split, and the rest, are smaller numbers than the set
  part_smaller : (v w y : ℕ) → first (splits G c v w) w ≡ some y → (y < w) × (w - y < w)
  part_smaller v w y q =
      let (l, t, _) = first_says (splits G c v w) w (some y) q in
      let (filled, _) = splits_facts G c v w y t in
      (l, omega arith)

  -- ---- more steps change nothing

  -- following with enough turns, where the parts are laid out alike
  follow_same : (a b : ℕ → ℕ → List ℕ) (w : ℕ) → ((v y : ℕ) → y < w → a v y ≡ b v y)
      → (m n v : ℕ) → c v w < m → c v w < n → follow_in m G c top a v w ≡ follow_in n G c top b v w
  follow_same a b w same zero n v l k = absurd (omega arith)
  follow_same a b w same (suc m) zero v l k = absurd (omega arith)
  follow_same a b w same (suc m) (suc n) v l k = step_same (is_done G v w) (first (fits G c top v w) G.arcs) (first (splits G c v w) w)
      (λ e. e ∷ follow_in m G c top a (G.end e) w) (λ e. e ∷ follow_in n G c top b (G.end e) w) (λ y. a v y ++ a v (w - y)) (λ y. b v y ++ b v (w - y))
      (λ e q. let falls = arc_falls v w e q in ap (λ (l : List ℕ). e ∷ l) (follow_same a b w same m n (G.end e) (omega arith) (omega arith)))
      (λ y q. let (ly, lz) = part_smaller v w y q in ap₂ ◌++◌ (same v y ly) (same v (w - y) lz))

  -- no more arcs in a row are followed than the cell says
  pub follow_enough : (lay : ℕ → ℕ → List ℕ) (m v w : ℕ) → c v w < m → follow_in m G c top lay v w ≡ follow_in (suc (c v w)) G c top lay v w
  follow_enough lay m v w l = follow_same lay lay w (λ u y _. refl) m (suc (c v w)) v l (omega arith)

  -- splitting with enough turns
  layout_same : (m n v w : ℕ) → w < m → w < n → layout_in m G c top v w ≡ layout_in n G c top v w
  layout_same zero n v w l k = absurd (omega arith)
  layout_same (suc m) zero v w l k = absurd (omega arith)
  layout_same (suc m) (suc n) v w l k =
      follow_same (layout_in m G c top) (layout_in n G c top) w (λ u y h. layout_same m n u y (omega arith) (omega arith))
      (suc (c v w)) (suc (c v w)) v (omega arith) (omega arith)

  -- no more splits in a row are made than the set's number says
  pub layout_enough : (m v w : ℕ) → w < m → layout_in m G c top v w ≡ layout G c top v w
  layout_enough m v w l = layout_same m (suc w) v w l (omega arith)

  -- ---- the rule

  -- nothing is added where w is empty, or one terminal with a landing at v
  pub layout_nothing : (v w : ℕ) → T (is_done G v w) → layout G c top v w ≡ []
  layout_nothing v w t = rw (fact_true {b = is_done G v w} t) refl

  -- else by the lowest arc that fits
  pub layout_arc : (v w e : ℕ) → T (not (is_done G v w)) → first (fits G c top v w) G.arcs ≡ some e → layout G c top v w ≡ e ∷ layout G c top (G.end e) w
  layout_arc v w e n q =
      rw (not_fact_false {b = is_done G v w} n, q) (ap (λ (l : List ℕ). e ∷ l) (follow_enough (layout_in w G c top) (c v w) (G.end e) w (arc_falls v w e q)))

  -- else by the lowest part that splits w
  pub layout_split : (v w y : ℕ) → T (not (is_done G v w)) → first (fits G c top v w) G.arcs ≡ none → first (splits G c v w) w ≡ some y
      → layout G c top v w ≡ layout G c top v y ++ layout G c top v (w - y)
  layout_split v w y n q s =
      let (ly, lz) = part_smaller v w y s in
      rw (not_fact_false {b = is_done G v w} n, q, s) (ap₂ ◌++◌ (layout_enough w v y ly) (layout_enough w v (w - y) lz))
