-- A table filled set by set: when no landing and no split gives less than a cell of the set, before the arcs are tried; when the set is
-- closed; and that it stays so where the cells of the set and of its parts stay.
-- Assumes nothing.
use Rattle.std.specs.Prelude.{ℕ, ◌+◌, ◌-◌, ◌≤◌, ◌<◌, ◌≡◌, ◌≢◌, ltb}
use Rattle.std.proofs.Common.{sym, ap, ◌∙◌, subst, arith, ltb→lt, nltb→le}
use Rattle.std.proofs.Math.Decide.{dec_lt}
use Rattle.std.specs.Int.Bits.{bit_and, and_self}
use Rattle.std.proofs.lemmas.Nat.{and_comm}
use Rattle.lists.specs.Tests.{by_fact}
use Rattle.subset.specs.Sets.{single, Part}
use Rattle.subset.specs.laws.Parts.{part_sum, part_sum_right}
use Rattle.graph.specs.Graph.{Graph, Sound, Landing}
use Rattle.graph.specs.ClosedSupported.{StartedSet, ClosedSet}

-- the two sets of a split are parts of the set
pub part_left : (y z w : ℕ) → bit_and y z ≡ 0 → y + z ≡ w → Part y w
part_left y z w d q = subst (Part y) q (part_sum y z d)

pub part_right : (y z w : ℕ) → bit_and y z ≡ 0 → y + z ≡ w → Part z w
part_right y z w d q = subst (Part z) q (part_sum_right y z d)

-- ---- before the arcs

-- Each landing is tried, and each split into two parts with finite cells, once: by its smaller number. A cell of a part is no less than the
-- charge of its node, so a split with a part whose cell is not finite gives no less than `top`.
pub splits_start : (G : Graph) (c : ℕ → ℕ → ℕ) (top w : ℕ)
    → ((v i : ℕ) → v < G.nodes → i < G.terminals → w ≡ single i → Landing G i v → c v w ≤ G.charge v)
    → ((v y : ℕ) → v < G.nodes → Part y w → y ≢ 0 → y < w - y → c v y < top → c v (w - y) < top → c v w + G.charge v ≤ c v y + c v (w - y))
    → ((v : ℕ) → v < G.nodes → c v w ≤ top)
    → ((v y : ℕ) → v < G.nodes → y ≢ 0 → Part y w → G.charge v ≤ c v y)
    → StartedSet G c w
splits_start G c top w landings splits capped charges = record { landing = landings; split = λ v y z on ny nz d q. either v y z on ny nz d q (dec_lt y z) }
  where
    -- by the part y
    by_part : (v y z : ℕ) → v < G.nodes → y ≢ 0 → z ≢ 0 → bit_and y z ≡ 0 → y + z ≡ w → y < z → c v w + G.charge v ≤ c v y + c v z
    by_part v y z on ny nz d q less =
        let rest : w - y ≡ z = omega arith in
        let same = ap (c v) rest in
        let up = capped v on in
        let cy = charges v y on ny (part_left y z w d q) in
        let cz = charges v z on nz (part_right y z w d q) in
        by_fact (ltb (c v y) top) (λ _. c v w + G.charge v ≤ c v y + c v z)
        (λ t. by_fact (ltb (c v z) top) (λ _. c v w + G.charge v ≤ c v y + c v z)
        (λ s. omega (arith, splits v y on (part_left y z w d q) ny (omega arith) (ltb→lt (c v y) top t) (omega (arith, ltb→lt (c v z) top s))))
        (λ s. omega (arith, nltb→le (c v z) top s)))
        (λ t. omega (arith, nltb→le (c v y) top t))

    either : (v y z : ℕ) → v < G.nodes → y ≢ 0 → z ≢ 0 → bit_and y z ≡ 0 → y + z ≡ w → Dec (y < z) → c v w + G.charge v ≤ c v y + c v z
    either v y z on ny nz d q (yes less) = by_part v y z on ny nz d q less
    either v y z on ny nz d q (no more) =
        let differ : y ≢ z = λ e. ny (sym (and_self y) ∙ ap (bit_and y) e ∙ d) in
        omega (arith, by_part v z y on nz ny (and_comm z y ∙ d) (omega arith) (omega arith))

-- it stays so where cells of the set fall and those of its proper parts stay
pub started_lower : (G : Graph) (c d : ℕ → ℕ → ℕ) (w : ℕ) → ((v y : ℕ) → v < G.nodes → Part y w → y ≢ w → d v y ≡ c v y)
    → ((v : ℕ) → v < G.nodes → d v w ≤ c v w) → StartedSet G c w → StartedSet G d w
started_lower G c d w same lower s = record {
  landing = λ v i on l q t. omega (arith, s.landing v i on l q t, lower v on);
  split = λ v y z on ny nz p q. omega (
    arith,
    s.split v y z on ny nz p q,
    lower v on,
    same v y on (part_left y z w p q) (λ e. nz (omega arith)),
    same v z on (part_right y z w p q) (λ e. ny (omega arith)),
  );
}

-- ---- after the arcs

-- where none of the arcs whose end has a finite cell gives less, none of the others does: no cell is above `top`
pub arcs_close : (G : Graph) → Sound G → (c : ℕ → ℕ → ℕ) (top w : ℕ) → StartedSet G c w → ((v : ℕ) → v < G.nodes → c v w ≤ top)
    → ((e : ℕ) → e < G.arcs → c (G.end e) w < top → c (G.start e) w ≤ G.weight e + G.charge (G.start e) + c (G.end e) w)
    → ClosedSet G c w
arcs_close G sound c top w s capped arcs = record {
  started = s;
  arc = λ e l. by_fact (ltb (c (G.end e) w) top) (λ _. c (G.start e) w ≤ G.weight e + G.charge (G.start e) + c (G.end e) w)
      (λ t. arcs e l (ltb→lt (c (G.end e) w) top t))
      (λ t. omega (arith, capped (G.start e) (sound.start_lt e l), nltb→le (c (G.end e) w) top t));
}

-- a set that is closed stays so where its cells and those of its parts stay
pub closed_kept : (G : Graph) → Sound G → (c d : ℕ → ℕ → ℕ) (w : ℕ) → ((v y : ℕ) → v < G.nodes → Part y w → d v y ≡ c v y) → ClosedSet G c w → ClosedSet G d w
closed_kept G sound c d w same s =
    let whole : (v : ℕ) → v < G.nodes → d v w ≡ c v w = λ v on. same v w on (and_self w) in
    record {
      started = record {
        landing = λ v i on l q t. omega (arith, s.started.landing v i on l q t, whole v on);
        split = λ v y z on ny nz p q.
            let same_y = same v y on (part_left y z w p q) in
            let same_z = same v z on (part_right y z w p q) in
            omega (arith, s.started.split v y z on ny nz p q, whole v on);
      };
      arc = λ e l. omega (arith, s.arc e l, whole (G.start e) (sound.start_lt e l), whole (G.end e) (sound.end_lt e l));
    }
