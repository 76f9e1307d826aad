-- The table while it is filled, by the positions of the order: which sets are closed, which are started, and that every cell is supported. What
-- the splits of one size do to it, what the closing of that size does, and what it is in the end.
-- Assumes nothing.
use Rattle.std.specs.Prelude.{ℕ, ◌+◌, ◌-◌, ◌^◌, ◌≤◌, ◌<◌, ◌≡◌, ◌≢◌, ◌⊎◌}
use Rattle.std.proofs.Common.{sym, ap, ◌∙◌, subst, inl, inr, arith, pow_pos}
use Rattle.std.proofs.Math.Decide.{dec_lt}
use Rattle.std.proofs.Math.Pow.{pow-lt}
use Rattle.subset.specs.Sets.{single, Part}
use Rattle.subset.specs.laws.Parts.{part_le, difference_part, rest_disjoint, part_and_rest, rest_some, rest_proper}
use Rattle.graph.specs.Graph.{Graph, Sound, Landing}
use Rattle.graph.specs.LeastTotals.{IsCostTable, Room}
use Rattle.graph.specs.ClosedSupported.{Support, by_arc, by_split, Supported, Capped, StartedSet, ClosedSet}
use Rattle.graph.proofs.Theorems.{closed_and_supported, tries_start_set, parts_below_split, lowering_keeps_started, pass_closes_set, others_keep_closed}
use Rattle.graph.proofs.laws.Lowering.{support_lower}
use Rattle.order_ranges.specs.laws.Ranges.{Ordered, OneSize, Outside, Inside, inside_or_out, part_outside, part_before, earlier_outside}
use Rattle.settling.specs.laws.ClosedOver.{ArcFrom, ClosedOver}
use Rattle.set_splits.specs.laws.BestSplit.{BestSplit, SplitAt, SettledParts}

-- the sets at positions below p are closed, and those from p up to q are started
pub record Filling (G : Graph) (top : ℕ) (at : ℕ → ℕ) (p q : ℕ) (c : ℕ → ℕ → ℕ) : Type 0 where
  pub nothing : (v : ℕ) → v < G.nodes → c v 0 ≡ 0
  pub landed : (v i : ℕ) → v < G.nodes → i < G.terminals → Landing G i v → c v (single i) ≡ 0
  pub capped : Capped G c top
  pub supported : Supported G c top
  pub closed : (i : ℕ) → i < p → at i ≢ 0 → at i < 2 ^ G.terminals → ClosedSet G c (at i)
  pub started : (i : ℕ) → p ≤ i → i < q → at i < 2 ^ G.terminals → StartedSet G c (at i)

-- ---- what is done to it

-- each cell of the sets at these positions becomes the least of itself and of its splits, by the rule of BestSplit; the other cells stay
pub record SplitSets (G : Graph) (top : ℕ) (at : ℕ → ℕ) (first last : ℕ) (c d : ℕ → ℕ → ℕ) : Type 0 where
  pub others : (v w : ℕ) → v < G.nodes → w < 2 ^ G.terminals → Outside at first last w → d v w ≡ c v w
  pub each : (v i : ℕ) → v < G.nodes → first ≤ i → i < last → BestSplit top (c v) (at i) (d v (at i))

-- the cells of each set at these positions are closed over the arcs; the other cells stay
pub record ClosedSets (G : Graph) (at : ℕ → ℕ) (first last : ℕ) (c d : ℕ → ℕ → ℕ) : Type 0 where
  pub others : (v w : ℕ) → v < G.nodes → w < 2 ^ G.terminals → Outside at first last w → d v w ≡ c v w
  pub each : (i : ℕ) → first ≤ i → i < last → ClosedOver G.nodes G.arcs G.start G.end G.weight (λ v. c v (at i)) (λ v. d v (at i))

-- ---- what it is afterwards

below_sum : (a b : ℕ) {s : ℕ} → a + b ≤ s → a ≤ s
below_sum a b l = omega arith

module _ (G : Graph) (sound : Sound G) (free : (v : ℕ) → G.charge v ≡ 0) (top : ℕ) (at : ℕ → ℕ) (m : ℕ) (O : Ordered at m (2 ^ G.terminals))
    (first last : ℕ) (R : OneSize at m first last) (c d : ℕ → ℕ → ℕ) where
  -- a change of cells at these positions that raises none
  module _ (F : Filling G top at first first c)
      (others : (v w : ℕ) → v < G.nodes → w < 2 ^ G.terminals → Outside at first last w → d v w ≡ c v w)
      (low : (v i : ℕ) → v < G.nodes → first ≤ i → i < last → at i < 2 ^ G.terminals → d v (at i) ≤ c v (at i)) where
    lower : (v w : ℕ) → v < G.nodes → w < 2 ^ G.terminals → d v w ≤ c v w
    lower v w on small = go (inside_or_out at m (2 ^ G.terminals) O first last R w small)
      where
        go : Inside at first last w ⊎ Outside at first last w → d v w ≤ c v w
        go (inl i) = subst (λ (x : ℕ). d v x ≤ c v x) i.here (low v i.position on i.from i.before (omega (arith, i.here)))
        go (inr out) = omega (arith, others v w on small out)

    -- proper parts of a set of the range, and parts of a set before it, stay
    part_same : (i : ℕ) → first ≤ i → i < last → at i < 2 ^ G.terminals → (v y : ℕ) → v < G.nodes → Part y (at i) → y ≢ at i → d v y ≡ c v y
    part_same i f g small v y on p ne =
        others v y on (omega (arith, part_le y (at i) p)) (part_outside at m (2 ^ G.terminals) O first last R i y f g p ne)

    earlier_same : (i : ℕ) → i < first → at i < 2 ^ G.terminals → (v y : ℕ) → v < G.nodes → Part y (at i) → d v y ≡ c v y
    earlier_same i l small v y on p = others v y on (omega (arith, part_le y (at i) p)) (earlier_outside at m (2 ^ G.terminals) O first last R i y l p)

    -- a support of a cost stays one
    kept_support : (v w x : ℕ) → v < G.nodes → w < 2 ^ G.terminals → Support G c top v w x → Support G d top v w x
    kept_support v w x on small s =
        support_lower G c d top v w x (λ e l. lower (G.end e) w (sound.end_lt e l) small) (λ y l. lower v y on (omega arith)) s

    -- the table is supported where each cell at these positions is
    still_supported : ((v i : ℕ) → v < G.nodes → first ≤ i → i < last → at i ≢ 0 → at i < 2 ^ G.terminals → d v (at i) < top
        → Support G d top v (at i) (d v (at i))) → Supported G d top
    still_supported each v w on ne small finite = go (inside_or_out at m (2 ^ G.terminals) O first last R w small)
      where
        go : Inside at first last w ⊎ Outside at first last w → Support G d top v w (d v w)
        go (inl i) =
            subst (λ (x : ℕ). Support G d top v x (d v x)) i.here
            (each v i.position on i.from i.before (λ z. ne (sym i.here ∙ z)) (omega (arith, i.here)) (omega (arith, ap (d v) i.here)))
        go (inr out) =
            let e : d v w ≡ c v w = others v w on small out in
            subst (Support G d top v w) (sym e) (kept_support v w (c v w) on small (F.supported v w on ne small (omega arith)))

    still_closed : (i : ℕ) → i < first → at i ≢ 0 → at i < 2 ^ G.terminals → ClosedSet G d (at i)
    still_closed i l ne small = others_keep_closed G sound c d (at i) (λ v y on p. earlier_same i l small v y on p) (F.closed i l ne small)

    still_capped : Capped G d top
    still_capped v w on small = omega (arith, lower v w on small, F.capped v w on small)

    still_landed : (v i : ℕ) → v < G.nodes → i < G.terminals → Landing G i v → d v (single i) ≡ 0
    still_landed v i on l t = omega (arith, lower v (single i) on (pow-lt l), F.landed v i on l t)

    still_nothing : (v : ℕ) → v < G.nodes → d v 0 ≡ 0
    still_nothing v on = omega (arith, lower v 0 on (pow_pos G.terminals), F.nothing v on)

  -- splits of one size
  pub splitting : Room G top → Filling G top at first first c → SplitSets G top at first last c d → Filling G top at first last d
  splitting room F S =
      record {
        nothing = still_nothing F S.others low;
        landed = still_landed F S.others low;
        capped = still_capped F S.others low;
        supported = still_supported F S.others low supports;
        closed = still_closed F S.others low;
        started = begins;
      }
    where
      low : (v i : ℕ) → v < G.nodes → first ≤ i → i < last → at i < 2 ^ G.terminals → d v (at i) ≤ c v (at i)
      low v i on f g small = (S.each v i on f g).low

      supports : (v i : ℕ) → v < G.nodes → first ≤ i → i < last → at i ≢ 0 → at i < 2 ^ G.terminals → d v (at i) < top → Support G d top v (at i) (d v (at i))
      supports v i on f g ne small finite = go (S.each v i on f g).from
        where
          go : (d v (at i) ≡ c v (at i)) ⊎ SplitAt (c v) (at i) (d v (at i)) → Support G d top v (at i) (d v (at i))
          go (inl e) =
              subst (Support G d top v (at i)) (sym e)
              (kept_support F S.others low v (at i) (c v (at i)) on small (F.supported v (at i) on ne small (omega arith)))
          go (inr h) =
              let w : ℕ = at i in
              let y : ℕ = h.part in
              let le = part_le y w h.within in
              let sum = part_and_rest w y h.within in
              let sy : d v y ≡ c v y = part_same F S.others low i f g small v y on h.within h.not_all in
              let sz : d v (w - y) ≡ c v (w - y) =
              part_same F S.others low i f g small v (w - y) on (difference_part w y h.within) (λ e. h.some_terminal (omega arith)) in
              by_split y (w - y) h.some_terminal (λ e. h.not_all (omega arith)) (rest_disjoint w y h.within) sum
              (omega (arith, h.makes)) (omega (arith, h.makes)) (omega (arith, h.makes, free v))

      -- what is known of all proper parts where those of one split have finite cells
      settled : (v i y : ℕ) → v < G.nodes → first ≤ i → i < last → at i < 2 ^ G.terminals → Part y (at i) → y ≢ 0 → y ≢ at i
          → c v y < top → c v (at i - y) < top → SettledParts top (c v) (at i)
      settled v i y on f g small p ny ne fy fz = record {
        finite = finite;
        cheap = λ x z px nx ex pz nz ez.
            let rest = finite (at i - x) (difference_part (at i) x px) (rest_some (at i) x px ex) (rest_proper (at i) x px nx) in
            let (_, cheap) = parts_below_split G sound c top room F.supported (at i) small closed_part v x on px nx ex (finite x px nx ex) rest z pz nz ez in
            below_sum (c v z) (G.charge v) cheap;
      }
        where
          closed_part : (z : ℕ) → Part z (at i) → z ≢ 0 → z ≢ at i → ClosedSet G c z
          closed_part z p nz ne =
              let le = part_le z (at i) p in
              let (j, before, e) = part_before at m (2 ^ G.terminals) O first last R i z f g p ne in
              subst (ClosedSet G c) e (F.closed j before (λ q. nz (sym e ∙ q)) (omega arith))

          finite : (z : ℕ) → Part z (at i) → z ≢ 0 → z ≢ at i → c v z < top
          finite z pz nz ez = (parts_below_split G sound c top room F.supported (at i) small closed_part v y on p ny ne fy fz z pz nz ez).0

      begins : (i : ℕ) → first ≤ i → i < last → at i < 2 ^ G.terminals → StartedSet G d (at i)
      begins i f g small =
          tries_start_set G d top (at i)
          (λ v j on l e t. omega (arith, low v i on f g small, ap (c v) e, F.landed v j on l t))
          (λ v y on p ny less fy fz.
          let w : ℕ = at i in
          let ne : y ≢ w = λ e. omega arith in
          let sy : d v y ≡ c v y = part_same F S.others low i f g small v y on p ne in
          let sz : d v (w - y) ≡ c v (w - y) = part_same F S.others low i f g small v (w - y) on (difference_part w y p) (rest_proper w y p ny) in
          let known = settled v i y on f g small p ny ne (omega arith) (omega arith) in
          omega (arith, (S.each v i on f g).least known y p ny ne, free v))
          (λ v on. still_capped F S.others low v (at i) on small)
          (λ v y on ny p. omega (arith, free v))

  -- the closing of the same size
  pub closing : Filling G top at first last c → ClosedSets G at first last c d
      → Filling G top at last last d
  closing F S =
      record {
        nothing = still_nothing F' S.others low;
        landed = still_landed F' S.others low;
        capped = still_capped F' S.others low;
        supported = still_supported F' S.others low supports;
        closed = λ i l ne small. closes i l ne small (dec_lt i first);
        started = λ i f g small. absurd (omega arith);
      }
    where
      F' : Filling G top at first first c
      F' = record {
        nothing = F.nothing;
        landed = F.landed;
        capped = F.capped;
        supported = F.supported;
        closed = F.closed;
        started = λ i f g small. absurd (omega arith);
      }

      low : (v i : ℕ) → v < G.nodes → first ≤ i → i < last → at i < 2 ^ G.terminals → d v (at i) ≤ c v (at i)
      low v i on f g small = (S.each i f g).low v on

      supports : (v i : ℕ) → v < G.nodes → first ≤ i → i < last → at i ≢ 0 → at i < 2 ^ G.terminals → d v (at i) < top → Support G d top v (at i) (d v (at i))
      supports v i on f g ne small finite = go ((S.each i f g).from v on)
        where
          go : (d v (at i) ≡ c v (at i)) ⊎ ArcFrom G.arcs G.start G.end G.weight (λ u. d u (at i)) v → Support G d top v (at i) (d v (at i))
          go (inl e) =
              subst (Support G d top v (at i)) (sym e)
              (kept_support F' S.others low v (at i) (c v (at i)) on small (F.supported v (at i) on ne small (omega arith)))
          go (inr h) = by_arc h.arc h.on_graph h.from (omega (arith, h.gives)) (omega (arith, h.gives, free v))

      closes : (i : ℕ) → i < last → at i ≢ 0 → at i < 2 ^ G.terminals → Dec (i < first) → ClosedSet G d (at i)
      closes i l ne small (yes before) = still_closed F' S.others low i before ne small
      closes i l ne small (no after) =
          pass_closes_set G sound d top (at i)
          (lowering_keeps_started G c d (at i) (λ v y on p n. part_same F' S.others low i (omega arith) l small v y on p n)
          (λ v on. low v i on (omega arith) l small) (F.started i (omega arith) l small))
          (λ v on. still_capped F' S.others low v (at i) on small)
          (λ e le finite. omega (arith, (S.each i (omega arith) l).closed e le, free (G.start e)))

-- in the end
pub filled : (G : Graph) → Sound G → (top : ℕ) → Room G top → (at : ℕ → ℕ) (m : ℕ) → Ordered at m (2 ^ G.terminals)
    → (c : ℕ → ℕ → ℕ) → Filling G top at m m c → IsCostTable G c top
filled G sound top room at m O c F =
    (closed_and_supported G sound c top room).0 (
      F.capped,
      record {
        nothing = F.nothing;
        sets = λ w ne small.
            let (i, l, e) = O.found w small in
            subst (ClosedSet G c) e (F.closed i l (λ z. ne (sym e ∙ z)) (omega arith));
      },
      F.supported,
    )
