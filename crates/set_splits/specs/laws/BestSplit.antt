-- The least that a set costs at a node by itself or by a split into two parts, from the costs of the sets there. The splits are tried in pairs, by the
-- parts of the set without its lowest terminal, in falling order: the lowest terminal is on the one side, then on the other. They are not tried where
-- the first one, the terminals by themselves, or a part that costs nothing show that none needs to be.
-- Assumes nothing.
use Rattle.std.specs.Prelude.{ℕ, ◌+◌, ◌-◌, ◌≤◌, ◌<◌, min, ◌≡◌, refl, ◌≢◌, ◌⊎◌, false}
use Rattle.std.proofs.Common.{sym, ap, ap₂, ◌∙◌, subst, inl, inr, arith}
use Rattle.std.proofs.Math.Decide.{ℕ_discrete, dec_lt}
use Rattle.std.specs.Int.Bits.{bit_and, and_self}
use Rattle.std.proofs.lemmas.Nat.{and_le_l}
use Rattle.subset.specs.Sets.{Part, single}
use Rattle.subset.specs.laws.Parts.{part_le, part_has, part_trans, single_part, single_ne, terminals_lt, difference_part, rest_disjoint}
use Rattle.subset.specs.laws.Falling.{common_part, next_part, lowest_either}
use Rattle.lanes.specs.declared.Four.{Four}
use Rattle.lanes.specs.laws.Four.{nth, less_four, less_nth, below_four}
use Rattle.working_none.specs.laws.WorkingNone.{working_none}
use Rattle.set_splits.specs.laws.FourCosts.{sum_four, rows_at, rows_nth, both_finite, none_finite}

-- w is split into a part and the rest at a cost of r
pub record SplitAt (f : ℕ → ℕ) (w r : ℕ) : Type 0 where
  pub part : ℕ
  pub within : Part part w
  pub some_terminal : part ≢ 0
  pub not_all : part ≢ w
  pub makes : r ≡ f part + f (w - part)

-- what is known of the proper parts of w, where these sets are settled: each has a cost below `top`, and at most that of a split of w
pub record SettledParts (top : ℕ) (f : ℕ → ℕ) (w : ℕ) : Type 0 where
  pub finite : (y : ℕ) → Part y w → y ≢ 0 → y ≢ w → f y < top
  pub cheap : (y z : ℕ) → Part y w → y ≢ 0 → y ≢ w → Part z w → z ≢ 0 → z ≢ w → f z ≤ f y + f (w - y)

-- r is the cost of w or of one of its splits, where the set y costs f y; and the least of them, where that is known of the parts
pub record BestSplit (top : ℕ) (f : ℕ → ℕ) (w r : ℕ) : Type 0 where
  pub low : r ≤ f w
  pub least : SettledParts top f w → (y : ℕ) → Part y w → y ≢ 0 → y ≢ w → r ≤ f y + f (w - y)
  pub from : (r ≡ f w) ⊎ SplitAt f w r

-- the costs of the set and of its parts are all that counts
pub best_split_same : (top : ℕ) (f g : ℕ → ℕ) (w r s : ℕ) → f w ≡ g w → ((y : ℕ) → Part y w → y ≢ 0 → y ≢ w → f y ≡ g y)
    → ((y : ℕ) → Part y w → y ≢ 0 → y ≢ w → f (w - y) ≡ g (w - y))
    → r ≡ s → BestSplit top f w r → BestSplit top g w s
best_split_same top f g w r s own part rest e B = record {
  low = omega (arith, B.low);
  least = λ q y p ny ne. omega (arith, B.least (same_parts q) y p ny ne, part y p ny ne, rest y p ny ne);
  from = go B.from;
}
  where
    same_parts : SettledParts top g w → SettledParts top f w
    same_parts q = record {
      finite = λ y p ny ne. omega (arith, q.finite y p ny ne, part y p ny ne);
      cheap = λ y z p ny ne p' nz ne'. omega (arith, q.cheap y z p ny ne p' nz ne', part y p ny ne, rest y p ny ne, part z p' nz ne');
    }

    go : (r ≡ f w) ⊎ SplitAt f w r → (s ≡ g w) ⊎ SplitAt g w s
    go (inl q) = inl (sym e ∙ q ∙ own)
    go (inr h) = inr (record {
      part = h.part;
      within = h.within;
      some_terminal = h.some_terminal;
      not_all = h.not_all;
      makes = sym e ∙ h.makes ∙ ap₂ ◌+◌ (part h.part h.within h.some_terminal h.not_all)
          (rest h.part h.within h.some_terminal h.not_all);
    })

-- ---- in falling order

-- w without its lowest terminal
abbrev pub others : ℕ → ℕ
others w = bit_and (w - 1) w

-- of the parts of the others, the sets above y have been tried as one side of a split, and with the lowest terminal too; and r is the least so far
pub record Tried (f : ℕ → ℕ) (w y r : ℕ) : Type 0 where
  pub within : Part y (others w)
  pub low : r ≤ f w
  pub alone : (z : ℕ) → Part z (others w) → y < z → r ≤ f z + f (w - z)
  pub with_lowest : (z : ℕ) → Part z (others w) → y < z → r ≤ f (z + (w - others w)) + f (others w - z)
  pub from : (r ≡ f w) ⊎ SplitAt f w r

module _ (f : ℕ → ℕ) (w : ℕ) where
  -- the others, for short
  abbrev u : ℕ
  u = others w

  u_le : u ≤ w - 1
  u_le = and_le_l (w - 1) w

  u_part : Part u w
  u_part = common_part (w - 1) w

  pub tried_none : Tried f w (others w) (f w)
  tried_none = record {
    within = and_self u;
    low = omega arith;
    alone = λ z p l. absurd (omega (arith, part_le z u p));
    with_lowest = λ z p l. absurd (omega (arith, part_le z u p));
    from = inl refl;
  }

  -- one more pair, by the part y
  pub tried_pair : (y r s : ℕ) → others w < y + y
      → s ≡ min (min (f y + f (others w - y + (w - others w))) (f (y + (w - others w)) + f (others w - y))) r → Tried f w y r
      → Tried f w (bit_and (y - 1) (others w)) s
  tried_pair y r s d is B = record {
    within = common_part (y - 1) u;
    low = omega (arith, B.low);
    alone = λ z p l. at z p l (λ x. s ≤ f x + f (w - x)) (λ h. omega (arith, B.alone z p h)) (omega (arith, ap f rest));
    with_lowest = λ z p l. at z p l (λ x. s ≤ f (x + (w - u)) + f (u - x)) (λ h. omega (arith, B.with_lowest z p h)) (omega arith);
    from = choose (dec_lt s r) (dec_lt s (f y + f (u - y + (w - u))));
  }
    where
      le : y ≤ u
      le = part_le y u B.within

      rest : u - y + (w - u) ≡ w - y
      rest = omega (arith, le, u_le)

      at : (z : ℕ) → Part z u → bit_and (y - 1) u < z → (P : ℕ → Type 0) → (y < z → P z) → P y → P z
      at z p l P above here = go (dec_lt y z) (ℕ_discrete z y)
        where
          go : Dec (y < z) → Dec (z ≡ y) → P z
          go (yes h) _ = above h
          go (no h) (yes e) = subst P (sym e) here
          go (no h) (no ne) = absurd (omega (arith, next_part u y z B.within p (omega arith)))

      -- where s is below both r and the first sum, it is the second one
      second : s ≡ f (y + (w - u)) + f (u - y) → Dec (y ≡ u) → (s ≡ f w) ⊎ SplitAt f w s
      second e (yes q) =
          let whole : y + (w - u) ≡ w = omega (arith, u_le) in
          inl (omega (arith, ap f whole, B.low))
      second e (no q) =
          let back : w - (u - y) ≡ y + (w - u) = omega (arith, u_le, le) in
          inr (record {
            part = u - y;
            within = part_trans (u - y) u w (difference_part u y B.within) u_part;
            some_terminal = λ z. q (omega (arith, le));
            not_all = λ z. omega (arith, u_le);
            makes = omega (arith, ap f back);
          })

      choose : Dec (s < r) → Dec (s < f y + f (u - y + (w - u))) → (s ≡ f w) ⊎ SplitAt f w s
      choose (no h) _ = let e : s ≡ r = omega arith in kept e B.from
        where
          kept : s ≡ r → (r ≡ f w) ⊎ SplitAt f w r → (s ≡ f w) ⊎ SplitAt f w s
          kept e (inl q) = inl (e ∙ q)
          kept e (inr q) = inr (subst (SplitAt f w) (sym e) q)
      choose (yes h) (yes l) = second (omega arith) (ℕ_discrete y u)
      choose (yes h) (no l) = inr (record {
        part = y;
        within = part_trans y u w B.within u_part;
        some_terminal = λ z. omega arith;
        not_all = λ z. omega (arith, u_le, le);
        makes = omega (arith, ap f rest);
      })

  -- no pair is left
  pub tried_all : (top y r : ℕ) → y + y ≤ others w → Tried f w y r → BestSplit top f w r
  tried_all top y r d B = record { low = B.low; least = λ q x p nx ne. each x p nx ne (lowest_either w x p (omega (arith, part_le x w p))); from = B.from }
    where
      -- a part of the others that is not above y has a rest that is
      half : (z : ℕ) → Part z u → z ≢ 0 → r ≤ f z + f (w - z)
      half z p nz = go (dec_lt y z) (dec_lt y (u - z))
        where
          le : z ≤ u
          le = part_le z u p

          go : Dec (y < z) → Dec (y < u - z) → r ≤ f z + f (w - z)
          go (yes h) _ = B.alone z p h
          go (no h) (yes l) =
              let one : u - z + (w - u) ≡ w - z = omega (arith, le, u_le) in
              let other : u - (u - z) ≡ z = omega (arith, le) in
              omega (arith, B.with_lowest (u - z) (difference_part u z p) l, ap f one, ap f other)
          go (no h) (no l) =
              let same : u - z ≡ z = omega (arith, le) in
              absurd (nz (sym (and_self z) ∙ ap (bit_and z) (sym same) ∙ rest_disjoint u z p))

      each : (x : ℕ) → Part x w → x ≢ 0 → x ≢ w → Part x u ⊎ Part (w - x) u → r ≤ f x + f (w - x)
      each x p nx ne (inl q) = half x q nx
      each x p nx ne (inr q) =
          let le = part_le x w p in
          let back : w - (w - x) ≡ x = omega arith in
          omega (arith, half (w - x) q (λ z. ne (omega arith)), ap f back)

  -- none needs to be tried: where there is a proper part, not all are finite
  no_more : (top r : ℕ) → r ≡ f w → ((y : ℕ) → Part y w → y ≢ 0 → y ≢ w → SettledParts top f w → ⊥) → BestSplit top f w r
  no_more top r e none = record { low = omega arith; least = λ q y p ny ne. absurd (none y p ny ne q); from = inl e }

  -- the first split, into w without its lowest terminal and this one, has a part that is not finite
  pub no_first : (top r : ℕ) → r ≡ f w → (f (others w) < top → f (w - others w) < top → ⊥) → BestSplit top f w r
  no_first top r e none = no_more top r e (λ y p ny ne q.
      let le = part_le y w p in
      let some : y ≤ u = next_part w w y (and_self w) p (omega arith) in
      none (q.finite u u_part (λ z. ny (omega arith)) (λ z. omega (arith, u_le)))
      (q.finite (w - u) (difference_part w u u_part) (λ z. omega (arith, u_le)) (λ z. ny (omega (arith, u_le)))))

  -- no terminal is finite by itself
  pub no_single : (top r : ℕ) → r ≡ f w → ((i : ℕ) → single i ≤ w → top ≤ f (single i)) → BestSplit top f w r
  no_single top r e none = no_more top r e (λ y p ny ne q.
      let empty : y < 1 = terminals_lt 0 y (λ i t.
      let own : Part (single i) y = single_part i y t in
      let le : single i ≤ y = part_le (single i) y own in
      let whole : y ≤ w = part_le y w p in
      absurd (omega (arith, none i (omega arith), q.finite (single i) (single_part i w (part_has y w p i t)) (single_ne i) (λ z. omega arith)))) in
      ny (omega arith))

  -- a part costs nothing, so that the other terminals cost as much as all
  pub free_part : (top r x : ℕ) → Part x w → x ≢ 0 → f x ≡ 0 → r ≡ min (f (w - x)) (f w) → BestSplit top f w r
  free_part top r x part some free is = go (ℕ_discrete x w)
    where
      le : x ≤ w
      le = part_le x w part

      go : Dec (x ≡ w) → BestSplit top f w r
      go (yes e) = record { low = omega arith; least = λ q y p ny ne. omega (arith, ap f e); from = inl (omega (arith, ap f e)) }
      go (no proper) = record {
        low = omega arith;
        least = λ q y p ny ne.
            let cheap = q.cheap y (w - x) p ny ne (difference_part w x part) (λ z. proper (omega (arith, le))) (λ z. some (omega (arith, le))) in
            omega arith;
        from = choose (dec_lt (f (w - x)) (f w));
      }
        where
          choose : Dec (f (w - x) < f w) → (r ≡ f w) ⊎ SplitAt f w r
          choose (yes l) = inr (record { part = x; within = part; some_terminal = some; not_all = proper; makes = omega arith })
          choose (no l) = inl (omega arith)

-- ---- at four nodes

-- the least costs of w at four nodes, where the set y costs f j y at node j
pub record BestSplits (f : ℕ → ℕ → ℕ) (w : ℕ) (best : Four ℕ) : Type 0 where
  pub each : (j : ℕ) → j < 4 → BestSplit working_none (f j) w (nth best j)

-- the pairs of splits by the parts above y have been tried at each of them
pub record FourTried (f : ℕ → ℕ → ℕ) (w y : ℕ) (best : Four ℕ) : Type 0 where
  pub within : y ≤ others w
  pub each : (j : ℕ) → j < 4 → Tried (f j) w y (nth best j)

-- the lesser of a pair of splits at each of them, where the one side is y, or y and the lowest terminal, and `rest` are the others
abbrev pub pair_sums : (f : ℕ → ℕ → ℕ) → (y rest lowest : ℕ) → Four ℕ
pair_sums f y rest lowest =
    less_four (sum_four (rows_at f y) (rows_at f (rest + lowest))) (sum_four (rows_at f (y + lowest)) (rows_at f rest))

pair_nth : (f : ℕ → ℕ → ℕ) (y rest lowest j : ℕ) → j < 4
    → nth (pair_sums f y rest lowest) j ≡ min (f j y + f j (rest + lowest)) (f j (y + lowest) + f j rest)
pair_nth f y rest lowest =
    below_four (λ j. nth (pair_sums f y rest lowest) j ≡ min (f j y + f j (rest + lowest)) (f j (y + lowest) + f j rest)) refl refl refl refl

module _ {f : ℕ → ℕ → ℕ} {w : ℕ} where
  pub four_tried_none : {best : Four ℕ} → best ≡ rows_at f w → FourTried f w (others w) best
  four_tried_none is = record {
    within = omega arith;
    each = λ j s. subst (Tried (f j) w (others w)) (sym (ap (λ (q : Four ℕ). nth q j) is ∙ rows_nth f w j s)) (tried_none (f j) w);
  }

  pub four_tried_next : {y : ℕ} {best sums best' : Four ℕ} → others w < y + y → sums ≡ pair_sums f y (others w - y) (w - others w)
      → best' ≡ less_four sums best → FourTried f w y best → FourTried f w (bit_and (y - 1) (others w)) best'
  four_tried_next {y} {best} {sums} {best'} d is_sum is-best T = record {
    within = let lower = and_le_l (y - 1) (others w) in omega (arith, T.within);
    each = λ j s. tried_pair (f j) w y (nth best j) (nth best' j) d (value j s) (T.each j s);
  }
    where
      value : (j : ℕ) → j < 4
          → nth best' j ≡ min (min (f j y + f j (others w - y + (w - others w))) (f j (y + (w - others w)) + f j (others w - y))) (nth best j)
      value j s =
          ap (λ (q : Four ℕ). nth q j) is-best ∙ less_nth sums best j s
          ∙ ap (λ (x : ℕ). min x (nth best j)) (ap (λ (q : Four ℕ). nth q j) is_sum ∙ pair_nth f y (others w - y) (w - others w) j s)

  pub four_tried_all : {y : ℕ} {best : Four ℕ} → y + y ≤ others w → FourTried f w y best → BestSplits f w best
  four_tried_all {y} {best} d T = record { each = λ j s. tried_all (f j) w working_none y (nth best j) d (T.each j s) }

  -- at each of them the first split has a part that is "none"
  pub four_no_more : {best greater lowest : Four ℕ} → best ≡ rows_at f w → greater ≡ rows_at f (others w) → lowest ≡ rows_at f (w - others w)
      → both_finite greater lowest ≡ false → BestSplits f w best
  four_no_more {best} {greater} {lowest} is is_Greater is-lowest fails = record {
    each = λ j s.
        no_first (f j) w working_none (nth best j) (ap (λ (q : Four ℕ). nth q j) is ∙ rows_nth f w j s)
        (λ one other. none_finite greater lowest fails j s
        (omega (arith, ap (λ (g : Four ℕ). nth g j) is_Greater, rows_nth f (others w) j s))
        (omega (arith, ap (λ (g : Four ℕ). nth g j) is-lowest, rows_nth f (w - others w) j s)));
  }
