-- Parts of a set that cost nothing at a node, and at four nodes: then nothing is to be split there.
-- Assumes nothing.
use Rattle.std.specs.Prelude.{ℕ, ◌-◌, ◌≤◌, ◌<◌, min, ◌≡◌, refl, ◌≢◌, Bool, true, ◌&&◌, List, T, ltb}
use Rattle.std.proofs.Common.{sym, ap, ◌∙◌, subst, arith, ltb→lt}
use Rattle.std.specs.Int.Bits.{bit_and, and_zero_l}
use Rattle.lists.specs.Tests.{and_left, and_right, true_fact}
use Rattle.subset.specs.Sets.{Part}
use Rattle.subset.specs.laws.Parts.{part_le, part_trans, difference_part}
use Rattle.subset.specs.laws.Falling.{common_part}
use Rattle.lanes.specs.declared.Four.{Four}
use Rattle.lanes.specs.laws.Four.{nth, less_four, less_nth, FourSmall, below_four}
use Rattle.set_splits.specs.laws.FourCosts.{rows_at, rows_nth, set_costs, FourCosts}
use Rattle.set_splits.specs.laws.BestSplit.{BestSplits, free_part}

-- x is empty, or a part of w that costs nothing
pub record FreePart (f : ℕ → ℕ) (w x : ℕ) : Type 0 where
  pub within : Part x w
  pub free : x ≢ 0 → f x ≡ 0

pub no_part : {f : ℕ → ℕ} {w : ℕ} → FreePart f w 0
no_part {w = w} = record { within = and_zero_l w; free = λ ne. absurd (ne refl) }

-- of the terminals that w has in common with another set, the lowest, where it costs nothing
pub lowest_free : (f : ℕ → ℕ) (w heard : ℕ) → (let both = bit_and heard w in
    (f (both - bit_and (both - 1) both) ≡ 0 → FreePart f w (both - bit_and (both - 1) both)))
lowest_free f w heard nothing =
    let both : ℕ = bit_and heard w in
    let lower : ℕ = bit_and (both - 1) both in
    record {
      within = part_trans (both - lower) both w (difference_part both lower (common_part (both - 1) both)) (common_part heard w);
      free = λ ne. nothing;
    }

-- at each of four nodes
pub record FreeParts (f : ℕ → ℕ → ℕ) (w : ℕ) (parts : Four ℕ) : Type 0 where
  pub each : (j : ℕ) → j < 4 → FreePart (f j) w (nth parts j)

pub free_le : {f : ℕ → ℕ → ℕ} {w : ℕ} {parts : Four ℕ} → FreeParts f w parts → (j : ℕ) → j < 4 → nth parts j ≤ w
free_le {f} {w} {parts} F j s = part_le (nth parts j) w (F.each j s).within

-- none of four sets is empty
abbrev pub none_empty : Four ℕ → Bool
none_empty x = ((ltb 0 x.a && ltb 0 x.b) && ltb 0 x.c) && ltb 0 x.d

none_empty_lem : (x : Four ℕ) → none_empty x ≡ true → (j : ℕ) → j < 4 → 0 < nth x j
none_empty_lem x passes =
    let abcd : T (none_empty x) = true_fact passes in
    let abc = and_left ((ltb 0 x.a && ltb 0 x.b) && ltb 0 x.c) (ltb 0 x.d) abcd in
    let ab = and_left (ltb 0 x.a && ltb 0 x.b) (ltb 0 x.c) abc in
    below_four (λ j. 0 < nth x j)
    (ltb→lt 0 x.a (and_left (ltb 0 x.a) (ltb 0 x.b) ab))
    (ltb→lt 0 x.b (and_right (ltb 0 x.a) (ltb 0 x.b) ab))
    (ltb→lt 0 x.c (and_right (ltb 0 x.a && ltb 0 x.b) (ltb 0 x.c) abc))
    (ltb→lt 0 x.d (and_right ((ltb 0 x.a && ltb 0 x.b) && ltb 0 x.c) (ltb 0 x.d) abcd))

-- the costs of w without them
abbrev pub rest_costs : (f : ℕ → ℕ → ℕ) → (w : ℕ) → Four ℕ → Four ℕ
rest_costs f w x = record { a = f 0 (w - x.a); b = f 1 (w - x.b); c = f 2 (w - x.c); d = f 3 (w - x.d) }

rest_nth : (f : ℕ → ℕ → ℕ) (w : ℕ) (x : Four ℕ) (j : ℕ) → j < 4 → nth (rest_costs f w x) j ≡ f j (w - nth x j)
rest_nth f w x = below_four (λ j. nth (rest_costs f w x) j ≡ f j (w - nth x j)) refl refl refl refl

pub rest_small : {list : List ℕ} {w : ℕ} (x : Four ℕ) {rests : Four ℕ} → FourCosts list w → rests ≡ rest_costs (set_costs list) w x → FourSmall rests
rest_small {w = w} x C is =
    subst FourSmall (sym is) (
      omega (arith, C.low 0 (w - x.a) (omega arith) (omega arith)),
      omega (arith, C.low 1 (w - x.b) (omega arith) (omega arith)),
      omega (arith, C.low 2 (w - x.c) (omega arith) (omega arith)),
      omega (arith, C.low 3 (w - x.d) (omega arith) (omega arith)),
    )

-- where none of them is empty, these are least
pub free_best : {f : ℕ → ℕ → ℕ} {w : ℕ} {parts : Four ℕ} {best own rests : Four ℕ} → FreeParts f w parts
    → none_empty parts ≡ true → own ≡ rows_at f w → rests ≡ rest_costs f w parts → best ≡ less_four rests own
    → BestSplits f w best
free_best {f} {w} {parts} {best} {own} {rests} F some is-own is-rests is-best = record {
  each = λ j s.
      let ne : nth parts j ≢ 0 = λ e. omega (arith, none_empty_lem parts some j s) in
      free_part (f j) w _ (nth best j) (nth parts j) (F.each j s).within ne ((F.each j s).free ne) (value j s);
}
  where
    value : (j : ℕ) → j < 4 → nth best j ≡ min (f j (w - nth parts j)) (f j w)
    value j s =
        let x = ap (λ (q : Four ℕ). nth q j) is-rests ∙ rest_nth f w parts j s in
        let y = ap (λ (q : Four ℕ). nth q j) is-own ∙ rows_nth f w j s in
        omega (arith, ap (λ (q : Four ℕ). nth q j) is-best, less_nth rests own j s)
