-- Four entries of a list, written one after the other, perhaps some of them twice. So are four cells of one node, and the cells of four nodes and
-- one set: what the cells are afterwards.
-- Assumes nothing.
use Rattle.std.specs.Prelude.{ℕ, ◌+◌, ◌*◌, ◌≤◌, ◌<◌, ◌≡◌, refl, ◌≢◌, ◌⊎◌, Bool, true, false, cond, List, eqb, length, get_or, set}
use Rattle.std.proofs.Common.{sym, ap, ◌∙◌, inl, inr, arith, length-set, get_or-set_same, get_or-set_other, eq-eqb, ne_eqb}
use Rattle.std.proofs.Math.Decide.{ℕ_discrete}
use Rattle.cost_table.specs.Cells.{cell_in}
use Rattle.cost_table.proofs.laws.Rows.{place_node, place_set}
use Rattle.lanes.specs.laws.Four.{below_four}

-- the entries p 0 to p 3 become x 0 to x 3
abbrev pub write_at : (p x : ℕ → ℕ) → List ℕ → List ℕ
write_at p x list = set (set (set (set list (p 0) (x 0)) (p 1) (x 1)) (p 2) (x 2)) (p 3) (x 3)

-- what becomes of entry i: the last of the four values that were written to it, or what it was
abbrev pub put_four : (p x : ℕ → ℕ) → (i old : ℕ) → ℕ
put_four p x i old = cond (eqb i (p 3)) (x 3) (cond (eqb i (p 2)) (x 2) (cond (eqb i (p 1)) (x 1) (cond (eqb i (p 0)) (x 0) old)))

-- ---- the last of the four that is i

-- i is p j, and j is the number by which entry i is written
pub record LaneOf (w : ℕ → ℕ) (y : ℕ) : Type 0 where
  pub lane : ℕ
  pub small : lane < 4
  pub same : w lane ≡ y
  pub written : (x : ℕ → ℕ) (old : ℕ) → put_four w x y old ≡ x lane

-- i is none of the four
pub record NoLane (w : ℕ → ℕ) (y : ℕ) : Type 0 where
  pub none : (j : ℕ) → j < 4 → w j ≢ y
  pub stays : (x : ℕ → ℕ) (old : ℕ) → put_four w x y old ≡ old

pub lane_or_none : (w : ℕ → ℕ) (y : ℕ) → LaneOf w y ⊎ NoLane w y
lane_or_none w y = go (ℕ_discrete y (w 3)) (ℕ_discrete y (w 2)) (ℕ_discrete y (w 1)) (ℕ_discrete y (w 0))
  where
    by : (a b c d : Bool) → eqb y (w 3) ≡ a → eqb y (w 2) ≡ b → eqb y (w 1) ≡ c → eqb y (w 0) ≡ d → (x : ℕ → ℕ) (old : ℕ)
        → put_four w x y old ≡ cond a (x 3) (cond b (x 2) (cond c (x 1) (cond d (x 0) old)))
    by a b c d p q r s x old = λ i. cond (p i) (x 3) (cond (q i) (x 2) (cond (r i) (x 1) (cond (s i) (x 0) old)))

    go : Dec (y ≡ w 3) → Dec (y ≡ w 2) → Dec (y ≡ w 1) → Dec (y ≡ w 0) → LaneOf w y ⊎ NoLane w y
    go (yes e) q r s = inl (record {
      lane = 3;
      small = omega arith;
      same = sym e;
      written = λ x old. by true _ _ _ (eq-eqb y (w 3) e) refl refl refl x old;
    })
    go (no a) (yes e) r s = inl (record {
      lane = 2;
      small = omega arith;
      same = sym e;
      written = λ x old. by false true _ _ (ne_eqb y (w 3) a) (eq-eqb y (w 2) e) refl refl x old;
    })
    go (no a) (no b) (yes e) s = inl (record {
      lane = 1;
      small = omega arith;
      same = sym e;
      written = λ x old. by false false true _ (ne_eqb y (w 3) a) (ne_eqb y (w 2) b) (eq-eqb y (w 1) e) refl x old;
    })
    go (no a) (no b) (no c) (yes e) = inl (record {
      lane = 0;
      small = omega arith;
      same = sym e;
      written = λ x old. by false false false true (ne_eqb y (w 3) a) (ne_eqb y (w 2) b) (ne_eqb y (w 1) c) (eq-eqb y (w 0) e) x old;
    })
    go (no a) (no b) (no c) (no d) = inr (record {
      none = below_four (λ j. w j ≢ y) (λ e. d (sym e)) (λ e. c (sym e)) (λ e. b (sym e)) (λ e. a (sym e));
      stays = λ x old. by false false false false (ne_eqb y (w 3) a) (ne_eqb y (w 2) b) (ne_eqb y (w 1) c) (ne_eqb y (w 0) d) x old;
    })

-- ---- the entries

-- one entry that is written
written : (list : List ℕ) (p x i : ℕ) → p < length list → get_or (set list p x) i 0 ≡ cond (eqb i p) x (get_or list i 0)
written list p x i on = go (ℕ_discrete i p)
  where
    go : Dec (i ≡ p) → get_or (set list p x) i 0 ≡ cond (eqb i p) x (get_or list i 0)
    go (yes e) =
        ap (λ (z : ℕ). get_or (set list p x) z 0) e ∙ get_or-set_same list p x 0 on ∙ sym (ap (λ (b : Bool). cond b x (get_or list i 0)) (eq-eqb i p e))
    go (no ne) = get_or-set_other list p i x 0 ne ∙ sym (ap (λ (b : Bool). cond b x (get_or list i 0)) (ne_eqb i p ne))

module _ (p x : ℕ → ℕ) (list : List ℕ) where
  -- after one, two and three of them
  abbrev one : List ℕ
  one = set list (p 0) (x 0)

  abbrev two : List ℕ
  two = set one (p 1) (x 1)

  abbrev three : List ℕ
  three = set two (p 2) (x 2)

  one_length : length one ≡ length list
  one_length = length-set list (p 0) (x 0)

  two_length : length two ≡ length list
  two_length = length-set one (p 1) (x 1) ∙ one_length

  three_length : length three ≡ length list
  three_length = length-set two (p 2) (x 2) ∙ two_length

  pub four_length : length (write_at p x list) ≡ length list
  four_length = length-set three (p 3) (x 3) ∙ three_length

  module _ (on : (j : ℕ) → j < 4 → p j < length list) where
    pub four_entry : (i : ℕ) → get_or (write_at p x list) i 0 ≡ put_four p x i (get_or list i 0)
    four_entry i =
        written three (p 3) (x 3) i (omega (arith, on 3 (omega arith), three_length))
        ∙ ap (cond (eqb i (p 3)) (x 3)) (written two (p 2) (x 2) i (omega (arith, on 2 (omega arith), two_length)))
        ∙ ap (λ (r : ℕ). cond (eqb i (p 3)) (x 3) (cond (eqb i (p 2)) (x 2) r))
        (written one (p 1) (x 1) i (omega (arith, on 1 (omega arith), one_length)))
        ∙ ap (λ (r : ℕ). cond (eqb i (p 3)) (x 3) (cond (eqb i (p 2)) (x 2) (cond (eqb i (p 1)) (x 1) r))) (written list (p 0) (x 0) i (on 0 (omega arith)))

    -- where none of the values is above the entry that it is written to, no entry rises
    pub four_low : ((j : ℕ) → j < 4 → x j ≤ get_or list (p j) 0) → (i : ℕ) → get_or (write_at p x list) i 0 ≤ get_or list i 0
    four_low low i = go (lane_or_none p i)
      where
        go : LaneOf p i ⊎ NoLane p i → get_or (write_at p x list) i 0 ≤ get_or list i 0
        go (inl n) = omega (arith, four_entry i, n.written x (get_or list i 0), low n.lane n.small, ap (λ (z : ℕ). get_or list z 0) n.same)
        go (inr n) = omega (arith, four_entry i, n.stays x (get_or list i 0))

-- numbers that are told apart alike
put_alike : (p q x : ℕ → ℕ) (i k old : ℕ) → ((j : ℕ) → j < 4 → eqb i (p j) ≡ eqb k (q j)) → put_four p x i old ≡ put_four q x k old
put_alike p q x i k old same =
    λ t.
    cond (same 3 (omega arith) t) (x 3)
    (cond (same 2 (omega arith) t) (x 2) (cond (same 1 (omega arith) t) (x 1) (cond (same 0 (omega arith) t) (x 0) old)))

-- two tests that pass together
eqb_alike : (a b c d : ℕ) → (a ≡ b → c ≡ d) → (c ≡ d → a ≡ b) → eqb a b ≡ eqb c d
eqb_alike a b c d there back = go (ℕ_discrete a b)
  where
    go : Dec (a ≡ b) → eqb a b ≡ eqb c d
    go (yes e) = eq-eqb a b e ∙ sym (eq-eqb c d (there e))
    go (no ne) = ne_eqb a b ne ∙ sym (ne_eqb c d (λ e. ne (back e)))

-- ---- four cells of node v, those of the sets w 0 to w 3

abbrev pub write_four : (size v : ℕ) → (w x : ℕ → ℕ) → List ℕ → List ℕ
write_four size v w x cells = write_at (λ j. v * size + w j) x cells

module _ (size v : ℕ) (w x : ℕ → ℕ) (cells : List ℕ) (small : (j : ℕ) → j < 4 → w j < size) (on : (j : ℕ) → j < 4 → v * size + w j < length cells) where
  pub four_node : (y : ℕ) → y < size → cell_in (write_four size v w x cells) size v y ≡ put_four w x y (cell_in cells size v y)
  four_node y ly =
      four_entry (λ j. v * size + w j) x cells on (v * size + y)
      ∙ put_alike (λ j. v * size + w j) w x (v * size + y) y (cell_in cells size v y)
      (λ j s. eqb_alike (v * size + y) (v * size + w j) y (w j) (λ e. omega arith) (λ e. omega arith))

  pub four_other : (u y : ℕ) → y < size → u ≢ v → cell_in (write_four size v w x cells) size u y ≡ cell_in cells size u y
  four_other u y ly ne = four_entry (λ j. v * size + w j) x cells on (u * size + y) ∙ go (lane_or_none (λ j. v * size + w j) (u * size + y))
    where
      go : LaneOf (λ j. v * size + w j) (u * size + y) ⊎ NoLane (λ j. v * size + w j) (u * size + y)
          → put_four (λ j. v * size + w j) x (u * size + y) (cell_in cells size u y) ≡ cell_in cells size u y
      go (inl n) = absurd (ne (place_node size u v y (w n.lane) ly (small n.lane n.small) (sym n.same)))
      go (inr n) = n.stays x (cell_in cells size u y)

-- ---- the cells of the nodes r 0 to r 3 and the set w

abbrev pub write_rows : (size : ℕ) → (r : ℕ → ℕ) → (w : ℕ) → (x : ℕ → ℕ) → List ℕ → List ℕ
write_rows size r w x cells = write_at (λ j. r j * size + w) x cells

module _ (size : ℕ) (r : ℕ → ℕ) (w : ℕ) (x : ℕ → ℕ) (cells : List ℕ) (small : w < size) (on : (j : ℕ) → j < 4 → r j * size + w < length cells) where
  pub rows_set : (u : ℕ) → cell_in (write_rows size r w x cells) size u w ≡ put_four r x u (cell_in cells size u w)
  rows_set u =
      four_entry (λ j. r j * size + w) x cells on (u * size + w)
      ∙ put_alike (λ j. r j * size + w) r x (u * size + w) u (cell_in cells size u w)
      (λ j s.
      eqb_alike (u * size + w) (r j * size + w) u (r j) (place_node size u (r j) w w small small) (λ e. ap (λ (z : ℕ). z * size + w) e))

  pub rows_others : (u y : ℕ) → y < size → y ≢ w → cell_in (write_rows size r w x cells) size u y ≡ cell_in cells size u y
  rows_others u y ly ne = four_entry (λ j. r j * size + w) x cells on (u * size + y) ∙ go (lane_or_none (λ j. r j * size + w) (u * size + y))
    where
      go : LaneOf (λ j. r j * size + w) (u * size + y) ⊎ NoLane (λ j. r j * size + w) (u * size + y)
          → put_four (λ j. r j * size + w) x (u * size + y) (cell_in cells size u y) ≡ cell_in cells size u y
      go (inl n) = absurd (ne (place_set size u (r n.lane) y w ly small (sym n.same)))
      go (inr n) = n.stays x (cell_in cells size u y)
