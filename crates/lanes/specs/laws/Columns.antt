-- Four columns of a table, those of four sets, as a table of their own with four cells for each node: taken from the table, and given back.
-- Assumes nothing.
use Rattle.std.specs.Prelude.{ℕ, ◌+◌, ◌-◌, ◌*◌, ◌≤◌, ◌<◌, ◌≡◌, refl, ◌⊎◌, List, length}
use Rattle.std.proofs.Common.{sym, ap, ◌∙◌, subst, inl, inr, arith}
use Rattle.std.proofs.Math.Decide.{ℕ_discrete}
use Rattle.cost_table.specs.Cells.{cell_in}
use Rattle.cost_table.proofs.laws.Rows.{row_fits}
use Rattle.lanes.specs.declared.Four.{Four}
use Rattle.lanes.specs.laws.Four.{nth, four_of, below_four}
use Rattle.lanes.specs.laws.WriteFour.{write_four, put_four, four_length, four_node, four_other}

-- ---- taken

-- four values with the number v
abbrev pub four_by : (ℕ → ℕ → ℕ) → ℕ → Four ℕ
four_by x v = record { a = x v 0; b = x v 1; c = x v 2; d = x v 3 }

-- the first v times four entries are x 0 0 to x 0 3, and so on
pub record Taken (x : ℕ → ℕ → ℕ) (v : ℕ) (before after : List ℕ) : Type 0 where
  pub same_length : length after ≡ length before
  pub taken : (u j : ℕ) → u < v → j < 4 → cell_in after 4 u j ≡ x u j

-- the first v nodes have the cells of the sets w 0 to w 3
abbrev pub ColumnsTaken : (size : ℕ) → (w : ℕ → ℕ) → (cells : List ℕ) → (v : ℕ) → (before after : List ℕ) → Type 0
ColumnsTaken size w cells v before after = Taken (λ u j. cell_in cells size u (w j)) v before after

module _ {x : ℕ → ℕ → ℕ} {before : List ℕ} where
  pub take_none : Taken x 0 before before
  take_none = record { same_length = refl; taken = λ u j l s. absurd (omega arith) }

  take_more : {v : ℕ} {mid : List ℕ} → v * 4 + 3 < length mid → Taken x v before mid → Taken x (v + 1) before (write_four 4 v (λ j. j) (x v) mid)
  take_more {v} {mid} on T = record {
    same_length = four_length (λ j. v * 4 + j) (x v) mid ∙ T.same_length;
    taken = λ u j l s. at u j l s (ℕ_discrete u v);
  }
    where
      fits : (i : ℕ) → i < 4 → v * 4 + i < length mid
      fits i l = omega arith

      here : (j : ℕ) → j < 4 → put_four (λ i. i) (x v) j (cell_in mid 4 v j) ≡ x v j
      here = below_four (λ j. put_four (λ i. i) (x v) j (cell_in mid 4 v j) ≡ x v j) refl refl refl refl

      at : (u j : ℕ) → u < v + 1 → j < 4 → Dec (u ≡ v) → cell_in (write_four 4 v (λ i. i) (x v) mid) 4 u j ≡ x u j
      at u j l s (yes e) =
          ap (λ (y : ℕ). cell_in (write_four 4 v (λ i. i) (x v) mid) 4 y j) e
          ∙ four_node 4 v (λ i. i) (x v) mid (λ i l. l) fits j s ∙ here j s ∙ ap (λ (y : ℕ). x y j) (sym e)
      at u j l s (no ne) = four_other 4 v (λ i. i) (x v) mid (λ i l. l) fits u j s ne ∙ T.taken u j (omega arith) s

  pub take_next : {v : ℕ} {f : Four ℕ} {mid after : List ℕ} → v * 4 + 3 < length mid → Taken x v before mid → f ≡ four_by x v
      → after ≡ write_four 4 v (λ j. j) (nth f) mid → Taken x (v + 1) before after
  take_next {v} {f} {mid} on T is new =
      subst (Taken x (v + 1) before) (sym (new ∙ ap (λ (g : Four ℕ). write_four 4 v (λ j. j) (nth g) mid) is)) (take_more on T)

-- ---- given back

-- the cells of the first v nodes have what the lanes have for these sets; the other cells stay
pub record ColumnsGiven (size : ℕ) (w : ℕ → ℕ) (lanes : List ℕ) (v : ℕ) (before after : List ℕ) : Type 0 where
  pub same_length : length after ≡ length before
  pub given : (u y : ℕ) → u < v → y < size → cell_in after size u y ≡ put_four w (cell_in lanes 4 u) y (cell_in before size u y)
  pub left : (u y : ℕ) → v ≤ u → y < size → cell_in after size u y ≡ cell_in before size u y

-- those of the nodes from v up to n, which are given from the last one on
pub record GivenFrom (size : ℕ) (w : ℕ → ℕ) (lanes : List ℕ) (n v : ℕ) (before after : List ℕ) : Type 0 where
  pub within : v ≤ n
  pub same_length : length after ≡ length before
  pub given : (u y : ℕ) → v ≤ u → u < n → y < size → cell_in after size u y ≡ put_four w (cell_in lanes 4 u) y (cell_in before size u y)
  pub left : (u y : ℕ) → (u < v) ⊎ (n ≤ u) → y < size → cell_in after size u y ≡ cell_in before size u y

module _ {size n : ℕ} {w : ℕ → ℕ} {lanes before : List ℕ} where
  pub give_none : GivenFrom size w lanes n n before before
  give_none = record { within = omega arith; same_length = refl; given = λ u y a l s. absurd (omega arith); left = λ u y out s. refl }

  give_more : {v : ℕ} {mid : List ℕ} → ((j : ℕ) → j < 4 → w j < size) → ((j : ℕ) → j < 4 → v * size + w j < length mid)
      → GivenFrom size w lanes n (v + 1) before mid → GivenFrom size w lanes n v before (write_four size v w (cell_in lanes 4 v) mid)
  give_more {v} {mid} small on G = record {
    within = omega (arith, G.within);
    same_length = four_length (λ j. v * size + w j) (cell_in lanes 4 v) mid ∙ G.same_length;
    given = λ u y a l s. at u y a l s (ℕ_discrete u v);
    left = λ u y out s. outside u y s out;
  }
    where
      outside : (u y : ℕ) → y < size → (u < v) ⊎ (n ≤ u) → cell_in (write_four size v w (cell_in lanes 4 v) mid) size u y ≡ cell_in before size u y
      outside u y s (inl l) = four_other size v w (cell_in lanes 4 v) mid small on u y s (λ e. omega arith) ∙ G.left u y (inl (omega arith)) s
      outside u y s (inr l) =
          four_other size v w (cell_in lanes 4 v) mid small on u y s (λ e. omega (arith, G.within)) ∙ G.left u y (inr l) s

      at : (u y : ℕ) → v ≤ u → u < n → y < size → Dec (u ≡ v)
          → cell_in (write_four size v w (cell_in lanes 4 v) mid) size u y ≡ put_four w (cell_in lanes 4 u) y (cell_in before size u y)
      at u y a l s (yes e) =
          ap (λ (z : ℕ). cell_in (write_four size v w (cell_in lanes 4 v) mid) size z y) e
          ∙ four_node size v w (cell_in lanes 4 v) mid small on y s
          ∙ ap (put_four w (cell_in lanes 4 v) y) (G.left v y (inl (omega arith)) s)
          ∙ ap (λ (z : ℕ). put_four w (cell_in lanes 4 z) y (cell_in before size z y)) (sym e)
      at u y a l s (no ne) = four_other size v w (cell_in lanes 4 v) mid small on u y s ne ∙ G.given u y (omega arith) l s

  pub give_next : {v : ℕ} {f : Four ℕ} {mid after : List ℕ} → ((j : ℕ) → j < 4 → w j < size) → 0 < v → n * size ≤ length before
      → GivenFrom size w lanes n v before mid → f ≡ four_of lanes (v - 1) → after ≡ write_four size (v - 1) w (nth f) mid
      → GivenFrom size w lanes n (v - 1) before after
  give_next {v} {f} {mid} small some long G is new =
      let back : v ≡ v - 1 + 1 = omega arith in
      subst (GivenFrom size w lanes n (v - 1) before) (sym (new ∙ ap (λ (g : Four ℕ). write_four size (v - 1) w (nth g) mid) is))
      (give_more small (λ j s. omega (arith, small j s, row_fits (v - 1) n size (omega (arith, G.within)), G.same_length))
      (subst (λ (x : ℕ). GivenFrom size w lanes n x before mid) back G))

  pub given_all : {v : ℕ} {after : List ℕ} → v ≡ 0 → GivenFrom size w lanes n v before after → ColumnsGiven size w lanes n before after
  given_all none G = record {
    same_length = G.same_length;
    given = λ u y l s. G.given u y (omega arith) l s;
    left = λ u y l s. G.left u y (inr l) s;
  }

-- all nodes
pub taken_all : {x : ℕ → ℕ → ℕ} {v n : ℕ} {before after : List ℕ} → v ≡ n → Taken x v before after → Taken x n before after
taken_all {x} {v} {n} {before} {after} e T = subst (λ (u : ℕ). Taken x u before after) e T
