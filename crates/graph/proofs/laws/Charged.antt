-- The cells of a closed table, in which the empty set, too, costs the charge of the node: a landing, an arc and a split then give no less
-- than the cell, also where a set is empty; and terminals that have a landing at a node cost there together no more than its charge.
-- Assumes nothing.
use Rattle.std.specs.Prelude.{ℕ, zero, suc, ◌+◌, ◌^◌, ◌≤◌, ◌<◌, ◌≡◌, refl, ◌≢◌, Bool, true, false, not, ◌&&◌, ◌||◌, cond, T, eqb, ltb}
use Rattle.std.proofs.Common.{sym, ap, ◌∙◌, subst, arith, le_of_eq, lt_irrefl, ltb→lt, lt→ltb}
use Rattle.std.proofs.Math.Bool.{and-false, and-true, and-or_distrib_left}
use Rattle.std.proofs.Math.Decide.{ℕ_discrete}
use Rattle.std.specs.Int.Bits.{bit_and}
use Rattle.std.proofs.Math.Dec.{leb-suc-zero}
use Rattle.lists.specs.Tests.{by_fact, by_eq, ne_fact, fact_true, and_right, and_not, ltb_suc}
use Rattle.subset.specs.Sets.{single}
use Rattle.subset.specs.SetOf.{set_of, set_of_lt, set_of_same, set_of_none, set_of_single, set_of_union, set_of_apart}
use Rattle.graph.specs.Graph.{Graph, Landing}
use Rattle.graph.specs.ClosedSupported.{Closed}
use Rattle.graph.proofs.laws.ClosedTables.{closed_landing, closed_arc, closed_split}

-- the cell of v and w; the empty set, too, costs the charge of v
abbrev pub charged : Graph → (ℕ → ℕ → ℕ) → ℕ → ℕ → ℕ
charged G c v w = cond (eqb w 0) (G.charge v) (c v w)

-- the set of the terminals that pass a test
abbrev pub passing : Graph → (ℕ → Bool) → ℕ
passing G test = set_of G.terminals test

module _ (G : Graph) (c : ℕ → ℕ → ℕ) (C : Closed G c) where
  charged_none : (v w : ℕ) → w ≡ 0 → charged G c v w ≡ G.charge v
  charged_none v w e = rw e

  charged_cell : (v w : ℕ) → w ≢ 0 → charged G c v w ≡ c v w
  charged_cell v w n = by_eq w 0 (λ t. cond t (G.charge v) (c v w) ≡ c v w) (λ e. absurd (n e)) (λ _. refl)

  -- an arc gives no less than the cell of its start
  pub charged_arc : (e w : ℕ) → e < G.arcs → w < 2 ^ G.terminals
      → charged G c (G.start e) w ≤ G.weight e + G.charge (G.start e) + charged G c (G.end e) w
  charged_arc e w l b =
      let u : ℕ = G.start e in
      let v : ℕ = G.end e in
      by_eq w 0 (λ t. cond t (G.charge u) (c u w) ≤ G.weight e + G.charge u + cond t (G.charge v) (c v w)) (λ _. omega arith) (λ n. closed_arc C e w l n b)

  -- a split gives no less than the cell; either part may be empty
  charged_split : (v y z : ℕ) → v < G.nodes → bit_and y z ≡ 0 → y + z < 2 ^ G.terminals
      → charged G c v (y + z) + G.charge v ≤ charged G c v y + charged G c v z
  charged_split v y z l d b = go (ℕ_discrete y 0) (ℕ_discrete z 0)
    where
      go : Dec (y ≡ 0) → Dec (z ≡ 0) → charged G c v (y + z) + G.charge v ≤ charged G c v y + charged G c v z
      go (yes p) q = omega (arith, ap (charged G c v) (let e : y + z ≡ z = omega arith in e), charged_none v y p)
      go (no p) (yes q) = omega (arith, ap (charged G c v) (let e : y + z ≡ y = omega arith in e), charged_none v z q)
      go (no p) (no q) = omega (arith, charged_cell v (y + z) (omega arith), charged_cell v y p, charged_cell v z q, closed_split C v y z l p q d b)

  -- the same of the sets of the terminals that pass two tests, of which no terminal passes both
  pub charged_union : (v : ℕ) (f g : ℕ → Bool) → v < G.nodes → ((i : ℕ) → i < G.terminals → T (f i) → T (not (g i)))
      → charged G c v (passing G (λ i. f i || g i)) + G.charge v ≤ charged G c v (passing G f) + charged G c v (passing G g)
  charged_union v f g l apart =
      let sum : passing G (λ i. f i || g i) ≡ passing G f + passing G g = set_of_union G.terminals f g apart in
      rw sum (charged_split v (passing G f) (passing G g) l (set_of_apart G.terminals f g apart)
      (subst (λ (x : ℕ). x < 2 ^ G.terminals) sum (set_of_lt G.terminals (λ i. f i || g i))))

  -- a landing gives no less than the cell
  charged_landing : (v i : ℕ) → v < G.nodes → i < G.terminals → Landing G i v → charged G c v (single i) ≤ G.charge v
  charged_landing v i l h t = by_eq (single i) 0 (λ b. cond b (G.charge v) (c v (single i)) ≤ G.charge v) (λ _. omega arith) (λ _. closed_landing C v i l h t)

-- ---- terminals that have a landing at v: those that pass f

module _ (G : Graph) (c : ℕ → ℕ → ℕ) (C : Closed G c) (v : ℕ) (on : v < G.nodes) (f : ℕ → Bool)
    (lands : (i : ℕ) → i < G.terminals → T (f i) → Landing G i v) where
  -- terminal j, where it passes f, costs no more than the charge of v
  landed_one : (j : ℕ) → j < G.terminals → charged G c v (passing G (λ i. f i && eqb i j)) ≤ G.charge v
  landed_one j l =
      let same : passing G (λ i. f i && eqb i j) ≡ passing G (λ i. f j && eqb i j) =
      set_of_same G.terminals (λ i. f i && eqb i j) (λ i. f j && eqb i j)
      (λ i _. by_eq i j (λ b. (f i && b) ≡ (f j && b)) (λ e. ap (λ (x : ℕ). f x && true) e) (λ _. and-false (f i) ∙ sym (and-false (f j)))) in
      rw same (by_fact (f j) (λ b. charged G c v (passing G (λ i. b && eqb i j)) ≤ G.charge v)
      (λ t. rw (set_of_single G.terminals j l) (charged_landing G c C v j on l (lands j l t)))
      (λ _. le_of_eq (charged_none G c C v (passing G (λ i. false)) (set_of_none G.terminals))))

  -- and so do those below j together
  landed_below : (j : ℕ) → j ≤ G.terminals → charged G c v (passing G (λ i. f i && ltb i j)) ≤ G.charge v
  landed_below zero l =
      let none_below : (i : ℕ) → (f i && ltb i 0) ≡ false = λ i. ap (λ (b : Bool). f i && b) (leb-suc-zero i) ∙ and-false (f i) in
      let empty : passing G (λ i. f i && ltb i 0) ≡ 0 =
      set_of_same G.terminals (λ i. f i && ltb i 0) (λ i. false) (λ i _. none_below i) ∙ set_of_none G.terminals in
      le_of_eq (charged_none G c C v (passing G (λ i. f i && ltb i 0)) empty)
  landed_below (suc j) l =
      let below : ℕ → Bool = λ i. f i && ltb i j in
      let last : ℕ → Bool = λ i. f i && eqb i j in
      let same : passing G (λ i. f i && ltb i (suc j)) ≡ passing G (λ i. below i || last i) =
      set_of_same G.terminals (λ i. f i && ltb i (suc j)) (λ i. below i || last i)
      (λ i _. ap (λ (b : Bool). f i && b) (ltb_suc i j) ∙ and-or_distrib_left (f i) (ltb i j) (eqb i j)) in
      let apart : (i : ℕ) → i < G.terminals → T (below i) → T (not (last i)) =
      λ i _ t. and_not (f i) (eqb i j) (ne_fact (λ q. lt_irrefl j (subst (λ (x : ℕ). x < j) q (ltb→lt i j (and_right (f i) (ltb i j) t))))) in
      omega (arith, ap (charged G c v) same, charged_union G c C v below last on apart, landed_below j (omega arith), landed_one j l)

  -- so all of them
  pub landed_all : charged G c v (passing G f) ≤ G.charge v
  landed_all =
      let within : ℕ → Bool = λ i. f i && ltb i G.terminals in
      let same : passing G f ≡ passing G within =
      set_of_same G.terminals f within
      (λ i l. sym (and-true (f i)) ∙ ap (λ (b : Bool). f i && b) (sym (fact_true (lt→ltb i G.terminals l)))) in
      rw same (landed_below G.terminals (omega arith))
