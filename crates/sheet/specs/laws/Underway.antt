-- A reading underway: the state is that after the head and some records, and the bytes that are left decide the verdict.
-- Assumes nothing.
use Rattle.std.specs.Prelude.{ℕ, ◌+◌, ◌-◌, ◌≤◌, ◌<◌, ◌≡◌, refl, List, [], ◌∷◌, ◌++◌, length, Ok, Err, Some, None}
use Rattle.std.proofs.Math.Path.{sym, ap}
use Rattle.std.proofs.Common.{◌∙◌, subst, arith, drop-drop}
use Rattle.std.proofs.Math.ListN.{drop, length-drop}
use Rattle.limits.specs.Limits.{max_terminals, max_arcs}
use Rattle.answer.specs.declared.SheetFault.{SheetFault}
use Rattle.records.specs.Records.{sizes, head_size, size}
use Rattle.records.specs.Arcs.{arcs}
use Rattle.records.proofs.laws.Appended.{size_low}
use Rattle.reading.specs.Steps.{after, found_in, Step, step_after, step_of}
use Rattle.reading.specs.laws.Found.{found_item}
use Rattle.sheet.specs.Verdict.{good, bad, state_after, opening_of, reading, after_head, verdict}
use Rattle.sheet.specs.laws.Opened.{opening_opened}
use Rattle.sheet.specs.laws.Reads.{state_more, reading_item, reading_end, reading_fault}
use Rattle.records.specs.declared.record.Record.{Record}
use Rattle.reading.specs.declared.Reading.{Reading}
use Rattle.record_tests.specs.Tests.{Found}

pub record Underway (s : List ℕ) (r : Reading) : Type 0 where
  pub n : ℕ
  pub k : ℕ
  pub records : List Record
  pub state : r ≡ state_after n k records
  pub terminals : k ≤ max_terminals
  pub few : length (arcs records) ≤ max_arcs
  pub within : head_size + sizes records ≤ length s
  pub same : verdict s ≡ reading n k records (drop (head_size + sizes records) s)

-- what the next step asks
pub ready : (s : List ℕ) (r : Reading) → Underway s r → (r.arcs ≤ max_arcs) × (r.k ≤ max_terminals) × (r.offset ≤ length s)
ready s r u =
    subst (λ (q : Reading). (q.arcs ≤ max_arcs) × (q.k ≤ max_terminals) × (q.offset ≤ length s)) (sym u.state) (u.few, u.terminals, u.within)

-- the state after the head
pub underway_opened : (s : List ℕ) (r : Reading) → opening_of s ≡ Ok r → Underway s r
unfolding verdict
underway_opened s r e =
    let o = opening_opened s r e in
    record {
      n = r.n;
      k = r.k;
      records = [];
      state = o.state;
      terminals = o.terminals.1;
      few = omega arith;
      within = o.whole;
      same = ap (after_head s) e;
    }

-- a sheet whose head is refused
pub not_opened : (s : List ℕ) (f : SheetFault) → opening_of s ≡ Err f → verdict s ≡ bad f
unfolding verdict
not_opened s f e = ap (after_head s) e

-- what a step has found
step_next : (r : Reading) (f : Found) (q : Reading) → step_after r f ≡ Ok (Some q) → (x : Record) × (f ≡ Ok (Some x)) × (q ≡ after r x)
step_next r (Ok (Some y)) q e = (y, refl, cc)
step_next r (Ok None) q e = let z : ◌≡◌ {A = ℕ} 0 1 = cc in absurd (omega arith)
step_next r (Err g) q e = let z : ◌≡◌ {A = ℕ} 0 1 = cc in absurd (omega arith)

step_end : (r : Reading) (f : Found) → step_after r f ≡ Ok None → f ≡ Ok None
step_end r (Ok (Some y)) e = cc
step_end r (Ok None) e = refl
step_end r (Err g) e = cc

step_fault : (r : Reading) (f : Found) (g : SheetFault) → step_after r f ≡ Err g → f ≡ Err g
step_fault r (Ok (Some y)) g e = cc
step_fault r (Ok None) g e = cc
step_fault r (Err h) g e = cc

module _ (s : List ℕ) (r : Reading) (u : Underway s r) where
  at : Reading
  at = state_after u.n u.k u.records

  left : List ℕ
  left = drop (head_size + sizes u.records) s

  step_here : (p : Step) → step_of r s ≡ p → step_after at (found_in at left) ≡ p
  unfolding at left
  step_here p e = ap (λ (q : Reading). step_of q s) (sym u.state) ∙ e

  -- a step that goes on: its record passes its tests, and the state is that after it
  record Stepped (q : Reading) : Type 0 where
    pub item : Record
    pub state : q ≡ state_after u.n u.k (u.records ++ (item ∷ []))
    pub few : length (arcs (u.records ++ (item ∷ []))) ≤ max_arcs
    pub within : head_size + sizes (u.records ++ (item ∷ [])) ≤ length s
    pub same : verdict s ≡ reading u.n u.k (u.records ++ (item ∷ [])) (drop (head_size + sizes (u.records ++ (item ∷ []))) s)

  stepped : (q : Reading) → step_of r s ≡ Ok (Some q) → Stepped q
  unfolding at left
  stepped q e =
      let (x, found, next) = step_next at (found_in at left) q (step_here (Ok (Some q)) e) in
      let p = found_item at left x found in
      let m = state_more u.n u.k u.records x in
      let o = ap (λ (z : Reading). z.offset) m in
      let a = ap (λ (z : Reading). z.arcs) m in
      record {
        item = x;
        state = next ∙ sym m;
        few = omega (arith, a, p.few u.few);
        within = omega (arith, o, p.whole, length-drop (head_size + sizes u.records) s, u.within);
        same =
            u.same ∙ reading_item u.n u.k u.records left x found
            ∙ ap (reading u.n u.k (u.records ++ (x ∷ []))) (drop-drop (size x) (head_size + sizes u.records) s ∙ ap (λ (z : ℕ). drop z s) (sym o));
      }

  pub underway_next : (q : Reading) → step_of r s ≡ Ok (Some q) → Underway s q
  underway_next q e =
      let w = stepped q e in
      record {
        n = u.n;
        k = u.k;
        records = u.records ++ (w.item ∷ []);
        state = w.state;
        terminals = u.terminals;
        few = w.few;
        within = w.within;
        same = w.same;
      }

  -- what is left falls
  pub falls : (q : Reading) → step_of r s ≡ Ok (Some q) → length s - q.offset < length s - r.offset
  falls q e =
      let w = stepped q e in
      let o = ap (λ (z : Reading). z.offset) (state_more u.n u.k u.records w.item) in
      let a = ap (λ (z : Reading). z.offset) u.state in
      let b = ap (λ (z : Reading). z.offset) w.state in
      omega (arith, w.within, o, a, b, size_low w.item)

  -- the end of the reading
  pub ended : step_of r s ≡ Ok None → verdict s ≡ good u.n u.k u.records
  unfolding at left
  ended e = u.same ∙ reading_end u.n u.k u.records left (step_end at (found_in at left) (step_here (Ok None) e))

  pub stopped : (f : SheetFault) → step_of r s ≡ Err f → verdict s ≡ bad f
  unfolding at left
  stopped f e = u.same ∙ reading_fault u.n u.k u.records left f (step_fault at (found_in at left) f (step_here (Err f) e))
