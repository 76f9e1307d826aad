-- What is known of a record that is found, and of the end: which tests they pass, and which bytes they were read from.
-- Assumes nothing.
use Rattle.std.specs.Prelude.{ℕ, ◌+◌, ◌≤◌, ◌≡◌, refl, Bool, true, false, cond, Ok, Err, Option, Some, None, List, length, drop, ltb, leb, eqb}
use Rattle.std.proofs.Common.{arith, length-drop, ltb-false, leb-false, eqb-true}
use Rattle.std.proofs.lemmas.Bool.{eqb-false}
use Rattle.limits.specs.Limits.{max_arcs, min_weight, max_weight}
use Rattle.limits.specs.Marks.{mark_lk, mark_bk, mark_st, mark_sr, mark_ed}
use Rattle.lists.specs.Tests.{by_test}
use Rattle.answer.specs.declared.SheetFault.{SheetFault}
use Rattle.subset.specs.Sets.{full}
use Rattle.number_fields.specs.Fields.{number8, number16, number32}
use Rattle.records.specs.Records.{LinkOk, RecordOk, link_fields, landing_fields, sender_fields, size}
use Rattle.records.specs.Arcs.{arcs_of}
use Rattle.record_tests.specs.Tests.{Found, link_tests, one_way_found, both_ways_found, landing_found, sender_found, end_found}
use Rattle.records.specs.declared.fields.Link.{Link}
use Rattle.records.specs.declared.fields.Landing.{Landing as LandingAt}
use Rattle.records.specs.declared.record.Record.{Record}
use Rattle.records.specs.declared.record.Record.TheVariants.{OneWay, BothWays, Landing, Sender}

-- ---- the tests of a record

-- a record that is found passes its tests, has room among the legs, and is whole
pub record Passed (n k legs : ℕ) (bytes : List ℕ) (x : Record) : Type 0 where
  pub ok : RecordOk n k x
  pub few : legs ≤ max_arcs → legs + length (arcs_of x) ≤ max_arcs
  pub whole : size x ≤ length bytes

-- ---- the bytes of a record

-- the bytes start with a mark, and the fields of a link stand after it
pub record LinkRead (bytes : List ℕ) (mark start end weight : ℕ) : Type 0 where
  pub mark_is : number16 bytes 0 ≡ mark
  pub start_is : number16 (drop 2 bytes) 0 ≡ start
  pub end_is : number16 (drop 2 bytes) 2 ≡ end
  pub weight_is : number32 (drop 2 bytes) 4 ≡ weight

pub record LandingRead (bytes : List ℕ) (terminal node : ℕ) : Type 0 where
  pub mark_is : number16 bytes 0 ≡ mark_st
  pub terminal_is : number8 (drop 2 bytes) 0 ≡ terminal
  pub node_is : number16 (drop 2 bytes) 1 ≡ node

pub record SenderRead (bytes : List ℕ) (node : ℕ) : Type 0 where
  pub mark_is : number16 bytes 0 ≡ mark_sr
  pub node_is : number16 (drop 2 bytes) 0 ≡ node

-- the record is read from the start of the bytes
abbrev pub ReadFrom : List ℕ → Record → Type 0
ReadFrom bytes (OneWay start end weight) = LinkRead bytes mark_lk start end weight
ReadFrom bytes (BothWays start end weight) = LinkRead bytes mark_bk start end weight
ReadFrom bytes (Landing terminal node) = LandingRead bytes terminal node
ReadFrom bytes (Sender node) = SenderRead bytes node

-- the bytes are the end of the sheet, and every station has a landing
pub record EndOk (k heard : ℕ) (bytes : List ℕ) : Type 0 where
  pub last : length bytes ≡ 2
  pub mark_is : number16 bytes 0 ≡ mark_ed
  pub all_heard : heard ≡ full k

-- ---- what a test tells

-- what holds of both branches holds of the choice between them
pub cond_both : {A : Type 0} (P : A → Type 0) (b : Bool) (x y : A) → (b ≡ true → P x) → (b ≡ false → P y) → P (cond b x y)
cond_both P b x y f g = by_test b (λ t. P (cond t x y)) f g

-- the bytes after the mark are long enough
pub enough : (bytes : List ℕ) (m : ℕ) → ltb (length (drop 2 bytes)) m ≡ false → 2 ≤ length bytes → 2 + m ≤ length bytes
enough bytes m e h = omega (arith, ltb-false (length (drop 2 bytes)) m e, length-drop 2 bytes)

-- ---- a record that is found

-- what is known where this is found
unfoldable pub Known : (n k legs heard : ℕ) → List ℕ → Found → Type 0
Known n k legs heard bytes (Ok (Some x)) = Passed n k legs bytes x × ReadFrom bytes x
Known n k legs heard bytes (Ok None) = EndOk k heard bytes
Known n k legs heard bytes (Err f) = Unit {0}

module _ (at n k legs heard : ℕ) (bytes : List ℕ) where
  pub fault_known : (f : SheetFault) → Known n k legs heard bytes (Err f)
  unfolding Known
  fault_known f = tt

  end_known : EndOk k heard bytes → Known n k legs heard bytes (Ok None)
  unfolding Known
  end_known e = e

  item_known : (x : Record) → Passed n k legs bytes x → ReadFrom bytes x → Known n k legs heard bytes (Ok (Some x))
  unfolding Known
  item_known x p q = (p, q)

  -- a test whose failure is a refusal
  pub test : (b : Bool) (f : SheetFault) (y : Found) → (b ≡ false → Known n k legs heard bytes y) → Known n k legs heard bytes (cond b (Err f) y)
  test b f y g = cond_both (Known n k legs heard bytes) b (Err f) y (λ _. fault_known f) g

  link_known : (start end weight : ℕ) (x : Record)
      → (LinkOk n start end weight → legs + length (arcs_of x) ≤ max_arcs → Known n k legs heard bytes (Ok (Some x)))
      → Known n k legs heard bytes (link_tests at n legs start end weight x)
  link_known start end weight x h =
      test (leb n start) _ _ (λ t1.
      test (leb n end) _ _ (λ t2.
      test (eqb start end) _ _ (λ t3.
      test (ltb weight min_weight) _ _ (λ t4.
      test (ltb max_weight weight) _ _ (λ t5.
      test (ltb max_arcs (legs + length (arcs_of x))) _ _ (λ t6.
      h
      (record {
        start_below = leb-false n start t1;
        end_below = leb-false n end t2;
        apart = eqb-false start end t3;
        low = ltb-false weight min_weight t4;
        high = ltb-false max_weight weight t5;
      })
      (ltb-false max_arcs (legs + length (arcs_of x)) t6)))))))

  -- the fields of a link, whatever is made of them
  fields_known : (found : Option Link → Found) (mark : ℕ) → Known n k legs heard bytes (found None)
      → ((l : Link) → 10 ≤ length bytes → LinkRead bytes mark l.start l.end l.weight → Known n k legs heard bytes (found (Some l)))
      → 2 ≤ length bytes → number16 bytes 0 ≡ mark → Known n k legs heard bytes (found (link_fields (drop 2 bytes)))
  fields_known found mark none some two mark_is =
      cond_both (λ (f : Option Link). Known n k legs heard bytes (found f)) (ltb (length (drop 2 bytes)) 8) _ _
      (λ _. none)
      (λ e. some _ (enough bytes 8 e two) (record { mark_is = mark_is; start_is = refl; end_is = refl; weight_is = refl }))

  pub one_way_known : 2 ≤ length bytes → number16 bytes 0 ≡ mark_lk
      → Known n k legs heard bytes (one_way_found at n legs (link_fields (drop 2 bytes)))
  one_way_known =
      fields_known (one_way_found at n legs) mark_lk (fault_known _) (λ l whole read.
      let x : Record = OneWay l.start l.end l.weight in
      link_known l.start l.end l.weight x (λ ok few. item_known x (record { ok = ok; few = λ _. few; whole = whole }) read))

  pub both_ways_known : 2 ≤ length bytes → number16 bytes 0 ≡ mark_bk
      → Known n k legs heard bytes (both_ways_found at n legs (link_fields (drop 2 bytes)))
  both_ways_known =
      fields_known (both_ways_found at n legs) mark_bk (fault_known _) (λ l whole read.
      let x : Record = BothWays l.start l.end l.weight in
      link_known l.start l.end l.weight x (λ ok few. item_known x (record { ok = ok; few = λ _. few; whole = whole }) read))

  pub landing_known : 2 ≤ length bytes → number16 bytes 0 ≡ mark_st
      → Known n k legs heard bytes (landing_found at n k (landing_fields (drop 2 bytes)))
  landing_known two mark_is =
      let terminal = number8 (drop 2 bytes) 0 in
      let node = number16 (drop 2 bytes) 1 in
      let x : Record = Landing terminal node in
      cond_both (λ (f : Option LandingAt). Known n k legs heard bytes (landing_found at n k f)) (ltb (length (drop 2 bytes)) 3) _ _
      (λ _. fault_known _)
      (λ e.
      test (leb k terminal) _ _ (λ t1.
      test (leb n node) _ _ (λ t2.
      item_known x
      (record { ok = (leb-false k terminal t1, leb-false n node t2); few = λ h. omega arith; whole = enough bytes 3 e two })
      (record { mark_is = mark_is; terminal_is = refl; node_is = refl }))))

  pub sender_known : 2 ≤ length bytes → number16 bytes 0 ≡ mark_sr
      → Known n k legs heard bytes (sender_found at n (sender_fields (drop 2 bytes)))
  sender_known two mark_is =
      let node = number16 (drop 2 bytes) 0 in
      let x : Record = Sender node in
      cond_both (λ (f : Option ℕ). Known n k legs heard bytes (sender_found at n f)) (ltb (length (drop 2 bytes)) 2) _ _
      (λ _. fault_known _)
      (λ e.
      test (leb n node) _ _ (λ t.
      item_known x
      (record { ok = leb-false n node t; few = λ h. omega arith; whole = enough bytes 2 e two })
      (record { mark_is = mark_is; node_is = refl })))

  -- the end of the sheet
  pub mark_end_known : 2 ≤ length bytes → number16 bytes 0 ≡ mark_ed
      → Known n k legs heard bytes (end_found at k heard (length (drop 2 bytes)))
  mark_end_known two mark_is =
      test (ltb 0 (length (drop 2 bytes))) _ _ (λ t1.
      cond_both (Known n k legs heard bytes) (eqb heard (full k)) _ _
      (λ t2. end_known (record {
        last = omega (arith, ltb-false 0 (length (drop 2 bytes)) t1, length-drop 2 bytes);
        mark_is = mark_is;
        all_heard = eqb-true heard (full k) t2;
      }))
      (λ _. fault_known _))
