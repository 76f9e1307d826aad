-- The bytes of the head, of a record and of the end: what is read from them, and what they are where something was read.
-- Assumes nothing.
use Rattle.std.specs.Prelude.{ℕ, ◌+◌, ◌≤◌, ◌<◌, ◌^◌, ◌≡◌, refl, cond, List, [], ◌∷◌, ◌++◌, length, drop, ltb, Ok, Some, None}
use Rattle.std.proofs.Common.{ap, ◌∙◌, arith, drop_of_length-le, length-drop, drop-drop, le-ltb, eq-eqb, ne_eqb}
use Rattle.std.proofs.lemmas.Bool.{lt-leb}
use Rattle.limits.specs.Limits.{min_nodes, max_nodes, min_terminals, max_terminals, max_arcs, min_weight, max_weight}
use Rattle.limits.specs.Marks.{mark_hd, mark_lk, mark_bk, mark_st, mark_sr, mark_ed}
use Rattle.lists.specs.Every.{every_drop}
use Rattle.subset.specs.Sets.{full}
use Rattle.number_fields.specs.Fields.{Bytes, bytes16, bytes32}
use Rattle.number_fields.specs.laws.FieldLaws.{number16_bytes, number32_bytes, field8, field16, field32}
use Rattle.records.specs.Records.{LinkOk, RecordOk, link_fields, head_bytes, record_bytes, end_bytes, head_size, size}
use Rattle.records.specs.Arcs.{arcs_of}
use Rattle.record_tests.specs.Tests.{link_tests, one_way_found, both_ways_found, landing_found, sender_found}
use Rattle.record_tests.proofs.laws.Passed.{LinkRead, ReadFrom, EndOk}
use Rattle.reading.specs.Steps.{found_in}
use Rattle.sheet.specs.Verdict.{state_after, head_found, opening_of}
use Rattle.sheet.specs.laws.Opened.{OpenedOk}
use Rattle.records.specs.declared.fields.Link.{Link}
use Rattle.records.specs.declared.fields.Landing.{Landing as LandingAt}
use Rattle.records.specs.declared.record.Record.{Record}
use Rattle.records.specs.declared.record.Record.TheVariants.{OneWay, BothWays, Landing, Sender}
use Rattle.reading.specs.declared.Reading.{Reading}

-- ---- what was read, in bytes

module _ (s : List ℕ) (bytes : Bytes s) where
  -- the entries after the mark are bytes, and long enough
  after_mark : Bytes (drop 2 s)
  after_mark = every_drop (λ (b : ℕ). b < 256) 2 s bytes

  long : (m : ℕ) → 2 + m ≤ length s → m ≤ length (drop 2 s)
  long m h = omega (arith, length-drop 2 s)

  -- the bytes of a link stand where it was read
  link_bytes : (mark start end weight : ℕ) → 10 ≤ length s → LinkRead s mark start end weight
      → s ≡ bytes16 mark ++ bytes16 start ++ bytes16 end ++ bytes32 weight ++ drop 10 s
  link_bytes mark start end weight h read =
      field16 s bytes 0 mark (omega arith) read.mark_is
      ∙ ap (λ (l : List ℕ). bytes16 mark ++ l)
      (field16 (drop 2 s) after_mark 0 start (long 2 (omega arith)) read.start_is
      ∙ ap (λ (l : List ℕ). bytes16 start ++ l)
      (field16 (drop 2 s) after_mark 2 end (long 4 (omega arith)) read.end_is
      ∙ ap (λ (l : List ℕ). bytes16 end ++ l)
      (field32 (drop 2 s) after_mark 4 weight (long 8 (omega arith)) read.weight_is
      ∙ ap (λ (l : List ℕ). bytes32 weight ++ l) (drop-drop 8 2 s))))

  -- the bytes of any record do
  pub read_bytes : (x : Record) → size x ≤ length s → ReadFrom s x → s ≡ record_bytes x ++ drop (size x) s
  read_bytes (OneWay start end weight) h read = link_bytes mark_lk start end weight h read
  read_bytes (BothWays start end weight) h read = link_bytes mark_bk start end weight h read
  read_bytes (Landing terminal node) h read =
      field16 s bytes 0 mark_st (omega arith) read.mark_is
      ∙ ap (λ (l : List ℕ). bytes16 mark_st ++ l)
      (field8 (drop 2 s) 0 terminal (long 1 (omega arith)) read.terminal_is
      ∙ ap (λ (l : List ℕ). terminal ∷ l)
      (field16 (drop 2 s) after_mark 1 node (long 3 (omega arith)) read.node_is
      ∙ ap (λ (l : List ℕ). bytes16 node ++ l) (drop-drop 3 2 s)))
  read_bytes (Sender node) h read =
      field16 s bytes 0 mark_sr (omega arith) read.mark_is
      ∙ ap (λ (l : List ℕ). bytes16 mark_sr ++ l)
      (field16 (drop 2 s) after_mark 0 node (long 2 (omega arith)) read.node_is
      ∙ ap (λ (l : List ℕ). bytes16 node ++ l) (drop-drop 2 2 s))

  -- and so do the bytes of the end and of the head
  pub end_bytes_lem : (k heard : ℕ) → EndOk k heard s → s ≡ end_bytes
  end_bytes_lem k heard end =
      field16 s bytes 0 mark_ed (omega arith) end.mark_is ∙ ap (λ (l : List ℕ). bytes16 mark_ed ++ l) (drop_of_length-le s {i = 2} (omega arith))

  pub head_bytes_lem : (r : Reading) → OpenedOk s r → s ≡ head_bytes r.n r.k ++ drop head_size s
  head_bytes_lem r head =
      field16 s bytes 0 mark_hd (omega arith) head.mark_is
      ∙ ap (λ (l : List ℕ). bytes16 mark_hd ++ l)
      (field16 (drop 2 s) after_mark 0 r.n (long 2 (omega arith)) head.n_is
      ∙ ap (λ (l : List ℕ). bytes16 r.n ++ l)
      (field8 (drop 2 s) 2 r.k (long 3 (omega arith)) head.k_is
      ∙ ap (λ (l : List ℕ). r.k ∷ l) (drop-drop 3 2 s)))

-- ---- what is read from bytes

-- a test of length that is passed
passed : {A : Type 0} (m n : ℕ) (x y : A) → n ≤ m → cond (ltb m n) x y ≡ y
passed m n x y h = rw (le-ltb m n h)

-- the fields of a link are read from their bytes
link_read : (start end weight : ℕ) (rest : List ℕ) → start < 2 ^ 16 → end < 2 ^ 16 → weight < 2 ^ 32
    → link_fields (bytes16 start ++ bytes16 end ++ bytes32 weight ++ rest) ≡ Some (record { start = start; end = end; weight = weight })
link_read start end weight rest a b c =
    passed (length (bytes16 start ++ bytes16 end ++ bytes32 weight ++ rest)) 8 _ _ (omega arith)
    ∙ λ i. Some (record {
      start = number16_bytes start (bytes16 end ++ bytes32 weight ++ rest) a i;
      end = number16_bytes end (bytes32 weight ++ rest) b i;
      weight = number32_bytes weight rest c i;
    })

-- a link that passes its tests is found
link_passes : (at n legs start end weight : ℕ) (x : Record) → LinkOk n start end weight → legs + length (arcs_of x) ≤ max_arcs
    → link_tests at n legs start end weight x ≡ Ok (Some x)
link_passes at n legs start end weight x ok few =
    simp (
      lt-leb n start ok.start_below,
      lt-leb n end ok.end_below,
      ne_eqb start end ok.apart,
      le-ltb weight min_weight ok.low,
      le-ltb max_weight weight ok.high,
      le-ltb max_arcs (legs + length (arcs_of x)) few,
    )

-- a record that passes its tests is read from its bytes, whatever follows
pub found_bytes : (r : Reading) (x : Record) (rest : List ℕ) → RecordOk r.n r.k x → r.n ≤ max_nodes → r.arcs + length (arcs_of x) ≤ max_arcs
    → found_in r (record_bytes x ++ rest) ≡ Ok (Some x)
found_bytes r (OneWay start end weight) rest ok small few =
    passed (length (record_bytes (OneWay start end weight) ++ rest)) 2 _ _ (omega arith)
    ∙ ap (one_way_found r.offset r.n r.arcs) (link_read start end weight rest (omega arith) (omega arith) (omega arith))
    ∙ link_passes r.offset r.n r.arcs start end weight (OneWay start end weight) ok few
found_bytes r (BothWays start end weight) rest ok small few =
    passed (length (record_bytes (BothWays start end weight) ++ rest)) 2 _ _ (omega arith)
    ∙ ap (both_ways_found r.offset r.n r.arcs) (link_read start end weight rest (omega arith) (omega arith) (omega arith))
    ∙ link_passes r.offset r.n r.arcs start end weight (BothWays start end weight) ok few
found_bytes r (Landing terminal node) rest ok small few =
    passed (length (record_bytes (Landing terminal node) ++ rest)) 2 _ _ (omega arith)
    ∙ ap (landing_found r.offset r.n r.k)
    (passed (length ((terminal ∷ []) ++ bytes16 node ++ rest)) 3 _ _ (omega arith)
    ∙ ap (λ (v : ℕ). Some (record { terminal = terminal; node = v })) (number16_bytes node rest (omega arith)))
    ∙ simp (lt-leb r.k terminal ok.0, lt-leb r.n node ok.1)
found_bytes r (Sender node) rest ok small few =
    passed (length (record_bytes (Sender node) ++ rest)) 2 _ _ (omega arith)
    ∙ ap (sender_found r.offset r.n) (passed (length (bytes16 node ++ rest)) 2 _ _ (omega arith) ∙ ap (λ (v : ℕ). Some v) (number16_bytes node rest (omega arith)))
    ∙ simp (lt-leb r.n node ok)

-- the end is read from its bytes where every station has a landing
pub found_end_bytes : (r : Reading) → r.heard.0 ≡ full r.k → found_in r end_bytes ≡ Ok None
found_end_bytes r e = simp (eq-eqb r.heard.0 (full r.k) e)

-- a head in range is read from its bytes, whatever follows
pub opening_bytes : (n k : ℕ) (rest : List ℕ) → (min_nodes ≤ n) × (n ≤ max_nodes) → (min_terminals ≤ k) × (k ≤ max_terminals)
    → opening_of (head_bytes n k ++ rest) ≡ Ok (state_after n k [])
opening_bytes n k rest nodes terminals =
    passed (length (head_bytes n k ++ rest)) 2 _ _ (omega arith)
    ∙ ap head_found
    (passed (length (bytes16 n ++ (k ∷ []) ++ rest)) 3 _ _ (omega arith)
    ∙ ap (λ (m : ℕ). Some (record { n = m; k = k })) (number16_bytes n ((k ∷ []) ++ rest) (omega arith)))
    ∙ simp (le-ltb n min_nodes nodes.0, le-ltb max_nodes n nodes.1, le-ltb k min_terminals terminals.0, le-ltb max_terminals k terminals.1)

-- and the rest of the bytes is what follows
pub drop_record : (x : Record) (rest : List ℕ) → drop (size x) (record_bytes x ++ rest) ≡ rest
drop_record (OneWay start end weight) rest = refl
drop_record (BothWays start end weight) rest = refl
drop_record (Landing terminal node) rest = refl
drop_record (Sender node) rest = refl
