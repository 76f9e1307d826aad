-- Laws of the plan file's format: where a root, a total and a list of legs have a file, how long it is, and which fields are read from it;
-- and the bytes of the fields that are read from any byte string.
-- Assumes nothing.
use Rattle.std.specs.Prelude.{ℕ, zero, suc, ◌+◌, ◌*◌, ◌≤◌, ◌<◌, ◌^◌, ◌≡◌, refl, Bool, cond, List, [], ◌∷◌, ◌++◌, map, length, get_or, drop, T}
use Rattle.std.proofs.Common.{sym, ap, ap₂, ◌∙◌, append-nil, add-zero, zero-add, arith, length-append, ext_get_or, ltb→lt, lt→ltb}
use Rattle.std.proofs.Math.Option.{none, some}
use Rattle.std.proofs.Math.ListN.{get_or-append}
use Rattle.std.proofs.Math.Seq.{drop-append-add}
use Rattle.limits.specs.Marks.{mark_pn, mark_lg}
use Rattle.lists.specs.Tests.{fact_true, and_left, and_right, and_both, choice_some}
use Rattle.lists.specs.Every.{Every, every_append, every_at}
use Rattle.lists.specs.Listed.{every_listed, listed_every}
use Rattle.lists.specs.Find.{all_of, all_entries, entries_all}
use Rattle.lists.specs.Numbers.{numbers, length_values, get_d_values}
use Rattle.lists.specs.Joined.{joined, length_joined, drop_joined}
use Rattle.number_fields.specs.Fields.{Bytes, number16, bytes16, bytes32}
use Rattle.number_fields.specs.laws.FieldLaws.{number16_bytes, number16_drop, field16, field32}
use Rattle.planfile.specs.Format.{head_bytes, arc_bytes, file_bytes, two_bytes, four_bytes, fits, encoding}
use Rattle.planfile.specs.Format.{file_size, root_in, total_in, count_in, mark_at, listed_arc, arcs_to}
use Rattle.planfile.specs.laws.FormatLaws.{Fits}

-- ---- where there is a file

-- the tests say so
passed_two : (x : ℕ) → T (two_bytes x) → x < 2 ^ 16
passed_two x t = ltb→lt x (2 ^ 16) t

two_passed : (x : ℕ) → x < 2 ^ 16 → T (two_bytes x)
two_passed x h = lt→ltb x (2 ^ 16) h

passed_four : (x : ℕ) → T (four_bytes x) → x < 2 ^ 32
passed_four x t = ltb→lt x (2 ^ 32) t

four_passed : (x : ℕ) → x < 2 ^ 32 → T (four_bytes x)
four_passed x h = lt→ltb x (2 ^ 32) h

module _ (root total : ℕ) (arcs : List ℕ) where
  fits_passed : Fits root total arcs → T (fits root total arcs)
  fits_passed f =
      and_both (two_bytes root) _ (two_passed root f.root_fits)
      (and_both (four_bytes total) _ (four_passed total f.total_fits)
      (and_both (two_bytes (length arcs)) _ (two_passed (length arcs) f.count_fits)
      (entries_all two_bytes arcs (λ e i. two_passed e (every_listed (λ (x : ℕ). x < 2 ^ 16) arcs f.arcs_fit e i)))))

  pub passed_fits : T (fits root total arcs) → Fits root total arcs
  passed_fits t =
      let after_root = and_right (two_bytes root) _ t in
      let after_total = and_right (four_bytes total) _ after_root in
      let each = and_right (two_bytes (length arcs)) (all_of two_bytes arcs) after_total in
      record {
        root_fits = passed_two root (and_left (two_bytes root) _ t);
        total_fits = passed_four total (and_left (four_bytes total) _ after_root);
        count_fits = passed_two (length arcs) (and_left (two_bytes (length arcs)) _ after_total);
        arcs_fit = listed_every (λ (x : ℕ). x < 2 ^ 16) arcs (λ e i. passed_two e (all_entries two_bytes arcs each e i));
      }

  -- what fits has a file, and nothing else has one
  pub fits_encoding : Fits root total arcs → encoding root total arcs ≡ some (file_bytes root total arcs)
  fits_encoding f = ap (λ (b : Bool). cond b (some (file_bytes root total arcs)) none) (fact_true {b = fits root total arcs} (fits_passed f))

  pub encoding_fits : (file : List ℕ) → encoding root total arcs ≡ some file → Fits root total arcs × (file_bytes root total arcs ≡ file)
  encoding_fits file e = let (t, same) = choice_some (fits root total arcs) (file_bytes root total arcs) file e in (passed_fits t, same)

-- it is bytes
records_bytes_lem : (arcs : List ℕ) → Bytes (joined arc_bytes arcs)
records_bytes_lem [] = tt
records_bytes_lem (e ∷ arcs) =
    every_append (λ (b : ℕ). b < 256) (arc_bytes e) (joined arc_bytes arcs) (omega arith, (omega arith, (omega arith, (omega arith, tt)))) (records_bytes_lem arcs)

pub file_bytes_lem : (root total : ℕ) (arcs : List ℕ) → Bytes (file_bytes root total arcs)
file_bytes_lem root total arcs =
    every_append (λ (b : ℕ). b < 256) (head_bytes root total (length arcs)) (joined arc_bytes arcs)
    (omega arith, (omega arith, (omega arith, (omega arith, (omega arith, (omega arith, (omega arith, (omega arith, (omega arith, (omega arith, tt))))))))))
    (records_bytes_lem arcs)

-- ---- what is read from a file

module _ (root total : ℕ) (arcs : List ℕ) where
  abbrev file : List ℕ
  file = file_bytes root total arcs

  -- its length
  pub length_file : length file ≡ file_size (length arcs)
  length_file =
      length-append (head_bytes root total (length arcs)) (joined arc_bytes arcs) ∙ ap (λ (n : ℕ). 10 + n) (length_joined arc_bytes 4 (λ e. refl) arcs)

  -- record i stands where a file with i legs would end
  record_at : (i : ℕ) → i < length arcs → drop (file_size i) file ≡ arc_bytes (get_or arcs i 0) ++ joined arc_bytes (drop (suc i) arcs)
  record_at i h =
      drop-append-add (head_bytes root total (length arcs)) (joined arc_bytes arcs) (4 * i) ∙ drop_joined arc_bytes 4 (λ e. refl) arcs i 0 h

  -- its mark and its leg number
  pub mark_is : (i : ℕ) → i < length arcs → mark_at file i ≡ mark_lg
  mark_is i h =
      ap (number16 file) (sym (add-zero (file_size i))) ∙ sym (number16_drop (file_size i) 0 file) ∙ ap (λ (l : List ℕ). number16 l 0) (record_at i h)

  pub arc_is : (i : ℕ) → i < length arcs → get_or arcs i 0 < 2 ^ 16 → listed_arc file i ≡ get_or arcs i 0
  arc_is i h small =
      sym (number16_drop (file_size i) 2 file)
      ∙ ap (λ (l : List ℕ). number16 l 2) (record_at i h)
      ∙ number16_bytes (get_or arcs i 0) (joined arc_bytes (drop (suc i) arcs)) small

  -- the leg numbers of all records, where further bytes may follow the file
  pub arcs_read_first : Every (λ (e : ℕ). e < 2 ^ 16) arcs → (rest : List ℕ) → arcs_to (file ++ rest) (length arcs) ≡ arcs
  arcs_read_first small rest = ext_get_or 0 (arcs_to (file ++ rest) (length arcs)) arcs count (λ i l. at i (omega (arith, count)))
    where
      count : length (arcs_to (file ++ rest) (length arcs)) ≡ length arcs
      count = length_values (listed_arc (file ++ rest)) 0 (length arcs)

      byte : (i j : ℕ) → i < length arcs → j < file_size (suc i) → get_or (file ++ rest) j 0 ≡ get_or file j 0
      byte i j h l = get_or-append file rest 0 j (omega (arith, length_file))

      at : (i : ℕ) → i < length arcs → get_or (arcs_to (file ++ rest) (length arcs)) i 0 ≡ get_or arcs i 0
      at i h =
          get_d_values (listed_arc (file ++ rest)) 0 (length arcs) i 0 h
          ∙ ap (listed_arc (file ++ rest)) (zero-add i)
          ∙ ap₂ (λ (a b : ℕ). a * 256 + b) (byte i (file_size i + 2) h (omega arith)) (byte i (file_size i + 2 + 1) h (omega arith))
          ∙ arc_is i h (every_at (λ (e : ℕ). e < 2 ^ 16) arcs small i 0 h)

  -- and of the file alone
  pub arcs_read : Every (λ (e : ℕ). e < 2 ^ 16) arcs → arcs_to file (length arcs) ≡ arcs
  arcs_read small = ap (λ (l : List ℕ). arcs_to l (length arcs)) (sym (append-nil file)) ∙ arcs_read_first small []

-- ---- the bytes of what is read

module _ (file : List ℕ) (bytes : Bytes file) where
  -- the head
  pub head_stands : file_size 0 ≤ length file → number16 file 0 ≡ mark_pn
      → file ≡ head_bytes (root_in file) (total_in file) (count_in file) ++ drop (file_size 0) file
  head_stands h mark =
      field16 file bytes 0 mark_pn (omega arith) mark
      ∙ ap (λ (l : List ℕ). bytes16 mark_pn ++ l)
      (field16 file bytes 2 (root_in file) (omega arith) refl
      ∙ ap (λ (l : List ℕ). bytes16 (root_in file) ++ l)
      (field32 file bytes 4 (total_in file) (omega arith) refl
      ∙ ap (λ (l : List ℕ). bytes32 (total_in file) ++ l)
      (field16 file bytes 8 (count_in file) (omega arith) refl)))

  -- record i
  record_stands : (i : ℕ) → file_size (suc i) ≤ length file → mark_at file i ≡ mark_lg
      → drop (file_size i) file ≡ arc_bytes (listed_arc file i) ++ drop (file_size (suc i)) file
  record_stands i h mark =
      let e : file_size i + 2 + 2 ≡ file_size (suc i) = omega arith in
      field16 file bytes (file_size i) mark_lg (omega arith) mark
      ∙ ap (λ (l : List ℕ). bytes16 mark_lg ++ l) (field16 file bytes (file_size i + 2) (listed_arc file i) (omega arith) refl)
      ∙ ap (λ (j : ℕ). arc_bytes (listed_arc file i) ++ drop j file) e

  -- m records from record i on, up to record j
  pub records_stand : (i m j : ℕ) → i + m ≡ j → file_size j ≤ length file → ((k : ℕ) → k < j → mark_at file k ≡ mark_lg)
      → drop (file_size i) file ≡ joined arc_bytes (map (listed_arc file) (numbers i m)) ++ drop (file_size j) file
  records_stand i zero j e h marks = ap (λ (k : ℕ). drop (file_size k) file) (sym (add-zero i) ∙ e)
  records_stand i (suc m) j e h marks =
      record_stands i (omega arith) (marks i (omega arith))
      ∙ ap (λ (l : List ℕ). arc_bytes (listed_arc file i) ++ l) (records_stand (suc i) m j (omega arith) h marks)
