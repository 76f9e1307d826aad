-- A byte string is the encoding of its own fields exactly where its length and its marks are right, and a file is the encoding of one root,
-- one total and one list of legs only.
-- Assumes nothing.
use Rattle.std.specs.Prelude.{ℕ, ◌+◌, ◌≤◌, ◌<◌, ◌^◌, ◌≡◌, refl, List, ◌++◌, length, get_or}
use Rattle.std.proofs.Common.{sym, ap, ◌∙◌, subst, append-nil, arith, drop_of_length-le}
use Rattle.std.proofs.Math.Option.{some}
use Rattle.limits.specs.Marks.{mark_pn, mark_lg}
use Rattle.lists.specs.Every.{at_every}
use Rattle.lists.specs.Joined.{joined}
use Rattle.lists.specs.Numbers.{length_values, get_d_values}
use Rattle.number_fields.specs.Fields.{Bytes, number16, bytes16, bytes32}
use Rattle.number_fields.specs.laws.FieldLaws.{number16_bytes, number32_bytes, number16_fits, number32_fits}
use Rattle.planfile.specs.Format.{head_bytes, arc_bytes, file_bytes, encoding, file_size, root_in, total_in, count_in, mark_at, listed_arc, arcs_to, arcs_in}
use Rattle.planfile.specs.laws.FormatLaws.{Fits}
use Rattle.planfile.proofs.laws.FormatLaws.{fits_encoding, encoding_fits, length_file, mark_is, arcs_read, head_stands, records_stand}

-- the length and the marks are right
pub record WellFormed (file : List ℕ) : Type 0 where
  pub size : length file ≡ file_size (count_in file)
  pub head_mark : number16 file 0 ≡ mark_pn
  pub marks : (i : ℕ) → i < count_in file → mark_at file i ≡ mark_lg

-- a well_formed byte string is the encoding of its fields
pub fields_encoding : (file : List ℕ) → Bytes file → WellFormed file → encoding (root_in file) (total_in file) (arcs_in file) ≡ some file
fields_encoding file bytes form =
    fits_encoding (root_in file) (total_in file) (arcs_in file) each_fits ∙ ap some (sym whole)
  where
    long : file_size (count_in file) ≤ length file
    long = omega (arith, form.size)

    count : length (arcs_in file) ≡ count_in file
    count = length_values (listed_arc file) 0 (count_in file)

    each_fits : Fits (root_in file) (total_in file) (arcs_in file)
    each_fits =
        record {
          root_fits = number16_fits file bytes 2 (omega (arith, long));
          total_fits = number32_fits file bytes 4 (omega (arith, long));
          count_fits = omega (arith, count, number16_fits file bytes 8 (omega (arith, long)));
          arcs_fit = at_every (λ (e : ℕ). e < 2 ^ 16) (arcs_in file) 0 (λ i l. arc_fits i (omega (arith, count)));
        }
      where
        arc_fits : (i : ℕ) → i < count_in file → get_or (arcs_in file) i 0 < 2 ^ 16
        arc_fits i l = omega (arith, get_d_values (listed_arc file) 0 (count_in file) i 0 l, number16_fits file bytes (file_size (0 + i) + 2) (omega (arith, long)))

    whole : file ≡ file_bytes (root_in file) (total_in file) (arcs_in file)
    whole =
        head_stands file bytes (omega (arith, long)) form.head_mark
        ∙ ap (λ (l : List ℕ). head_bytes (root_in file) (total_in file) (count_in file) ++ l)
        (records_stand file bytes 0 (count_in file) (count_in file) (omega arith) long form.marks
        ∙ ap (λ (l : List ℕ). joined arc_bytes (arcs_in file) ++ l) (drop_of_length-le file {i = file_size (count_in file)} (omega (arith, form.size)))
        ∙ append-nil (joined arc_bytes (arcs_in file)))
        ∙ ap (λ (n : ℕ). head_bytes (root_in file) (total_in file) n ++ joined arc_bytes (arcs_in file)) (sym count)

-- the file is well formed, and its fields are these
pub record FieldsAre (file : List ℕ) (root total : ℕ) (arcs : List ℕ) : Type 0 where
  pub root_is : root_in file ≡ root
  pub total_is : total_in file ≡ total
  pub count_is : count_in file ≡ length arcs
  pub arcs_are : arcs_in file ≡ arcs
  pub well_formed : WellFormed file

-- the fields of the file of what fits
file_fields : (root total : ℕ) (arcs : List ℕ) → Fits root total arcs → FieldsAre (file_bytes root total arcs) root total arcs
file_fields root total arcs f =
    record {
      root_is = number16_bytes root (bytes32 total ++ (bytes16 (length arcs) ++ joined arc_bytes arcs)) f.root_fits;
      total_is = number32_bytes total (bytes16 (length arcs) ++ joined arc_bytes arcs) f.total_fits;
      count_is = count;
      arcs_are = ap (arcs_to (file_bytes root total arcs)) count ∙ arcs_read root total arcs f.arcs_fit;
      well_formed =
          record {
            size = length_file root total arcs ∙ ap file_size (sym count);
            head_mark = refl;
            marks = λ i l. mark_is root total arcs i (omega (arith, count));
          };
    }
  where
    count : count_in (file_bytes root total arcs) ≡ length arcs
    count = number16_bytes (length arcs) (joined arc_bytes arcs) f.count_fits

-- an encoding is well formed, and its fields are what was encoded
pub encoding_fields : (file : List ℕ) (root total : ℕ) (arcs : List ℕ) → encoding root total arcs ≡ some file → FieldsAre file root total arcs
encoding_fields file root total arcs e =
    let (each_fits, same) = encoding_fits root total arcs file e in
    subst (λ (l : List ℕ). FieldsAre l root total arcs) same (file_fields root total arcs each_fits)
