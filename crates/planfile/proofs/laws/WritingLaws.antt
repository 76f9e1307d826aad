-- Laws of the writing: what the stores of a record and of a whole file leave in the buffer, and what each outcome is.
-- Assumes nothing.
use Rattle.std.specs.Prelude.{Ok, Err, ℕ, ◌+◌, ◌≤◌, ◌<◌, ◌^◌, ◌≡◌, refl, Bool, true, false, cond, List, [], ◌∷◌, length, get_or, take, T, leb}
use Rattle.std.proofs.Common.{sym, ap, ap₂, ◌∙◌, add-one, arith, take-suc, length-take-le, le-leb}
use Rattle.std.proofs.Math.Option.{Option, none, some}
use Rattle.std.proofs.lemmas.List.Edits.{sets}
use Rattle.std.proofs.lemmas.Bool.{lt-leb}
use Rattle.lists.specs.Tests.{by_fact}
use Rattle.lists.specs.Joined.{joined, joined_append, length_joined}
use Rattle.lists.specs.Over.{over}
use Rattle.lists.specs.Stores.{sets_then, sets_over}
use Rattle.planfile.specs.Format.{head_bytes, arc_bytes, file_bytes, fits, file_size}
use Rattle.planfile.specs.laws.FormatLaws.{Fits}
use Rattle.planfile.proofs.laws.FormatLaws.{passed_fits, fits_encoding, length_file}
use Rattle.planfile.specs.Writing.{writing, written_over, writing_of}
use Rattle.planfile.specs.declared.write.WriteFault.TheVariants.{ShortBuffer, NoFile}

-- ---- stores

-- one record more
pub put_arc_more : (arcs l l' l'' : List ℕ) (i : ℕ) → i < length arcs → l' ≡ sets l (file_size 0) (joined arc_bytes (take i arcs))
    → l'' ≡ sets l' (file_size i) (arc_bytes (get_or arcs i 0)) → l'' ≡ sets l (file_size 0) (joined arc_bytes (take (i + 1) arcs))
put_arc_more arcs l l' l'' i h before after =
    sets_then (joined arc_bytes (take i arcs)) (arc_bytes (get_or arcs i 0)) l l' l'' (file_size 0) (file_size i) before place after
    ∙ ap (sets l (file_size 0))
    (sym (joined_append arc_bytes (take i arcs) (get_or arcs i 0 ∷ []))
    ∙ ap (joined arc_bytes) (sym (take-suc arcs i 0 h) ∙ ap (λ (j : ℕ). take j arcs) (sym (add-one i))))
  where
    place : file_size i ≡ file_size 0 + length (joined arc_bytes (take i arcs))
    place = omega (arith, length_joined arc_bytes 4 (λ e. refl) (take i arcs), length-take-le i arcs (omega arith))

-- ---- outcomes

module _ (root total : ℕ) (arcs buffer : List ℕ) where
  -- no file, where the total or the leg count does not fit
  none_written : (T (fits root total arcs) → ⊥) → writing (Err NoFile) buffer ≡ writing_of root total arcs buffer
  none_written n =
      by_fact (fits root total arcs) (λ b. writing (Err NoFile) buffer ≡ written_over (cond b (some (file_bytes root total arcs)) none) buffer)
      (λ t. absurd (n t)) (λ t. refl)

  pub total_too_large : 2 ^ 32 ≤ total → writing (Err NoFile) buffer ≡ writing_of root total arcs buffer
  total_too_large h = none_written (λ t. let f = passed_fits root total arcs t in absurd (omega (arith, f.total_fits)))

  pub too_many_arcs : 2 ^ 16 ≤ length arcs → writing (Err NoFile) buffer ≡ writing_of root total arcs buffer
  too_many_arcs h = none_written (λ t. let f = passed_fits root total arcs t in absurd (omega (arith, f.count_fits)))

  -- everything fits, and the size of the file is compared with the length of the buffer
  module _ (each_Fits : Fits root total arcs) (size : ℕ) (size_is : size ≡ file_size (length arcs)) where
    abbrev file : List ℕ
    file = file_bytes root total arcs

    length_is : length file ≡ size
    length_is = length_file root total arcs ∙ sym size_is

    by_length : (b : Bool) → leb (length file) (length buffer) ≡ b
        → cond b (writing (Ok (length file)) (over file buffer)) (writing (Err ShortBuffer) buffer) ≡ writing_of root total arcs buffer
    by_length b e =
        sym (ap (λ (o : Option (List ℕ)). written_over o buffer) (fits_encoding root total arcs each_Fits)
        ∙ ap (λ (t : Bool). cond t (writing (Ok (length file)) (over file buffer)) (writing (Err ShortBuffer) buffer)) e)

    -- the buffer is too short
    pub buffer_too_short : length buffer < size → writing (Err ShortBuffer) buffer ≡ writing_of root total arcs buffer
    buffer_too_short h = by_length false (lt-leb (length file) (length buffer) (omega (arith, length_is)))

    -- it is long enough, and the head and then the records are stored
    pub file_written : size ≤ length buffer → (l l' : List ℕ) → l ≡ sets buffer 0 (head_bytes root total (length arcs))
        → l' ≡ sets l (file_size 0) (joined arc_bytes arcs) → writing (Ok size) l' ≡ writing_of root total arcs buffer
    file_written h l l' head records =
        ap₂ (λ (n : ℕ) (t : List ℕ). writing (Ok n) t) (sym length_is) stored
        ∙ by_length true (le-leb (length file) (length buffer) (omega (arith, length_is)))
      where
        stored : l' ≡ over file buffer
        stored =
            sets_then (head_bytes root total (length arcs)) (joined arc_bytes arcs) buffer l l' 0 (file_size 0) head refl records
            ∙ sets_over file buffer (omega (arith, length_is))
