-- The lines of the legs that a plan file lists, one more at a time, and the parts of an answer's text, stored one after the other.
-- Assumes nothing.
use Rattle.std.specs.Prelude.{ℕ, ◌+◌, ◌≡◌, List, [], ◌∷◌, ◌++◌, map}
use Rattle.std.proofs.Common.{sym, ap, ◌∙◌, subst, append-nil, add-one, zero-add}
use Rattle.std.proofs.lemmas.List.{map-append}
use Rattle.lists.specs.Joined.{joined, joined_append}
use Rattle.lists.specs.Numbers.{numbers, numbers_more}
use Rattle.answer.specs.Stated.{Stated, Family, plan, refused}
use Rattle.planfile.specs.Format.{listed_arc, arcs_to}
use Rattle.desk_words.specs.Stored.{Stored}
use Rattle.desk_words.proofs.laws.Storing.{stored_then}
use Rattle.desk_lines.specs.Lines.{refusal_line, first_line}
use Rattle.desk_answer.specs.AnswerText.{line_of, answer_text}

-- the lines of one leg more
pub lines_more : (line : ℕ → List ℕ) (file : List ℕ) (i : ℕ)
    → joined line (arcs_to file i) ++ line (listed_arc file i) ≡ joined line (arcs_to file (i + 1))
lines_more line file i =
    ap (λ (l : List ℕ). joined line (arcs_to file i) ++ l) (sym (append-nil (line (listed_arc file i))))
    ∙ sym (joined_append line (arcs_to file i) (listed_arc file i ∷ []))
    ∙ ap (joined line)
    (ap (λ (j : ℕ). arcs_to file i ++ (listed_arc file j ∷ [])) (sym (zero-add i))
    ∙ sym (map-append (listed_arc file) (numbers 0 i) ((0 + i) ∷ []))
    ∙ ap (map (listed_arc file)) (sym (numbers_more 0 i))
    ∙ ap (arcs_to file) (sym (add-one i)))

module _ {s : Stated} (starts ends weights buffer : List ℕ) where
  -- the first line and the lines of the legs are the text of a plan
  pub stored_plan : {root cost count next end : ℕ} {before between after : List ℕ} → plan root cost count ≡ s
      → Stored (first_line root cost count) 0 next before between
      → Stored (joined (line_of starts ends weights) (arcs_to buffer count)) next end between after
      → Stored (answer_text s starts ends weights buffer) 0 end before after
  stored_plan {root} {cost} {count} {next} {end} {before} {between} {after} e first rest =
      subst (λ (x : Stated). Stored (answer_text x starts ends weights buffer) 0 end before after) e (stored_then first rest)

  -- the line of a refusal is its text
  pub stored_refusal : {family : Family} {number place end : ℕ} {before after : List ℕ} → refused family number place ≡ s
      → Stored (refusal_line number place) 0 end before after → Stored (answer_text s starts ends weights buffer) 0 end before after
  stored_refusal {family} {number} {place} {end} {before} {after} e line =
      subst (λ (x : Stated). Stored (answer_text x starts ends weights buffer) 0 end before after) e line
