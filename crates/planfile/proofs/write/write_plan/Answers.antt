-- `planfile::write::write_plan` meets its contract. The total and the leg count are tested, then the length of the buffer; then the head and the records are
-- stored.
-- Assumes nothing.
use Rattle.std.proofs.Common.{ℕ, ◌<◌, ◌^◌, List, length, get_or, ap, ap₂, ◌∙◌, arith}
use Rattle.std.proofs.lemmas.List.Edits.{sets}
use Rattle.lists.specs.Every.{at_every}
use Rattle.planfile.specs.Format.{head_bytes, file_size}
use Rattle.planfile.specs.laws.FormatLaws.{Fits}
use Rattle.planfile.proofs.laws.WritingLaws.{buffer_too_short, file_written}
use Rattle.planfile.proofs.write.write_plan.Goals as goal

each_fits : {root total : ℕ} {arcs : List ℕ} → root < 2 ^ 16 → total < 2 ^ 32 → length arcs < 2 ^ 16 → ((i : ℕ) → get_or arcs i 0 < 2 ^ 16)
    → Fits root total arcs
each_fits {arcs = arcs} root total count each = record {
  root_fits = root;
  total_fits = total;
  count_fits = count;
  arcs_fit = at_every (λ (e : ℕ). e < 2 ^ 16) arcs 0 (λ i l. each i);
}

pub returns-then-buffer-size : goal.returns-then-buffer-size
returns-then-buffer-size c =
    let a = c.args in
    let (total_fits, _) = c.in-Ok.ensures in
    let (count_fits, count_is) = c.in-Ok-try_from.ensures in
    buffer_too_short a.root a.total a.arcs.now a.buffer.now (each_fits c.ranges.root.fits total_fits count_fits (λ i. (c.type_inv.arcs i).fits)) _
    (c.file_size-size.ensures ∙ ap file_size count_is) (omega (arith, c.if-buffer-size.true))

pub returns : goal.returns
returns c =
    let a = c.args in
    let (total_fits, total_is) = c.in-Ok.ensures in
    let (count_fits, count_is) = c.in-Ok-try_from.ensures in
    file_written a.root a.total a.arcs.now a.buffer.now (each_fits c.ranges.root.fits total_fits count_fits (λ i. (c.type_inv.arcs i).fits)) _
    (c.file_size-size.ensures ∙ ap file_size count_is) (omega (arith, c.if-buffer-size.false)) _ _
    (c.put_head.ensures ∙ ap₂ (λ (t n : ℕ). sets a.buffer.now 0 (head_bytes a.root t n)) total_is count_is) c.put_arcs.ensures
