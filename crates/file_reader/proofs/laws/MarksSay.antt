-- What the marks say after a file that has no fault by itself: 1 for each site to which a directed path of listed legs leads from the root, 0
-- for every other site, and past the sites what stood there before.
-- Assumes nothing.
use Rattle.std.specs.Prelude.{ℕ, ◌≤◌, ◌<◌, ◌≡◌, ◌↔◌, List, get_or}
use Rattle.std.proofs.Common.{sym, ◌∙◌, subst, arith}
use Rattle.std.proofs.Math.Option.{Option, none}
use Rattle.lists.specs.Count.{bit_le}
use Rattle.lists.specs.Over.{over, get_d_over, get_d_later}
use Rattle.graph.specs.Graph.{Graph}
use Rattle.graph.specs.Paths.{DirectedPath, is_reached}
use Rattle.answer.specs.declared.PlanFault.{PlanFault}
use Rattle.planfile.specs.Format.{root_in, arcs_in}
use Rattle.file_tests.specs.FileFaults.{file_fault}
use Rattle.reaching.specs.Marks.{marks_of}
use Rattle.reaching.specs.laws.MarkLaws.{marks_size, mark_at_lem, marked_path, path_marked}
use Rattle.file_reader.specs.FileAnswer.{marks_by, marks_after}

-- what the marks say after a file without a fault of its own was read, where others stood before: "the first n marks are 1 for sites reached
-- from the root by the listed legs, else 0"; "Entries past those named are untouched"
pub record MarksSay (G : Graph) (file before after : List ℕ) : Type 0 where
  pub bits : (v : ℕ) → v < G.nodes → get_or after v 0 ≤ 1
  pub reached : (v : ℕ) → v < G.nodes → (get_or after v 0 ≡ 1) ↔ DirectedPath G (arcs_in file) (root_in file) v
  pub later : (v : ℕ) → G.nodes ≤ v → get_or after v 0 ≡ get_or before v 0

pub marks_say : (G : Graph) (file marks : List ℕ) → file_fault G.nodes G.arcs file ≡ none → MarksSay G file marks (marks_after G file marks)
marks_say G file marks e = subst (λ (o : Option PlanFault). MarksSay G file marks (marks_by o G file marks)) (sym e) (record {
  bits = λ v l. omega (arith, here v l, mark_at_lem G L r v l, bit_le (is_reached G L r v));
  reached = λ v l. ((λ q. marked_path G L r v l (sym (here v l) ∙ q)), (λ p. here v l ∙ path_marked G L r v l p));
  later = λ v l. get_d_later (marks_of G L r) marks v 0 (omega (arith, marks_size G L r));
})
  where
    L : List ℕ
    L = arcs_in file

    r : ℕ
    r = root_in file

    here : (v : ℕ) → v < G.nodes → get_or (over (marks_of G L r) marks) v 0 ≡ get_or (marks_of G L r) v 0
    here v l = get_d_over (marks_of G L r) marks v 0 (omega (arith, marks_size G L r))
