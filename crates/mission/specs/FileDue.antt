-- Which of the refusals 14 to 20 is due for a plan file, and where, over the file's bytes (document 01, "What is sent back"): "Plan reader: sheet, 11,
-- file under 10 bytes (14), `PN` (15), root (16), short (14), left over (15), then each leg's mark (15) and number (16), then 17, 18, 19."
-- Document 02, W-201, on 20: "it comes after 17 and before 18, place 0".
-- Assumes nothing.
use Rattle.std.specs.Prelude.{ℕ, ◌≤◌, ◌<◌, ◌≡◌, ◌≢◌, List, T, length}
use Rattle.limits.specs.Marks.{mark_pn, mark_lg}
use Rattle.limits.specs.Refusals.{cut_plan, bad_plan, unknown_number, no_tree, not_a_sender, station_missed, false_total}
use Rattle.graph.specs.Graph.{Graph}
use Rattle.graph.specs.Subtrees.{Subtree, CoversAll, total}
use Rattle.number_fields.specs.Fields.{number16}
use Rattle.planfile.specs.Format.{file_size, root_in, total_in, count_in, mark_at, listed_arc, arcs_in}

-- the file has 10 bytes, the mark `PN` and a root that is a site
pub record HeadRead (G : Graph) (file : List ℕ) : Type 0 where
  pub whole : file_size 0 ≤ length file
  pub mark : number16 file 0 ≡ mark_pn
  pub root : root_in file < G.nodes

-- and as many bytes as its leg count asks for
pub record Sized (G : Graph) (file : List ℕ) : Type 0 where
  pub head : HeadRead G file
  pub size : length file ≡ file_size (count_in file)

-- record i has the mark `LG` and the number of a leg
pub record RecordPasses (G : Graph) (file : List ℕ) (i : ℕ) : Type 0 where
  pub mark : mark_at file i ≡ mark_lg
  pub arc : listed_arc file i < G.arcs

-- the records before record i pass
abbrev pub PassBefore : Graph → List ℕ → ℕ → Type 0
PassBefore G file i = (j : ℕ) → j < i → RecordPasses G file j

-- the file passes by itself
pub record FilePasses (G : Graph) (file : List ℕ) : Type 0 where
  pub sized : Sized G file
  pub records : PassBefore G file (count_in file)

-- the refusal with this number and this place is due
pub data FileDue (G : Graph) (file : List ℕ) : (number place : ℕ) → Type 0 where
  -- "file under 10 bytes (14)"
  under_head : length file < file_size 0 → FileDue G file cut_plan 0
  -- "`PN` (15)"
  no_mark : file_size 0 ≤ length file → number16 file 0 ≢ mark_pn → FileDue G file bad_plan 0
  -- "root (16)": "root n or more"
  no_root : file_size 0 ≤ length file → number16 file 0 ≡ mark_pn → G.nodes ≤ root_in file → FileDue G file unknown_number 0
  -- "short (14)"
  short : HeadRead G file → length file < file_size (count_in file) → FileDue G file cut_plan 0
  -- "left over (15)", at the "first extra byte"
  left_over : HeadRead G file → file_size (count_in file) < length file → FileDue G file bad_plan (file_size (count_in file))
  -- "each leg's mark (15) and number (16)", at the record's start; "The first faulty record decides."
  no_arc_mark : Sized G file → (i : ℕ) → i < count_in file → PassBefore G file i → mark_at file i ≢ mark_lg → FileDue G file bad_plan (file_size i)
  no_arc : Sized G file → (i : ℕ) → i < count_in file → PassBefore G file i → mark_at file i ≡ mark_lg → G.arcs ≤ listed_arc file i
      → FileDue G file unknown_number (file_size i)
  -- 17: "not a tree"
  no_tree_lem : FilePasses G file → (Subtree G (root_in file) (arcs_in file) → ⊥) → FileDue G file no_tree 0
  -- 20: "the plan's root is no sender"
  not_sender : FilePasses G file → Subtree G (root_in file) (arcs_in file) → (T (G.may_root (root_in file)) → ⊥) → FileDue G file not_a_sender 0
  -- 18: "no landing of some station held"
  missed : FilePasses G file → Subtree G (root_in file) (arcs_in file) → T (G.may_root (root_in file))
      → (CoversAll G (root_in file) (arcs_in file) → ⊥) → FileDue G file station_missed 0
  -- 19: "total differs from the sum"
  false_total_lem : FilePasses G file → Subtree G (root_in file) (arcs_in file) → T (G.may_root (root_in file)) → CoversAll G (root_in file) (arcs_in file)
      → total_in file ≢ total G (root_in file) (arcs_in file) → FileDue G file false_total 0
