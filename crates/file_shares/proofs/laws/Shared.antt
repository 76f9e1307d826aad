-- A file, with shares, against the tables that hold a sheet: a refusal of the plan reader stays and writes no share; an accepted file lists a plan
-- that the tables have, and its shares are those of the plan.
-- Assumes nothing.
use Rattle.std.specs.Prelude.{ℕ, ◌<◌, ◌≡◌, refl, List, ◌++◌, T, length, take, drop}
use Rattle.std.proofs.Common.{sym, ap, ap₂, ◌∙◌, subst, arith, length-take, take_at}
use Rattle.std.proofs.Math.Option.{Option}
use Rattle.lists.specs.Listed.{listed}
use Rattle.lists.specs.Numbers.{length_values}
use Rattle.answer.specs.Stated.{plan, shared, stated_refusal}
use Rattle.answer.proofs.laws.OneToOne.{refusal_stated}
use Rattle.answer.specs.declared.PlanFault.{PlanFault}
use Rattle.answer.specs.declared.Refusal.{Refusal}
use Rattle.lent_tables.specs.SheetTables.{SheetTables}
use Rattle.lent_tables.specs.Lengths.{marks_only, share_lengths}
use Rattle.graph.specs.Graph.{Graph}
use Rattle.graph.specs.HeldGraph.{graph_in, start_in, end_in, weight_in, landings_in}
use Rattle.graph.specs.Subtrees.{Subtree}
use Rattle.graph.proofs.laws.SubtreeParts.{arc_of, total_weights}
use Rattle.network.specs.HeldSheet.{HeldSheet}
use Rattle.planfile.specs.Format.{file_size, root_in, arcs_to, arcs_in}
use Rattle.file_tests.proofs.laws.Faults.{file_passes}
use Rattle.reaching.specs.Marks.{marks_of}
use Rattle.reaching.specs.laws.MarkLaws.{marks_size}
use Rattle.file_reader.specs.FileAnswer.{answer_to, marks_by, marks_after}
use Rattle.file_reader.proofs.laws.Accepted.{Accepted, accepted_file}
use Rattle.plan_shares.specs.Shares.{share_of, shares_of, unassigned}
use Rattle.file_shares.specs.Sharing.{with_unassigned, shares_by, sharing_to, shares_after}
use Rattle.file_shares.specs.PlanReady.{PlanReady, SomePlan, Divided}

-- the plan reader's refusals stay, and write no share
refusal_stays : (G : Graph) (file shares : List ℕ) (refusal : Refusal)
    → (with_unassigned G file (stated_refusal refusal) ≡ stated_refusal refusal) × (shares_by G file shares (stated_refusal refusal) ≡ shares)
refusal_stays G file shares refusal =
    let (number, place, is) = refusal_stated refusal in (
      ap (with_unassigned G file) is ∙ sym is,
      ap (shares_by G file shares) is,
    )

module _ (n k m : ℕ) (t : SheetTables) (marks shares file : List ℕ) (ready : HeldSheet n k m t (share_lengths (length marks) (length shares))) where
  abbrev G : Graph
  G = graph_in n k m t

  -- what the plan reader asks for
  pub read_held : HeldSheet n k m t (marks_only (length marks))
  read_held = record {
    nodes = ready.nodes;
    terminals = ready.terminals;
    few_arcs = ready.few_arcs;
    sound = ready.sound;
    weights_low = ready.weights_low;
    room = ready.room;
    long = record {
      tables = ready.long.tables;
      further = record { by_end = tt; places = tt; cells = tt; marks = ready.long.further.marks; shares = tt };
    };
  }

  pub marks_part : (after : List ℕ) → length after ≡ length marks → n ≡ length (take n after)
  marks_part after same = omega (arith, length-take n after, ready.long.further.marks)

  pub shares_part : k ≡ length (take k shares)
  shares_part = omega (arith, length-take k shares, ready.long.further.shares)

  -- a refusal
  pub share_refused : (refusal : Refusal) → stated_refusal refusal ≡ answer_to G file
      → (stated_refusal refusal ≡ sharing_to G file) × (shares ≡ shares_after G file shares)
  share_refused refusal told =
      let (stays, unwritten) = refusal_stays G file shares refusal in
      (sym stays ∙ ap (with_unassigned G file) told, sym unwritten ∙ ap (shares_by G file shares) told)

  -- ---- an accepted file

  module _ (root cost count : ℕ) (told : plan root cost count ≡ answer_to G file) where
    accepted : Accepted G file root cost count
    accepted = accepted_file G file root cost count (sym told)

    same_arcs : arcs_to file count ≡ arcs_in file
    same_arcs = ap (arcs_to file) accepted.count_is

    tree : Subtree G root (arcs_to file count)
    tree = subst (λ (l : List ℕ). Subtree G root l) (sym same_arcs) (subst (λ (x : ℕ). Subtree G x (arcs_in file)) (sym accepted.root_is) accepted.subtree)

    on_sheet : (e : ℕ) → T (listed e (arcs_to file count)) → e < m
    on_sheet e i = arc_of tree e i

    -- the marks of the sites are those of the sites that the plan reaches
    marked : (after : List ℕ) → after ≡ marks_after G file marks → take n after ≡ marks_of G (arcs_to file count) root
    marked after is =
        ap (take n) (is ∙ ap (λ (o : Option PlanFault). marks_by o G file marks) (file_passes n m file accepted.ok))
        ∙ take_at (marks_of G (arcs_in file) (root_in file)) _ n (marks_size G (arcs_in file) (root_in file))
        ∙ ap₂ (λ (l : List ℕ) (r : ℕ). marks_of G l r) (sym same_arcs) (sym accepted.root_is)

    pub plan_ready : (after : List ℕ) → length after ≡ length marks → after ≡ marks_after G file marks → PlanReady G root file count k t (take n after)
    plan_ready after same is = record {
      sound = ready.sound;
      nodes = marks_part after same;
      few_nodes = omega (arith, marks_part after same, ready.nodes);
      terminals = refl;
      few_terminals = ready.terminals.1;
      whole = omega (arith, ap file_size accepted.count_is, accepted.ok.head.size);
      tree = tree;
      held = λ e i. record {
        in_starts = omega (arith, on_sheet e i, ready.long.tables.starts);
        in_ends = omega (arith, on_sheet e i, ready.long.tables.ends);
        in_weights = omega (arith, on_sheet e i, ready.long.tables.weights);
        start = start_in n k m t e (on_sheet e i);
        end = end_in n k m t e (on_sheet e i);
        weight = weight_in n k m t e (on_sheet e i);
      };
      landed = omega (arith, marks_part after same, ready.long.tables.landings);
      landings = λ v l. landings_in n k m t v (omega (arith, marks_part after same));
      marked = marked after is;
      low = omega (arith, total_weights G (λ v. refl) root (arcs_to file count), ready.room root (arcs_to file count) tree);
    }

    pub some_plan : (after : List ℕ) → length after ≡ length marks → after ≡ marks_after G file marks → SomePlan file count k t (take n after)
    some_plan after same is = record { G = G; root = root; ready = plan_ready after same is }

    pub share_accepted : (paid : List ℕ) (rest : ℕ) → Divided G root file count paid rest
        → (shared root cost count rest ≡ sharing_to G file) × (paid ++ drop k shares ≡ shares_after G file shares)
    share_accepted paid rest D = (
      ap (shared root cost count) (D.unpaid ∙ ap (unassigned G root) same_arcs) ∙ ap (with_unassigned G file) told,
      ap₂ (λ (l : List ℕ) (j : ℕ). l ++ drop j shares) (D.paid ∙ ap (shares_of G root) same_arcs) (sym (length_values (share_of G root (arcs_in file)) 0 k))
          ∙ ap (shares_by G file shares) told,
    )
