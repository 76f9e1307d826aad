-- What the desk program writes for every input (document 01, "The desk program and worked sheets"): `too long`, `refused N at P`, or the
-- listing of the plan. The lines are those of crate desk_lines.
-- Assumes nothing.
use Rattle.std.specs.Prelude.{ℕ, ◌-◌, ◌*◌, ◌^◌, Bool, cond, ◌&&◌, List, [], ◌++◌, leb, ltb, length}
use Rattle.std.proofs.Math.Option.{Option, none, some}
use Rattle.limits.specs.Refusals.{no_plan}
use Rattle.lists.specs.Joined.{joined}
use Rattle.answer.specs.Stated.{Stated, plan, shared, cell, sender, no_sender, refused, of_search}
use Rattle.graph.specs.Graph.{Graph}
use Rattle.sheet.specs.Verdict.{verdict}
use Rattle.opener.specs.Opening.{by_verdict, by_opening}
use Rattle.network.specs.Network.{graph_of}
use Rattle.best_plan.specs.Plan.{Plan, plan_of}
use Rattle.desk_words.specs.Words.{ascii}
use Rattle.desk_lines.specs.Lines.{refusal_line, first_line, arc_line}

-- a leg of the graph
abbrev pub arc_text : Graph → ℕ → List ℕ
arc_text G e = arc_line e (G.start e) (G.end e) (G.weight e)

-- a plan, its legs in the order in which they are laid out
abbrev pub listing : Graph → Plan → List ℕ
listing G p = first_line p.root p.cost (length p.arcs) ++ joined (arc_text G) p.arcs

-- a refusal; the engine sends back nothing else that is not a plan
abbrev pub refusal_text : Stated → List ℕ
refusal_text (refused family number place) = refusal_line number place
refusal_text (plan root cost count) = []
refusal_text (cell cost) = []
refusal_text (sender node) = []
refusal_text no_sender = []
refusal_text (shared root cost count rest) = []

-- the plan of a graph, or 12
abbrev pub plan_text : Graph → Option Plan → List ℕ
plan_text G none = refusal_text (refused of_search no_plan 0)
plan_text G (some p) = listing G p

-- "with 2,048 legs, 64 sites, 8,192 cells"
abbrev pub desk_arcs : ℕ
desk_arcs = 2048

abbrev pub desk_nodes : ℕ
desk_nodes = 64

abbrev pub desk_cells : ℕ
desk_cells = 8192

-- the legs of a tree of 64 sites: "a plan buffer that holds any tree of 64 sites"
abbrev pub desk_tree : ℕ
desk_tree = desk_nodes - 1

-- whether a sheet with n sites, k stations and m legs has room in the tables; the plan buffer has room for every plan, so 13 is never due
abbrev pub desk_fits : (n k m : ℕ) → Bool
desk_fits n k m = leb m desk_arcs && (leb n desk_nodes && leb (n * 2 ^ k) desk_cells)

-- "at most 32,768 bytes, else it writes `too long`"
abbrev pub desk_bytes : ℕ
desk_bytes = 32768

-- the text of a sheet: its refusal, 11, 12, or the plan
unfoldable pub sheet_text : List ℕ → List ℕ
sheet_text sheet =
    by_opening refusal_text (λ n k records. plan_text (graph_of n k records) (plan_of (graph_of n k records))) (by_verdict desk_fits (verdict sheet))

-- no text has more bytes
abbrev pub text_bytes : ℕ
text_bytes = 8192

-- the text of an input
abbrev pub desk_text : List ℕ → List ℕ
desk_text input = cond (ltb desk_bytes (length input)) (ascii "too long\n") (sheet_text input)
