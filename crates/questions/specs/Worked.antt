-- The enquirer's answers over small tables, by computation: the cells that document 01's sheets A, D and E leave (`settled` of crate cases has them),
-- those of A with one entry more, and a table with ties. Every refusal and the order of the tests, a cell, "none", best senders, ties among senders,
-- lower sites that are no sender, the empty subset, and landing entries of which only some, or none, are a sender's.
-- Assumes nothing.
use Rattle.std.specs.Prelude.{ℕ, ◌*◌, ◌≡◌, refl, List, [], ◌∷◌, take}
use Rattle.limits.specs.Limits.{no_cost}
use Rattle.answer.specs.Stated.{cell, sender, no_sender, refused, of_sheet, of_tables}
use Rattle.questions.specs.Questions.{cell_answer, sender_answer}

-- ---- the tables

abbrev N : ℕ
N = no_cost

-- A: four sites, three stations
abbrev cells_a : List ℕ
cells_a =
    0 ∷ 5 ∷ 6 ∷ 10 ∷ 0 ∷ 5 ∷ 6 ∷ 10 ∷
    0 ∷ 3 ∷ 3 ∷ 6 ∷ N ∷ N ∷ N ∷ N ∷
    0 ∷ 0 ∷ N ∷ N ∷ N ∷ N ∷ N ∷ N ∷
    0 ∷ N ∷ 0 ∷ N ∷ N ∷ N ∷ N ∷ N ∷
    75 ∷ []

-- D: two sites, two stations, a leg there and back
abbrev cells_d : List ℕ
cells_d =
    0 ∷ 0 ∷ 7 ∷ 7 ∷
    0 ∷ 7 ∷ 0 ∷ 7 ∷ []

-- E: two sites, two stations, no leg
abbrev cells_e : List ℕ
cells_e =
    0 ∷ 0 ∷ N ∷ N ∷
    0 ∷ N ∷ 0 ∷ N ∷ []

-- the landing entries of A, where every site is a sender, where site 1 is, and where none is; the second has one entry more, and higher bits
abbrev landings_a : List ℕ
landings_a = 1_028 ∷ 1_024 ∷ 1_025 ∷ 1_026 ∷ []

abbrev only_one : List ℕ
only_one = 4 ∷ 3_072 ∷ 1 ∷ 2_050 ∷ 1_024 ∷ []

abbrev nobody : List ℕ
nobody = 4 ∷ 0 ∷ 63_489 ∷ 1_023 ∷ []

-- of D and E, where both sites are senders
abbrev landings_d : List ℕ
landings_d = 1_025 ∷ 1_026 ∷ []

-- five sites, one station, which costs 4, 7, 4, 4 and as much as a cell can, "none" apart
abbrev tied : List ℕ
tied = 0 ∷ 4 ∷ 0 ∷ 7 ∷ 0 ∷ 4 ∷ 0 ∷ 4 ∷ 0 ∷ 4_294_967_294 ∷ []

-- the landing entries of five sites, of which those with a 1 are senders
abbrev flagged : (v0 v1 v2 v3 v4 : ℕ) → List ℕ
flagged v0 v1 v2 v3 v4 = v0 * 1_024 ∷ v1 * 1_024 ∷ v2 * 1_024 ∷ v3 * 1_024 ∷ v4 * 1_024 ∷ []

-- ---- the answers

pub settled :
    -- the cells: the full set from site 0, stations 0 and 1 from site 1, the empty set, "none", the last cell
    (cell_answer cells_a 4 3 0 7 ≡ cell 10)
    × (cell_answer cells_a 4 3 1 3 ≡ cell 6)
    × (cell_answer cells_a 4 3 3 0 ≡ cell 0)
    × (cell_answer cells_a 4 3 1 4 ≡ cell 4_294_967_295)
    × (cell_answer cells_a 4 3 3 7 ≡ cell 4_294_967_295)
    -- 3: n and k just out of range
    × (cell_answer cells_a 0 3 0 0 ≡ refused of_sheet 3 0)
    × (cell_answer cells_a 1025 3 0 0 ≡ refused of_sheet 3 0)
    × (cell_answer cells_a 4 0 0 0 ≡ refused of_sheet 3 0)
    × (cell_answer cells_a 4 11 0 0 ≡ refused of_sheet 3 0)
    -- 11: one cell too few, and no cell; 32 cells are enough
    × (cell_answer (take 31 cells_a) 4 3 0 0 ≡ refused of_tables 11 0)
    × (cell_answer [] 1 1 0 0 ≡ refused of_tables 11 0)
    × (cell_answer (take 32 cells_a) 4 3 0 7 ≡ cell 10)
    -- 4 and 5: the first site and the first subset that are not there
    × (cell_answer cells_a 4 3 4 0 ≡ refused of_sheet 4 0)
    × (cell_answer cells_a 4 3 3 8 ≡ refused of_sheet 5 0)
    -- the order: 3, 11, 4, 5
    × (cell_answer [] 0 11 9 4096 ≡ refused of_sheet 3 0)
    × (cell_answer [] 4 3 4 8 ≡ refused of_tables 11 0)
    × (cell_answer cells_a 4 3 4 8 ≡ refused of_sheet 4 0)
    -- best senders: the full set, stations 0 and 1, station 0
    × (sender_answer cells_a landings_a 4 3 7 ≡ sender 0)
    × (sender_answer cells_a landings_a 4 3 3 ≡ sender 1)
    × (sender_answer cells_a landings_a 4 3 1 ≡ sender 2)
    -- ties among senders: the lowest of those that cost least
    × (sender_answer cells_d landings_d 2 2 3 ≡ sender 0)
    × (sender_answer tied (flagged 1 1 1 1 1) 5 1 1 ≡ sender 0)
    -- a lower site costs as much and is no sender, a lower sender costs more
    × (sender_answer tied (flagged 0 0 1 1 0) 5 1 1 ≡ sender 2)
    × (sender_answer tied (flagged 0 1 1 1 1) 5 1 1 ≡ sender 2)
    × (sender_answer tied (flagged 0 1 0 1 0) 5 1 1 ≡ sender 3)
    × (sender_answer tied (flagged 0 1 0 0 1) 5 1 1 ≡ sender 1)
    -- a dearer sender, where the cheapest site is none: station 0, heard at site 2
    × (sender_answer cells_a only_one 4 3 1 ≡ sender 1)
    -- the empty subset: the lowest sender, which need not be site 0
    × (sender_answer cells_a landings_a 4 3 0 ≡ sender 0)
    × (sender_answer cells_a only_one 4 3 0 ≡ sender 1)
    × (sender_answer tied (flagged 0 0 1 1 0) 5 1 0 ≡ sender 2)
    -- the greatest finite cell; "none": no sender has a finite cell; no site is a sender
    × (sender_answer tied (flagged 0 0 0 0 1) 5 1 1 ≡ sender 4)
    × (sender_answer cells_e landings_d 2 2 3 ≡ no_sender)
    × (sender_answer cells_a only_one 4 3 7 ≡ no_sender)
    × (sender_answer cells_a nobody 4 3 0 ≡ no_sender)
    -- the order: 3, 11, 5; each of the two tables counts in 11
    × (sender_answer [] [] 0 11 4096 ≡ refused of_sheet 3 0)
    × (sender_answer [] landings_a 4 3 8 ≡ refused of_tables 11 0)
    × (sender_answer cells_a (take 3 landings_a) 4 3 8 ≡ refused of_tables 11 0)
    × (sender_answer cells_a landings_a 4 3 8 ≡ refused of_sheet 5 0)
settled = (
  refl,
  refl,
  refl,
  refl,
  refl,
  refl,
  refl,
  refl,
  refl,
  refl,
  refl,
  refl,
  refl,
  refl,
  refl,
  refl,
  refl,
  refl,
  refl,
  refl,
  refl,
  refl,
  refl,
  refl,
  refl,
  refl,
  refl,
  refl,
  refl,
  refl,
  refl,
  refl,
  refl,
  refl,
  refl,
  refl,
  refl,
  refl,
)
