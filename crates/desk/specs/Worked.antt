-- Document 01's sheets A to J, as the desk program writes their texts, by computation.
-- Assumes nothing.
use Rattle.std.specs.Prelude.{◌≡◌, refl}
use Rattle.sheet.specs.Verdict.{verdict, read_for}
use Rattle.sheet.specs.Worked.{sheet_a, sheet_b, sheet_c, sheet_d, sheet_e, sheet_f, sheet_g, sheet_h, sheet_i, sheet_j}
use Rattle.best_plan.specs.Plan.{plan_of}
use Rattle.desk_words.specs.Words.{ascii, decimal}
use Rattle.desk.specs.Text.{sheet_text, desk_text}

pub texts_settled :
    (desk_text sheet_a
    ≡ ascii "root 0 total 10 legs 3\nleg 0 from 0 to 1 price 4\nleg 1 from 1 to 2 price 3\nleg 2 from 1 to 3 price 3\n")
    × (desk_text sheet_b ≡ ascii "root 0 total 0 legs 0\n")
    × (desk_text sheet_c ≡ ascii "root 0 total 4 legs 1\nleg 1 from 0 to 2 price 4\n")
    × (desk_text sheet_d ≡ ascii "root 0 total 7 legs 1\nleg 0 from 0 to 1 price 7\n")
    × (desk_text sheet_e ≡ ascii "refused 12 at 0\n")
    × (desk_text sheet_f ≡ ascii "refused 7 at 5\n")
    × (desk_text sheet_g ≡ ascii "root 0 total 1000000 legs 1\nleg 0 from 0 to 1 price 1000000\n")
    × (desk_text sheet_h ≡ ascii "refused 7 at 5\n")
    × (desk_text sheet_i ≡ ascii "refused 1 at 0\n")
    × (desk_text sheet_j ≡ ascii "refused 9 at 12\n")
unfolding decimal sheet_text plan_of verdict read_for
texts_settled = (refl, refl, refl, refl, refl, refl, refl, refl, refl, refl)
