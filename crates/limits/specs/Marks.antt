-- The marks of the formats: two ASCII bytes, read as one number, highest byte first.
-- Assumes nothing.
use Rattle.std.specs.Prelude.{ℕ}

-- `HD`, `LK`, `BK`, `ST`, `SR`, `ED`: the records of a sheet
abbrev pub mark_hd : ℕ
mark_hd = 0x4844

abbrev pub mark_lk : ℕ
mark_lk = 0x4C4B

abbrev pub mark_bk : ℕ
mark_bk = 0x424B

abbrev pub mark_st : ℕ
mark_st = 0x5354

abbrev pub mark_sr : ℕ
mark_sr = 0x5352

abbrev pub mark_ed : ℕ
mark_ed = 0x4544

-- `PN`, `LG`: the records of a plan file
abbrev pub mark_pn : ℕ
mark_pn = 0x504E

abbrev pub mark_lg : ℕ
mark_lg = 0x4C47
