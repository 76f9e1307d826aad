-- The refusal numbers, by the words of document 01, "What is sent back", and of document 02.
-- Assumes nothing.
use Rattle.std.specs.Prelude.{ℕ}

abbrev pub short_sheet : ℕ
short_sheet = 1

abbrev pub strange_mark : ℕ
strange_mark = 2

abbrev pub bad_head : ℕ
bad_head = 3

abbrev pub no_such_site : ℕ
no_such_site = 4

abbrev pub no_such_station : ℕ
no_such_station = 5

abbrev pub loop : ℕ
loop = 6

abbrev pub bad_price : ℕ
bad_price = 7

abbrev pub too_many_legs : ℕ
too_many_legs = 8

abbrev pub after_the_end : ℕ
after_the_end = 9

abbrev pub unheard : ℕ
unheard = 10

abbrev pub short_tables : ℕ
short_tables = 11

abbrev pub no_plan : ℕ
no_plan = 12

abbrev pub short_buffer : ℕ
short_buffer = 13

abbrev pub cut_plan : ℕ
cut_plan = 14

abbrev pub bad_plan : ℕ
bad_plan = 15

abbrev pub unknown_number : ℕ
unknown_number = 16

abbrev pub no_tree : ℕ
no_tree = 17

abbrev pub station_missed : ℕ
station_missed = 18

abbrev pub false_total : ℕ
false_total = 19

abbrev pub not_a_sender : ℕ
not_a_sender = 20
