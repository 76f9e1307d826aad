-- Decimal numbers of one digit and of several, by computation.
-- Assumes nothing.
use Rattle.std.specs.Prelude.{◌≡◌, refl}
use Rattle.desk_words.specs.Words.{ascii, decimal}

pub decimals_settled :
    (decimal 0 ≡ ascii "0") × (decimal 9 ≡ ascii "9") × (decimal 10 ≡ ascii "10") × (decimal 1009 ≡ ascii "1009")
    × (decimal 18446744073709551615 ≡ ascii "18446744073709551615")
unfolding decimal
decimals_settled = (refl, refl, refl, refl, refl)
