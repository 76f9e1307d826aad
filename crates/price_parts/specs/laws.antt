-- one part of a price
pub mod PriceParts
-- one price, payer by payer
pub mod SplittingLaws
-- the listed legs, one after the other
pub mod ListedLaws
