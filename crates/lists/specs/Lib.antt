-- tests, and proofs by their answers
pub mod Tests
-- what every entry has, the last entry, the entries that pass a test, and sorted lists
pub mod Every
pub mod Last
pub mod Select
pub mod Sorted
-- which numbers a list has, and how often; tests over its entries and over the numbers below a limit
pub mod Count
pub mod Listed
pub mod DistinctValues
pub mod Find
-- sums, what remains of a list without the entries of another, least values, and the lowest of the cheapest numbers
pub mod Sums
pub mod Remaining
pub mod Least
pub mod Cheapest
-- sublists, and the entries of a list of any kind
pub mod Sublists
pub mod Members
-- rising numbers
pub mod Numbers
pub mod Below
pub mod Rising
-- lists put one after the other, tables written over, lists stored from a place on, the rest of a list
pub mod Joined
pub mod Over
pub mod Stores
pub mod Values
pub mod Rest
