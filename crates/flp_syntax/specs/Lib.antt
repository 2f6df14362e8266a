-- Circuit text, from its tokens and trees up to what every circuit that passes the check keeps.
-- what tokens are written as
pub mod Tokens
-- trees as plain data
pub mod Tree
-- the types of the program as these trees
pub mod View
-- trees as data of contracts, which are had back from numbers
pub mod Codes
-- trees that a text can have
pub mod WellFormed
-- what is shared and what is public
pub mod Sorts
-- what names and indices stand for
pub mod Scope
-- circuits in which nothing is out of range
pub mod Fits
-- circuits that are linear in what is shared
pub mod Linear
