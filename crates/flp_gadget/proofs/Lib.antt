-- The lemmas of gadgets. Crates above cite those of `pub mod`.
-- sums over groups of one size
mod GroupLemmas
-- kinds in their flat form
mod FlatLemmas
-- the text of steps by which a kind is made
mod TextLemmas
-- the coefficients of a kind's formula
pub mod FormulaLemmas
