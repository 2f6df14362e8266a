-- digits that are the same, proof after proof
pub mod DigitLemmas
-- the line of a record
pub mod LineLemmas
