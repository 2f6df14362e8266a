-- a record with another query word
pub mod ReplacedLemmas
-- false reports
pub mod FalseLemmas
-- what is told of encodings
pub mod ToldLemmas
-- the lines of a record
pub mod LineLemmas
