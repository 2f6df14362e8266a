-- One segment verified by workers, from one record up to the whole crew.
-- what is found of the records, and the rows that they bring
pub mod Findings
-- what a worker notes, and verdicts in their places
pub mod Notes
-- what one worker verifies with
pub mod Verifier
-- the segment as contracts see it
pub mod Round
-- all workers, and the verdicts that they found
pub mod Crew
