-- What is said of the reports of a batch, and what policies make of it, from the parts up.
-- which verdicts let a report count
pub mod Verdicts
-- how many verdicts of each kind there are
pub mod Counts
-- how much a bound leaves
pub mod Rooms
