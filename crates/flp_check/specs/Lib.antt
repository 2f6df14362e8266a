-- What a body is judged, and what is known of one that passed.
-- the limits of what is declared, and of what must be there at the end
pub mod Limits
-- faults of names and sorts, over the whole text
pub mod Flaws
-- what unrolling a body meets
pub mod Events
-- what is counted of it, and where it stops
pub mod Counts
-- the counts as the program keeps them
pub mod Held
-- the answer: the first fault of all, or the counts
pub mod Verdict
-- the limits that a body which passed keeps
pub mod Within
