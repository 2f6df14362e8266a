-- One record, from its words up to the verdict on it.
-- the words of the shares, and their sums
pub mod Parts
-- the words as contracts see them
pub mod Words
-- the verdict, the outs and the verifiers
pub mod Verdict
-- a worker as contracts see it
pub mod Worker
-- the room that it has
pub mod Room
