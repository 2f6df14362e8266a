-- Hiding, from the wires of an honest proof up to the laws.
-- the wires at the query points, and the seeds that give them
pub mod Wires
-- the laws
pub mod Laws
-- the room that a hider has
pub mod Room
-- a worked example
pub mod Examples
