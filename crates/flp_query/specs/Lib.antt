-- Queries, from the room of a challenge up to the laws.
-- the room that a challenge has
pub mod Room
-- what the constant 1 counts as on a share
pub mod Unit
-- what the shares of a proof have in common
pub mod Challenge
-- the wires of a gadget, summed up
pub mod Wires
-- the laws
pub mod Laws
