-- Provers, from their working room up.
-- the working room of a prover, and for which plans it serves
pub mod Room
-- words row by row
pub mod Rows
