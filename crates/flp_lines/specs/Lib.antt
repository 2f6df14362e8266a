-- Lines on the error output, from their pieces up.
-- words with numbers
pub mod Pieces
-- the words of a refused circuit
pub mod Circuit
-- the words of a file that is no batch, or no job file
pub mod Batch
-- the line of each fault
pub mod Fault
