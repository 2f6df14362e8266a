-- Sources and sinks, from counts of faults up to the adapters.
-- counts of faults, and when one rises
pub mod Faults
-- what reads take from a source
pub mod Reads
-- what writes add to a sink, and the room that they spend
pub mod Writes
-- what a block does with the pieces that it is given
pub mod Block
-- what contracts see of a source over memory
pub mod SourceState
-- and of a sink
pub mod SinkState
-- and of std's readers and writers
pub mod Adapters
