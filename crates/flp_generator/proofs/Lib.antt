-- the words that are taken
pub mod SequenceLemmas
-- the measurements of the places
pub mod InputLemmas
-- how long a record is
pub mod RecordLemmas
-- what is made is a batch
mod LawLemmas
-- the words that are made
mod MakerLemmas
-- the batch fits its room
mod RoomLemmas
