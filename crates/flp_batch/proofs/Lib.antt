-- the lines of some records and of more
pub mod LineLemmas
-- what the bytes of a file say behind its front
pub mod FileLemmas
-- the records of one segment
pub mod PassLemmas
-- one segment after another
pub mod WalkLemmas
-- which lines stand written where the input has a fault
pub mod CutLemmas
-- how the reading fails, and what is said of a walk then
pub mod AmongLemmas
-- the whole file, from what was opened
pub mod BatchLemmas
-- two shapes with the same numbers
mod ShapeLemmas
-- no file has two answers
pub mod AnswerLemmas
-- what opening answers
pub mod OpenLemmas
-- from one outcome of a call to what follows there
pub mod OutcomeLemmas
-- faults of calls below
pub mod FaultLemmas
-- where a reader stands
pub mod ReaderLemmas
-- what is written as a batch is one
pub mod WrittenLemmas
