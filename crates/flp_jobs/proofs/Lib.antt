-- no job file has two answers
mod LawAnswerLemmas
-- parts of lists
pub mod LawPartLemmas
-- encodings and honest proofs
pub mod LawWordLemmas
-- jobs whose place is not bad
pub mod LawPlaceLemmas
-- the record that is made of a job
pub mod LawRecordLemmas
-- the batch that is made of a job file
pub mod LawFileLemmas
-- what was read of a file, and its faults
pub mod FileLemmas
-- the parts of a job
pub mod JobLemmas
-- bad places
pub mod PlaceLemmas
-- what was written, by the bytes of the file
mod ReplyLemmas
-- what the text says of the jobs
pub mod SettingLemmas
-- records one after another
mod RecordLemmas
-- measurements that are not refused
pub mod MeasLemmas
-- faults of the input
mod CommandLemmas
