-- the lines of a walk
pub mod TextLemmas
-- what a tally's totals are to a batch
pub mod TotalLemmas
-- what is printed of a batch that was counted
pub mod EndingLemmas
-- policies that are told a verdict, and the first that does not allow the release
pub mod ToldLemmas
-- which records are replayed
pub mod MarkLemmas
-- verdicts that are told one after another
pub mod TellingLemmas
-- records beside their verdicts
pub mod LineLemmas
-- what the runs over a batch's segments take together
pub mod RunLemmas
-- what is kept behind one segment more
pub mod SettledLemmas
-- from all records to the whole batch
pub mod WholeLemmas
mod ReleasedLemmas
