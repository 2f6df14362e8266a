-- What is said of a whole batch file, and of a walk through it. From faults up to what a command writes.
-- faults of calls below, as those of a walk
pub mod Fault
-- how a call ended, whatever it answers
pub mod Ends
-- what records are judged by
pub mod Setting
-- what the records that are made of a job file are made by
pub mod JobSetting
-- the two formats of files
pub mod Format
-- a whole file of either format: what it is, or its first fault, and how much of it is read
pub mod File
-- a line for each record
pub mod Lines
-- which records are settled where an input has a fault
pub mod Cut
-- where a reader stands behind the head
pub mod Front
-- where it stands among the records, and how reading these fails
pub mod Among
-- what opening a batch gave
pub mod Opened
-- one segment of records after the other
pub mod Walk
-- what a command wrote, by the bytes of the whole file
pub mod Reply
