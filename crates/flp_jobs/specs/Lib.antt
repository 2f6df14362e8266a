-- A command over a job file, and the command `prove`, from the file that is read up to the batch that is written. Which bytes
-- are a job file is said by flp_batch.
-- what is said of a fault
pub mod Fault
-- what holds of what records are made by
pub mod Setting
-- what a job says, and its encoding
pub mod Encoding
-- which places are bad, and why
pub mod Place
-- what a command makes of a job file, by its rules
pub mod Rules
-- the record that is made of a job, and the batch
pub mod Record
-- what reading a job file gave
pub mod Reading
-- what `prove` asks of a job file, and what it wrote
pub mod Reply
-- the room for judging places
pub mod Judge
-- the room for making records
pub mod Maker
-- what is made is a batch of honest reports
pub mod Laws
