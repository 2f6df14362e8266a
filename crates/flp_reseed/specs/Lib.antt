-- The command `hide`, from its lines up to what is printed and its laws. Which bytes are a job file, and which place is bad, is
-- said by flp_batch and flp_jobs.
-- the lines
pub mod Text
-- what `hide` asks of a job file, and what it wrote
pub mod Reply
-- the room for the seeds of one proof
pub mod Room
-- what the printed seeds hide
pub mod Laws
