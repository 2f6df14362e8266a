-- What the program does, from its answers up to a run of each command.
-- statuses and lines
pub mod Answers
-- an input or an output over a run
pub mod Stream
-- a run, whichever command it is of
pub mod Runs
-- the end of a command's call
pub mod Ends
-- each command
pub mod Commands
-- the laws of what is written
pub mod Headline
