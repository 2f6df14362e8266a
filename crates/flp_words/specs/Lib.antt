-- From the words to a command.
-- a text as a number in a range
pub mod Number
-- what `clap` is told
pub mod Apps
-- the command of the words
pub mod Command
