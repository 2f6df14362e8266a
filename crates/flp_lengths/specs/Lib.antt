-- The command `lengths`, from what it reads up to what it did.
-- the text that is judged, and what it is loaded as
pub mod Reading
-- the text that is written
pub mod Text
-- what a run did with its input and its output
pub mod Reply
