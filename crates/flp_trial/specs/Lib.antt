-- The command `trial`, from the lines that it writes up to what it did.
-- the text that is written
pub mod Text
-- what a summary says of a batch
pub mod Summary
-- what is made of an input, and what a run did with its input and its output
pub mod Reply
-- that an input has one reply
pub mod Laws
-- what is found at each place
pub mod Places
