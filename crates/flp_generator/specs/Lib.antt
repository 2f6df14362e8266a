-- The batch of trials of a circuit, from the words that its places take up to its bytes.
-- the words that the places take
pub mod Sequence
-- what each place encodes
pub mod Input
-- what is false at every eighth place
pub mod Change
-- the record of a place
pub mod Place
-- the batch, and when it is too large
pub mod Batch
-- what it is made in
pub mod Maker
-- that it is a batch
pub mod Laws
