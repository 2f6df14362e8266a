-- Measurements read back from words, and what joint words tell, from the words up.
-- which words are the encoding of a measurement
pub mod Decoding
-- what joint words tell of words
pub mod Caught
-- what is known of them
pub mod Laws
