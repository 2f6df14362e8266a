-- The field of the words, from the modulus up.
pub mod Word
-- the laws of a field
pub mod Laws
-- the order of a word
pub mod Order
-- roots of unity and their domains
pub mod Domain
-- sums of lists of words, word by word
pub mod Sums
