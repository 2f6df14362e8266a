-- The lemmas of reading encodings back.
-- numbers and their bits
pub mod BitLemmas
-- bits of which one is 1
pub mod PlaceLemmas
-- what a measurement that is not refused keeps to, and which words are encodings
pub mod EncodingLemmas
-- checks that are 0, and words that are bits
pub mod CheckLemmas
-- which words pass the checks that no joint word enters
pub mod FixedLemmas
-- the call of the range check that is named
pub mod CallLemmas
-- the range check as a polynomial in one joint word
pub mod RangeLemmas
-- what joint words let pass
pub mod JointLemmas
