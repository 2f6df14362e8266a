-- The lemmas of the standard circuits. What other crates cite is public.
-- bit lengths, and lists of bits
mod BitLemmas
-- what a measurement that is not refused keeps to
pub mod EncodingLemmas
-- what runs give
mod Gives
-- what the parts of the circuits mean
mod Directly
-- what the circuits mean
mod Programs
-- the circuits are well formed
pub mod WellLemmas
-- words of lists, and sums over them
pub mod WordLemmas
-- why encodings are valid
pub mod Encodings
-- walks that meet no fault
mod Meets
-- what unrolling the parts of the circuits meets
mod Unrolled
-- what parameters keep to
pub mod Fitting
-- `check` finds no fault
pub mod Passing
-- how many calls the circuits take
mod CallCounts
-- their plans are small
pub mod Plans
