-- The five standard circuits: their parameters, encodings and texts, from the parameters up.
-- how many bits a number has, and the numbers made of bits
pub mod Bits
-- the parameters with their limits, the lengths that they give, and which of them are refused
pub mod Sizes
-- the encoding of a measurement, its vector, and which measurements are refused
pub mod Encoding
-- the circuits as syntax trees
pub mod Standard
-- their checks as plain sums
pub mod Formulas
-- what they promise
pub mod Laws
