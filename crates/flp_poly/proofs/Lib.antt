-- The lemmas of polynomials. Crates above cite those of `pub mod`.
-- values by Horner's rule
pub mod Horner
-- sums and products
pub mod Products
-- division by x - root
mod Quotients
-- the count of roots
pub mod Vanishing
-- the polynomial through values on a domain
pub mod Interpolation
-- weights of a domain's points
pub mod WeightLemmas
