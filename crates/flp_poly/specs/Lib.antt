-- Polynomials as lists of coefficients, from their value up.
pub mod Polynomial
-- the laws of their values, degrees and roots
pub mod PolynomialLaws
-- the polynomial through values on a domain
pub mod Interpolation
-- the weights of a domain's points at another point
pub mod Weights
