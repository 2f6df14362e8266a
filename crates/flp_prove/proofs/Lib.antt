-- the points on which a gadget is evaluated
pub mod RoomLemmas
-- lists of words in one
pub mod JoinedLemmas
-- polynomials and their values on larger domains
pub mod TransformLemmas
-- calls in the direct reading
pub mod CallLemmas
-- the search for a check that is not 0
pub mod CheckLemmas
-- the coefficients of a gadget at its wires
pub mod PolynomialLemmas
