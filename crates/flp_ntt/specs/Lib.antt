-- Transforms, from the lengths that they take to the levels of the fast one.
pub mod TransformSize
-- what a level of the fast transform asks and leaves
pub mod Levels
-- the value at a point by inverses
pub mod PointFormula
