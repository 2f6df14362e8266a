-- The lemmas of the transforms.
-- powers of two as sizes
mod Sizes
-- numbers with their binary digits in reverse
mod Mirrors
-- a level of the fast transform
mod Halves
-- the exchange of elements at mirrored places
mod Exchanges
-- the transforms over a root and its inverse
mod Transforms
-- weights by levels
mod WeightLevels
-- a polynomial modulo x^P - 1
mod FoldLemmas
-- the value at a point by inverses
mod FormulaLemmas
