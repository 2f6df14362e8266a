-- The lemmas of the field. Crates above cite those of `pub mod`.
-- congruence modulo p
pub mod Congruence
-- powers of numbers
pub mod Powers
-- a map of n places into n values
mod Pigeons
-- divisors and primes
mod Divisors
-- 7 has order p - 1
pub mod Order
-- the laws of products
pub mod ProductLemmas
-- roots of unity
pub mod RootsOfUnity
-- sums over a range of indexes
pub mod SumLemmas
-- tables of roots and of inverses
mod TableLemmas
-- lists of words, and of one length one after another
pub mod WordLists
-- the parts of a list
pub mod ListParts
-- sums of lists of words
pub mod ListSums
