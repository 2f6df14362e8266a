-- which nonces are in a list
pub mod AmongLemmas
-- one element more in a list, at its place in an order
pub mod InsertLemmas
-- nonces in rising order
pub mod RisingLemmas
-- the search by bisection
pub mod BisectLemmas
-- what is known behind old claims
pub mod MetLemmas
-- what is put through a block, piece by piece
pub mod PutsLemmas
-- elements from one place up to another
pub mod RangeLemmas
-- old claims and other nonces, merged in their order
pub mod MergeLemmas
