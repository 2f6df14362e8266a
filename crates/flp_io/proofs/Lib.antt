-- The lemmas of sources and sinks, which crates above cite.
-- what several calls did with one source or sink
pub mod UsesLemmas
-- what several reads did
pub mod ReadLemmas
-- what several writes did
pub mod WriteLemmas
-- what a block did at several pieces
pub mod BlockLemmas
