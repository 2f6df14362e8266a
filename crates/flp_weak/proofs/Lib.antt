-- The lemmas of counted soundness.
-- points at which two polynomials agree
pub mod RootLemmas
-- gadgets that lie
pub mod LieLemmas
-- checks that fail, and the words that combine them
pub mod CheckLemmas
-- which word is weak
pub mod WeakLemmas
-- choices for several proofs
pub mod ChoiceLemmas
