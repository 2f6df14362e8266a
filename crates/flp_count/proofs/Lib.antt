-- The lemmas of counting.
-- none, one, and lists of a head and a tail
pub mod CountLemmas
-- lists of choices
pub mod ChoiceLemmas
