-- Counting what passes a test.
-- one thing, and lists of choices
pub mod Count
-- the law of lists of choices
pub mod Laws
