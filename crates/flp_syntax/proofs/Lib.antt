-- lists of a text, from one element on
pub mod Rests
-- the turns of loops
pub mod Turns
-- what is public in a list of parts
pub mod Publics
