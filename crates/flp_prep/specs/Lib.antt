-- The command `prep`, from its lines up to what it keeps on the way.
-- the lines of one party
pub mod Text
-- what prepares one record after another
pub mod Preparing
