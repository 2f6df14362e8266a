-- Circuit text, from its grammar to the text of a circuit that is printed and read back. The modules named internal tell how the functions of
-- the parser and of the printer hand on; no promise of the crate needs them.
-- which trees tokens are
pub mod Grammar
-- what tokens are judged: a text, or the first fault
pub mod Verdict
-- what bytes are parsed to
pub mod Parsed
-- how tokens are written
pub mod Spelling
-- the tokens that a circuit is printed as
pub mod Print
-- circuits but for their token numbers
pub mod Bare
-- what the reading of a printed text gives
pub mod ReadBack
-- internal: tokens told apart
pub mod Marks
-- internal: what is ahead of a text while it is read
pub mod Ahead
-- internal: the tokens taken one by one
pub mod Run
-- internal: what a printer has written
pub mod Written
