-- What is answered as it is to be.
-- answers that are as a case says
pub mod Wanted
