-- What is found of the proofs of a record, up to the text of the command `explain`.
-- the weak word of a proof of a record
pub mod Found
-- how many values of it let a false record through
pub mod Laws
-- what is told of an encoding
pub mod Told
-- the standard circuit of a batch
pub mod Standard
-- the text
pub mod Text
-- what explains one record after another
pub mod Explaining
