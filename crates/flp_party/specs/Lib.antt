-- Share files, and the command `deal` that writes them. From what stands in a file up to what was written.
-- what a party gets of a batch
pub mod Share
-- what makes it record by record
pub mod Dealing
-- what was written, by the bytes of the whole batch
pub mod Reply
