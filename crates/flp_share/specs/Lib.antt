-- Additive shares.
-- sums that grow by a list at a time
pub mod Adding
-- shares of an encoding
pub mod Shares
