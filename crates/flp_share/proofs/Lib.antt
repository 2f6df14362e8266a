-- The lemmas of shares. Crates above cite those of `pub mod`.
-- differences and sums of shares
pub mod Sharings
-- all shares but one
mod OtherShares
