-- The nonces that are known, from lists of nonces up.
-- which nonces are in a list
pub mod Among
-- nonces that are added to a list at their places
pub mod Order
-- the nonces of records
pub mod Met
-- what is known
pub mod Known
-- the lines of claims
pub mod Claims
-- what is put through a block
pub mod Puts
