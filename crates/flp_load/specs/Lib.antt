-- The circuit of a text, from the relations between bytes and answers down to the laws.
-- the circuit that a text is loaded as
pub mod Loaded
-- the first fault of a text that has none
pub mod Fault
-- what they promise
pub mod Laws
