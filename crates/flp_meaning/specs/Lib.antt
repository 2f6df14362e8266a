-- Fully linear proofs, from what a circuit means up to when a proof is accepted.
-- what expressions and statements mean
pub mod Meaning
-- what a circuit means, and when an encoding is valid
pub mod Circuit
-- its gadgets, and how often they are called
pub mod Gadgets
-- how many words an encoding, a proof and a verifier have
pub mod Lengths
-- how large a plan of it is
pub mod Terms
-- the wire polynomials
pub mod Wires
-- the honest proof, and what a proof answers
pub mod Proof
-- the verifier, and the decision
pub mod Verifier
-- the laws of what circuits mean
pub mod MeaningLaws
-- the laws of linear circuits
pub mod LinearLaws
-- the laws of proofs
pub mod ProofLaws
-- worked examples
pub mod Examples
