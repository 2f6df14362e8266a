-- The lemmas of hiding.
-- the weight of the first point of a domain
pub mod WeightLemmas
-- words for each gadget, one gadget after another
pub mod PartLemmas
-- the value of one wire, and its seed
pub mod WireLemmas
-- all wires, and their seeds
pub mod SeedLemmas
-- the verifiers of honest proofs
pub mod VerifierLemmas
-- the worked example
pub mod ExampleLemmas
