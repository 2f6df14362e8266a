-- what the constant 1 counts as on a share
pub mod UnitLemmas
-- the first gadget whose point lies in its domain
pub mod DomainLemmas
-- checks, combined
pub mod CheckLemmas
-- decisions
pub mod DecisionLemmas
-- answers, gadget by gadget
pub mod AnswerLemmas
-- the values of wires, call by call
pub mod WireLemmas
-- the part of a gadget, and parts in order
pub mod VerifierLemmas
-- the weights of all gadgets
pub mod WeightLemmas
-- sums of verifiers, and honest proofs
pub mod LawLemmas
