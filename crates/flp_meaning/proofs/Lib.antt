-- The lemmas of fully linear proofs. What other crates cite is public.
-- one circuit under two readings, part by part
mod PartByPart
-- which values and calls the answers decide
mod Answers
-- what no reading changes
pub mod Fixed
-- the check at which an encoding fails
pub mod FailingLemmas
-- public expressions, and outs
pub mod Public
pub mod Outs
-- linear expressions
pub mod LinearLemmas
-- sums of readings
mod Sums
-- calls: their gadgets, their inputs, their numbers
mod CallLemmas
-- first numbers and least powers
pub mod PowerLemmas
-- parts one after another, and where they start
pub mod PartLemmas
pub mod StartLemmas
-- what the value of a gadget depends on
mod ValueLemmas
-- wires, and decisions
pub mod WireLemmas
pub mod Decisions
-- the honest proof
pub mod Honest
-- verifiers of shares
pub mod Verifiers
-- worked examples
mod Examples
