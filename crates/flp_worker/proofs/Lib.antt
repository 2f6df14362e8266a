-- The lemmas of one record.
-- sums over the shares
pub mod AddingLemmas
-- lists that are filled from the front
pub mod PrefixLemmas
-- words of the field, and where parts stand
pub mod PartLemmas
-- the first point in a domain
pub mod InsideLemmas
-- how many public values there are
pub mod PublicLemmas
-- the sum of the shares' verifiers decides
pub mod SumLemmas
-- where the verifier of a share stands
pub mod PlaceLemmas
-- the verdict, the outs and the verifiers, from what was found
pub mod VerdictLemmas
