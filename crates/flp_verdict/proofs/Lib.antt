-- one record more
pub mod JudgedLemmas
-- known nonces
pub mod KnownLemmas
-- what a `Judging` keeps, one record more
pub mod FollowsLemmas
-- the verdicts place by place
pub mod PlaceLemmas
-- honest records
pub mod HonestLemmas
-- sums of measurements
pub mod MeasuredLemmas
-- lists that are appended one after another
pub mod BehindLemmas
-- sums over a list in parts
pub mod PartTotals
-- a batch in parts
pub mod ApartLemmas
