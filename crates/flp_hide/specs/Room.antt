-- The room that a hider has for the sizes that it was made for.
use Rattle.std.specs.Prelude.{ℕ, ◌≡◌, List}
use Rattle.flp_plan.specs.declared.sizes.Sizes.{Sizes}
use Rattle.flp_query.specs.Room.{most_points}

-- what a reader of verifiers was made for, and the verifier that it made last
pub record Reading : Type 0 where
  pub sizes : Sizes
  pub verifier : List ℕ

-- for the verifier of an honest proof, where the query's room is for these sizes too
pub record HoldsVerifier (sizes query : Sizes) (proof verifier : ℕ) : Type 0 where
  pub for_query : query ≡ sizes
  pub for_proof : proof ≡ sizes.lengths.proof
  pub for_verifier : verifier ≡ sizes.lengths.verifier

-- for two lists with a word for each wire, and for the weights of a domain
pub record HoldsWires (sizes : Sizes) (low high weights : ℕ) : Type 0 where
  pub for_low : low ≡ sizes.lengths.prove
  pub for_high : high ≡ sizes.lengths.prove
  pub for_weights : weights ≡ most_points
