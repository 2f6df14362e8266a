-- How an encoding is read where a proof answers the calls.
use Rattle.std.specs.Prelude.{ℕ, ◌≡◌, List, length}
use Rattle.flp_meaning.specs.Proof.{answers_in}
use Rattle.flp_plan.specs.View.{Compiled}

-- the parts of a reading of an unshared encoding, with what this proof answers
pub record IsReadByProof (plan : Compiled) (proof publics x answers : List ℕ) (unit : ℕ) : Type 0 where
  pub values : length publics ≡ length plan.steps
  pub encoding : length x ≡ plan.circuit.meas
  pub answered : answers ≡ answers_in plan.circuit proof
  pub whole : unit ≡ 1
