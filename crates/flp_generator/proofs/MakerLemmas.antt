-- What is made of equal parts is equal.
use Rattle.std.proofs.Common.{ℕ, ◌≡◌, List, ◌++◌, Option}
use Rattle.flp_syntax.specs.declared.syntax.Params.{Params}
use Rattle.flp_syntax.specs.Tree.{Program}
use Rattle.flp_meaning.specs.Proof.{honest_proof}
use Rattle.flp_generator.specs.Input.{trial_encoding}

-- an encoding and its proof
pub same-unshared : (params : Option Params) (circuit : Program) (meas k k' : ℕ) (joint joint' seeds seeds' : List ℕ) → k ≡ k' → joint ≡ joint' → seeds ≡ seeds'
    → trial_encoding params meas k ++ honest_proof circuit (trial_encoding params meas k) joint seeds
    ≡ trial_encoding params meas k' ++ honest_proof circuit (trial_encoding params meas k') joint' seeds'
same-unshared params circuit meas k k' joint joint' seeds seeds' number first second =
    λ i. trial_encoding params meas (number i) ++ honest_proof circuit (trial_encoding params meas (number i)) (first i) (second i)

-- the shares, and the words behind them
pub same-words : (shares shares' joint joint' query query' : List ℕ) → shares ≡ shares' → joint ≡ joint' → query ≡ query' → shares ++ (joint ++ query) ≡ shares' ++ (joint' ++ query')
same-words shares shares' joint joint' query query' first second third = λ i. first i ++ (second i ++ third i)
