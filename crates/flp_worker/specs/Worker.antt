-- A worker as contracts see it. From what it was made for up to what it keeps of the last record.
use Rattle.std.specs.Prelude.{ℕ, ◌≡◌, ◌≤◌, ◌+◌, ◌*◌, List}
use Rattle.flp_syntax.specs.Tree.{Program}
use Rattle.flp_meaning.specs.Lengths.{lengths_of}
use Rattle.flp_meaning.specs.Proof.{words_at}
use Rattle.flp_plan.specs.View.{Compiled}
use Rattle.flp_report.specs.declared.shape.Shape.{Shape}
use Rattle.flp_plan.specs.declared.sizes.Sizes.{Sizes}
use Rattle.flp_plan.specs.Sizes.{sizes_of}

-- a shape for the records of a circuit: its words are those of the circuit, in 2 to 16 shares with 1 to 16 proofs
pub record IsShapeOf (program : Program) (shape : Shape) : Type 0 where
  pub some_shares : 2 ≤ shape.shares
  pub few_shares : shape.shares ≤ 16
  pub some_proofs : 1 ≤ shape.proofs
  pub few_proofs : shape.proofs ≤ 16
  pub meas : shape.meas ≡ (lengths_of program).meas
  pub joint : shape.joint ≡ (lengths_of program).joint
  pub query : shape.query ≡ (lengths_of program).query
  pub proof : shape.proof ≡ (lengths_of program).proof

-- what a worker was made for, and of the last record the row and the verifiers: for each proof, that of each share
pub record Working : Type 0 where
  pub shape : Shape
  pub sizes : Sizes
  pub row : List ℕ
  pub verifiers : List ℕ

-- made for records of this shape, and for a plan that asks for the same
pub record IsMadeFor (plan : Compiled) (shape : Shape) (worker : Working) : Type 0 where
  pub same_shape : worker.shape ≡ shape
  pub same_sizes : worker.sizes ≡ sizes_of plan

-- the verifier that it keeps of this share for this proof
abbrev pub verifier_kept : Working → (share proof : ℕ) → List ℕ
verifier_kept worker share proof =
    words_at
    ((proof * worker.shape.shares + share) * worker.sizes.lengths.verifier)
    worker.sizes.lengths.verifier
    worker.verifiers
