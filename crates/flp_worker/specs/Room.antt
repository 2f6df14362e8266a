-- The room that a worker has for what it was made for.
use Rattle.std.specs.Prelude.{ℕ, ◌≡◌, ◌*◌}
use Rattle.flp_report.specs.declared.shape.Shape.{Shape}
use Rattle.flp_report.specs.Shape.{words_of}
use Rattle.flp_plan.specs.declared.sizes.Sizes.{Sizes}

-- how many words there is room for: those of a record, the verifiers, the sum of those of one proof, an encoding and the row
pub record HasRoom (shape : Shape) (sizes : Sizes) (words verifiers sum encoding row : ℕ) : Type 0 where
  pub for_words : words ≡ words_of shape
  pub for_verifiers : verifiers ≡ shape.proofs * shape.shares * sizes.lengths.verifier
  pub for_sum : sum ≡ sizes.lengths.verifier
  pub for_encoding : encoding ≡ sizes.lengths.meas
  pub for_row : row ≡ sizes.lengths.outs
