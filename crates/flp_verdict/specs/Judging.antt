-- What is kept over the records that were judged. From the parts of a `Judging` up.
use Rattle.std.specs.Prelude.{◌≡◌, ℕ, List, map}
use Rattle.flp_syntax.specs.Tree.{Program}
use Rattle.flp_report.specs.declared.shape.Shape.{Shape}
use Rattle.flp_report.specs.Nonces.{nonces_in}
use Rattle.flp_report.specs.Record.{nonce_in}
use Rattle.flp_known.specs.Order.{with_nonces}
use Rattle.flp_known.specs.Met.{met_in}
use Rattle.flp_worker.specs.Worker.{verifier_kept}
use Rattle.flp_verdict.specs.declared.judging.Judging.{Judging}

-- the circuit of the records, their shape, and the old claims
abbrev pub program_of : Judging → Program
program_of j = j.plan.now.circuit

abbrev pub record_shape_of : Judging → Shape
record_shape_of j = j.shape

abbrev pub old_claims_of : Judging → List (List ℕ)
old_claims_of j = nonces_in j.claims.now

-- the row that it keeps of the record that was judged last, and the verifier of a share for a proof
abbrev pub row_of : Judging → List ℕ
row_of j = j.worker.row

abbrev pub verifier_of : Judging → (share proof : ℕ) → List ℕ
verifier_of j share proof = verifier_kept j.worker share proof

-- it judges records of the same circuit and shape, behind the same old claims
pub record JudgesAlike (old new : Judging) : Type 0 where
  pub program : program_of new ≡ program_of old
  pub shape : record_shape_of new ≡ record_shape_of old
  pub claims : old_claims_of new ≡ old_claims_of old

-- exactly these records were judged, in this order: it knows their nonces and the old claims, and no other
pub record Follows (j : Judging) (reports : List (List ℕ)) : Type 0 where
  pub known : with_nonces (old_claims_of j) (met_in j.met) ≡ with_nonces (old_claims_of j) (map nonce_in reports)
