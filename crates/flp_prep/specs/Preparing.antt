-- What prepares the records of a batch for one party.
use Rattle.std.specs.Prelude.{ℕ, List, None}
use Rattle.std.specs.List.{flat_map}
use Rattle.flp_worker.specs.Parts.{proof_numbers}
use Rattle.flp_batch.specs.Setting.{Setting}
use Rattle.flp_verdict.specs.Judging.{program_of, record_shape_of, old_claims_of, verifier_of, Follows}
use Rattle.flp_prep.specs.declared.preparing.Preparing.{Preparing}
use Rattle.flp_prep.specs.Text.{digits_of}

-- what records are judged by, whatever the parameters of the circuit
abbrev pub setting_of : Preparing → Setting
setting_of p = record { params = None; circuit = program_of p.judging; shape = record_shape_of p.judging; claims = old_claims_of p.judging }

-- whose share it tells of
abbrev pub party_of : Preparing → ℕ
party_of p = p.party

-- the digits of the verifier words that are kept of the party's share of the record that was judged last
abbrev pub digits_kept : Preparing → List ℕ
digits_kept p = flat_map (λ proof. digits_of (verifier_of p.judging p.party proof)) (proof_numbers (record_shape_of p.judging))

-- exactly these records were judged, in this order
abbrev pub HasPrepared : Preparing → List (List ℕ) → Type 0
HasPrepared p reports = Follows p.judging reports
