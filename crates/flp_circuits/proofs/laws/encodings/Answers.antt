use Rattle.flp_circuits.proofs.Encodings.{encodings_are_valid, encodings_have_length, outs_are_vectors}
use Rattle.flp_circuits.proofs.laws.encodings.Goals as goal

pub returns-clause-valid : goal.returns-clause-valid
returns-clause-valid c = encodings_are_valid

pub returns-clause-vectors : goal.returns-clause-vectors
returns-clause-vectors c = outs_are_vectors

pub returns-clause-lengths : goal.returns-clause-lengths
returns-clause-lengths c = encodings_have_length
