-- What makes of each record what a party gets of it.
use Rattle.std.specs.Prelude.{ℕ}
use Rattle.flp_report.specs.declared.shape.Shape.{Shape}
use Rattle.flp_batch.specs.Lines.{Wording, lines_of}
use Rattle.flp_party.specs.declared.dealing.Dealing.{Dealing}
use Rattle.flp_party.specs.Share.{dealt_record}

-- the shape of the records
abbrev pub shape_dealt : Dealing → Shape
shape_dealt d = d.shape

-- whose share file it is
abbrev pub party_dealt : Dealing → ℕ
party_dealt d = d.party

-- what is written of records, whatever stands before each
abbrev pub words_dealt : (party : ℕ) → Shape → Wording
words_dealt party shape = record {
  line = λ earlier. dealt_record party shape;
  text = lines_of (λ earlier. dealt_record party shape);
}
