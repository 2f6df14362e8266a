-- What a segment has room for and what the last reading left in it.
use Rattle.std.specs.Prelude.{ℕ, ◌*◌, List, take, drop}
use Rattle.flp_report.specs.declared.shape.Shape.{Shape}
use Rattle.flp_report.specs.declared.segment.Segment.{Segment}
use Rattle.flp_report.specs.Shape.{bytes_of}
use Rattle.flp_report.specs.Pieces.{pieces}

-- the shape that it was made for
abbrev pub shape_in : Segment → Shape
shape_in s = s.shape

-- how many records it has room for
abbrev pub room_of : Segment → ℕ
room_of s = s.room

-- how many records the last reading left in it
abbrev pub used_in : Segment → ℕ
used_in s = s.used

-- the bytes of those records, one after the other
abbrev pub held_in : Segment → List ℕ
held_in s = take (s.used * bytes_of s.shape) s.bytes.items

-- the bytes of the record of this number
abbrev pub record_in : Segment → ℕ → List ℕ
record_in s index = take (bytes_of s.shape) (drop (index * bytes_of s.shape) s.bytes.items)

-- the records that the last reading left in it
abbrev pub records_in : Segment → List (List ℕ)
records_in s = pieces (bytes_of s.shape) s.used (held_in s)
