-- How long the parts of a record are, in words and in bytes, and how many records are read at once.
use Rattle.std.specs.Prelude.{ℕ, ◌+◌, ◌*◌, ◌/◌, ◌==◌, min, max, if◌then◌else◌}
use Rattle.flp_report.specs.declared.shape.Shape.{Shape}

-- the words of one share's part: its share of the encoding, and then of each proof
abbrev pub part_words : Shape → ℕ
part_words s = s.meas + s.proofs * s.proof

-- the words of a record: the part of each share, and then per proof its joint words and its query words
abbrev pub words_of : Shape → ℕ
words_of s = s.shares * part_words s + s.proofs * (s.joint + s.query)

-- where the words of a record begin: behind the nonce, and in version 2 behind its bucket too
abbrev pub words_start : Shape → ℕ
words_start s = if s.version == 2 then 20 else 16

-- the bytes of a record: what stands in front of its words, and these
abbrev pub bytes_of : Shape → ℕ
bytes_of s = words_start s + 8 * words_of s

-- the numbers that are summed: the outs of each bucket
abbrev pub width_of : Shape → ℕ
width_of s = s.buckets * s.outs

-- the records of a segment
abbrev pub segment_of : Shape → ℕ
segment_of s = min 1024 (max 1 (67108864 / bytes_of s))
