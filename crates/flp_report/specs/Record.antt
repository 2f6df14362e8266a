-- The parts of a record's bytes: the nonce, its bucket, one part for each share, and then each proof's own words.
use Rattle.std.specs.Prelude.{ℕ, ◌+◌, ◌*◌, ◌==◌, if◌then◌else◌, Option, Some, None, List, take, drop}
use Rattle.flp_report.specs.declared.shape.Shape.{Shape}
use Rattle.flp_report.specs.declared.record.Record.{Record}
use Rattle.flp_report.specs.Shape.{part_words, words_of, words_start}
use Rattle.flp_report.specs.Head.{number_at}
use Rattle.flp_report.specs.Words.{words}

-- a record's bytes
abbrev pub record_of : Record → List ℕ
record_of r = r.bytes.now

-- the shape that a record was made for
abbrev pub shape_of : Record → Shape
shape_of r = r.shape

-- the nonce of a record
abbrev pub nonce_in : List ℕ → List ℕ
nonce_in bytes = take 16 bytes

-- its bucket: version 1 has one
abbrev pub bucket_in : Shape → List ℕ → ℕ
bucket_in s bytes = if s.version == 2 then number_at 16 bytes else 0

-- the bucket that is written in it, where the version has them
abbrev pub bucket_read : Shape → List ℕ → Option ℕ
bucket_read s bytes = if s.version == 2 then Some (bucket_in s bytes) else None

-- the words of a record, numbered from 0
abbrev pub words_in : Shape → List ℕ → List ℕ
words_in s bytes = words (words_of s) (drop (words_start s) bytes)

-- the bytes of one share's part
abbrev pub share_in : Shape → List ℕ → ℕ → List ℕ
share_in s bytes share = take (8 * part_words s) (drop (words_start s + 8 * (share * part_words s)) bytes)

-- the number of the first of one proof's joint and query words
abbrev pub own_word : Shape → ℕ → ℕ
own_word s proof = s.shares * part_words s + proof * (s.joint + s.query)

-- where they begin
abbrev pub own_start : Shape → ℕ → ℕ
own_start s proof = words_start s + 8 * own_word s proof

-- the bytes of one proof's joint words
abbrev pub joint_in : Shape → List ℕ → ℕ → List ℕ
joint_in s bytes proof = take (8 * s.joint) (drop (own_start s proof) bytes)

-- the bytes of one proof's query words
abbrev pub query_in : Shape → List ℕ → ℕ → List ℕ
query_in s bytes proof = take (8 * s.query) (drop (own_start s proof + 8 * s.joint) bytes)
