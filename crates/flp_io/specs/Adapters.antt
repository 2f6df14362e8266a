-- What contracts see of std's readers and writers as sources and sinks.
use Rattle.std.specs.Prelude.{ℕ}
use Rattle.flp_io.specs.declared.adapters.ReaderSource.{ReaderSource}
use Rattle.flp_io.specs.declared.adapters.WriterSink.{WriterSink}

-- the reader that a source reads from
abbrev pub reader_of : {R : Type 0} → ReaderSource R → R
reader_of source = source.reader

-- how often it failed so far
abbrev pub read_faults : {R : Type 0} → ReaderSource R → ℕ
read_faults source = source.faults

-- the writer that a sink writes to
abbrev pub writer_of : {W : Type 0} → WriterSink W → W
writer_of sink = sink.writer

-- how often it failed so far
abbrev pub write_faults : {W : Type 0} → WriterSink W → ℕ
write_faults sink = sink.faults
