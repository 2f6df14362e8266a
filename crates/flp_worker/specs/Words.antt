-- The words of a record as contracts see them.
use Rattle.std.specs.Prelude.{ℕ, List}
use Rattle.flp_report.specs.declared.shape.Shape.{Shape}
use Rattle.flp_worker.specs.declared.words.Words.{Words}

-- the shape of the record
abbrev pub shape_held : Words → Shape
shape_held w = w.shape

-- and all its words
abbrev pub words_held : Words → List ℕ
words_held w = w.all.now
