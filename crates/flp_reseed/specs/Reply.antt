-- What `hide` asks of a job file, and what it wrote.
use Rattle.std.specs.Prelude.{ℕ, false, List, Option}
use Rattle.std.specs.Io.KnownBytes.{Appends}
use Rattle.flp_io.specs.Writes.{TakesPrefix}
use Rattle.flp_jobs.specs.declared.rules.Joints.TheVariants.{First}
use Rattle.flp_jobs.specs.declared.rules.Rules.{Rules}
use Rattle.flp_jobs.specs.Rules.{MakesText}
use Rattle.flp_reseed.specs.Text.{hidden_text}

-- it writes no batch, and judges all places under the joint words of the first
abbrev pub hide_rules : Rules
hide_rules = record { written = false; joints = First }

-- the input was read to its end and is a job file without a bad place, and the output grew by exactly the lines
abbrev pub WritesSeeds : (left left' taken taken' : Option (List ℕ)) → Type 0
WritesSeeds left left' taken taken' = MakesText hide_rules hidden_text (Appends taken taken') left left'

-- or by a prefix of them
abbrev pub StopsInSeeds : (left left' taken taken' : Option (List ℕ)) → Type 0
StopsInSeeds left left' taken taken' = MakesText hide_rules hidden_text (TakesPrefix taken taken') left left'
