-- What `prove` asks of a job file, and what it wrote.
use Rattle.std.specs.Prelude.{ℕ, true, List, Option}
use Rattle.std.specs.Io.KnownBytes.{Appends}
use Rattle.flp_io.specs.Writes.{TakesPrefix}
use Rattle.flp_batch.specs.JobSetting.{JobSetting}
use Rattle.flp_jobs.specs.declared.rules.Joints.TheVariants.{Own}
use Rattle.flp_jobs.specs.declared.rules.Rules.{Rules}
use Rattle.flp_jobs.specs.Record.{batch_text}
use Rattle.flp_jobs.specs.Rules.{IsGoodFile, MakesText}

-- it writes the batch, and judges each place under its own joint words
abbrev pub prove_rules : Rules
prove_rules = record { written = true; joints = Own }

-- a file is a job file without a bad place, and this is the setting of its jobs
abbrev pub IsProvable : (bytes : List ℕ) → JobSetting → Type 0
IsProvable bytes setting = IsGoodFile prove_rules bytes setting

-- the input was read to its end and is a job file without a bad place, and the output grew by exactly the batch
abbrev pub WritesBatch : (left left' taken taken' : Option (List ℕ)) → Type 0
WritesBatch left left' taken taken' = MakesText prove_rules batch_text (Appends taken taken') left left'

-- or by a prefix of it
abbrev pub StopsInBatch : (left left' taken taken' : Option (List ℕ)) → Type 0
StopsInBatch left left' taken taken' = MakesText prove_rules batch_text (TakesPrefix taken taken') left left'
