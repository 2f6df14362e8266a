-- From what was made of the jobs that were read to what is said of all bytes of the file.
use Rattle.std.proofs.Common.{◌≡◌, ℕ, List, Option, Some, None, sym, ap, ap₂, subst, ◌∙◌}
use Rattle.std.specs.Prelude.{IfSome}
use Rattle.std.proofs.KnownBytes.{Consumes-whole}
use Rattle.flp_report.specs.declared.header.Header.{Header}
use Rattle.flp_report.specs.JobParts.{jobs_in}
use Rattle.flp_jobs.specs.declared.fault.PlaceFault.{PlaceFault}
use Rattle.flp_jobs.specs.declared.fault.ProveFault.TheVariants.{Place}
use Rattle.flp_jobs.specs.declared.file.JobFile.{JobFile}
use Rattle.flp_jobs.specs.declared.rules.Rules.{Rules}
use Rattle.flp_jobs.specs.Place.{bad_place}
use Rattle.flp_jobs.specs.Reading.{setting_of, text_read, Reads}
use Rattle.flp_jobs.specs.Rules.{IsGoodFile, IsRefusedBy, JobText, text_on, MakesText}

module _ (rules : Rules) (left left' : Option (List ℕ)) (file : JobFile) (reads : Reads rules.written left left' file) where
  -- a text of the jobs that were read is that of the file
  text-same : (text : JobText) → text_read text file ≡ text_on text (setting_of file) reads.bytes
  text-same text = ap₂ (λ (h : Header) (l : List (List ℕ)). text (setting_of file) h l) (sym reads.header) (sym reads.jobs)

  good-file : bad_place rules.joints (setting_of file) (jobs_in file.jobs) ≡ None → IsGoodFile rules reads.bytes (setting_of file)
  good-file good =
      record { is_file = reads.is_file; all_good = ap (λ (l : List (List ℕ)). bad_place rules.joints (setting_of file) l) reads.jobs ∙ good }

  -- and this holds of it
  pub MakesText-from : (text : JobText) (Written : List ℕ → Type 0) → bad_place rules.joints (setting_of file) (jobs_in file.jobs) ≡ None
      → Written (text_read text file) → MakesText rules text Written left left'
  MakesText-from text Written good written =
      record {
        bytes = reads.bytes;
        setting = setting_of file;
        read = reads.read;
        ended = reads.ended;
        good = good-file good;
        written = subst Written (text-same text) written;
      }

  -- a place is bad
  pub place-refused : (place : ℕ) (fault : PlaceFault) → bad_place rules.joints (setting_of file) (jobs_in file.jobs) ≡ Some (place, fault)
      → IfSome left (λ bytes. IsRefusedBy rules bytes (Place place fault))
  place-refused place fault bad =
      Consumes-whole left left' reads.bytes (λ bytes. IsRefusedBy rules bytes (Place place fault)) reads.read reads.ended
      (record {
        setting = setting_of file;
        is_file = reads.is_file;
        is = ap (λ (l : List (List ℕ)). bad_place rules.joints (setting_of file) l) reads.jobs ∙ bad;
      })
