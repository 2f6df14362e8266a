-- No job file has two answers.
use Rattle.std.proofs.Common.{◌≡◌, ℕ, Bool, List, Option, Some, None, sym, ap, subst, ◌∙◌}
use Rattle.flp_report.specs.Job.{jobs_of}
use Rattle.flp_batch.specs.declared.fault.EngineFault.{EngineFault}
use Rattle.flp_batch.specs.JobSetting.{JobSetting}
use Rattle.flp_batch.specs.Format.{job_files}
use Rattle.flp_batch.specs.File.{HasSetting, IsFile, IsFault}
use Rattle.flp_jobs.specs.declared.fault.PlaceFault.{PlaceFault}
use Rattle.flp_jobs.specs.declared.fault.ProveFault.TheVariants.{File, Place}
use Rattle.flp_jobs.specs.Place.{bad_place}
use Rattle.flp_jobs.specs.declared.rules.Rules.{Rules}
use Rattle.flp_jobs.specs.Rules.{IsBadPlace}
use Rattle.flp_jobs.specs.Laws.{OneSetting, OneRefusal, NeverBoth}

-- what is known of files of both formats, for job files
abbrev pub SettingIsOne : Type 0
SettingIsOne =
    (written : Bool) (bytes : List ℕ) (setting other : JobSetting) → HasSetting (job_files written) bytes setting.params setting
    → HasSetting (job_files written) bytes other.params other → setting ≡ other

abbrev pub FaultIsOne : Type 0
FaultIsOne = (written : Bool) (bytes : List ℕ) (fault other : EngineFault) → IsFault (job_files written) bytes fault → IsFault (job_files written) bytes other → fault ≡ other

abbrev pub FilesHaveNoFault : Type 0
FilesHaveNoFault =
    (written : Bool) (bytes : List ℕ) (setting : JobSetting) (fault : EngineFault) → IsFile (job_files written) bytes setting.params setting
    → IsFault (job_files written) bytes fault → ⊥

pub one_setting : SettingIsOne → OneSetting
one_setting one written bytes setting other p q = one written bytes setting other p.has q.has

no-some : {A : Type 0} (a : A) → None ≡ Some a → ⊥
no-some a none = cc

same-some : {A : Type 0} (o : Option A) (a b : A) → o ≡ Some a → o ≡ Some b → a ≡ b
same-some o a b p q = let same : Some a ≡ Some b = sym p ∙ q in cc

-- the bad place of a file, with any setting of it
place-with : SettingIsOne → (rules : Rules) (bytes : List ℕ) (setting : JobSetting) (place : ℕ) (fault : PlaceFault)
    → HasSetting (job_files rules.written) bytes setting.params setting → IsBadPlace rules bytes place fault
    → bad_place rules.joints setting (jobs_of setting.shape bytes) ≡ Some (place, fault)
place-with one rules bytes setting place fault has f =
    let P : JobSetting → Type 0 = λ s. bad_place rules.joints s (jobs_of s.shape bytes) ≡ Some (place, fault) in
    subst P (one rules.written bytes f.setting setting f.is_file.has has) f.is

pub never_both : SettingIsOne → FilesHaveNoFault → NeverBoth
never_both one never rules bytes setting (File fault) p q = never rules.written bytes setting fault p.is_file q
never_both one never rules bytes setting (Place place fault) p q = no-some (place, fault) (sym p.all_good ∙ place-with one rules bytes setting place fault p.is_file.has q)

-- a file has one bad place
one_place : SettingIsOne → (rules : Rules) (bytes : List ℕ) (place other : ℕ) (fault more : PlaceFault) → IsBadPlace rules bytes place fault
    → IsBadPlace rules bytes other more → Place place fault ≡ Place other more
one_place one rules bytes place other fault more p q =
    let same =
    same-some (bad_place rules.joints p.setting (jobs_of p.setting.shape bytes)) (place, fault) (other, more) p.is (place-with one rules bytes p.setting other more p.is_file.has q)
    in
    ap (λ (pair : ℕ × PlaceFault). Place pair.0 pair.1) same

pub one_refusal : SettingIsOne → FaultIsOne → FilesHaveNoFault → OneRefusal
one_refusal one first never rules bytes (File a) (File b) p q = ap File (first rules.written bytes a b p q)
one_refusal one first never rules bytes (File a) (Place place fault) p q = absurd (never rules.written bytes q.setting a q.is_file p)
one_refusal one first never rules bytes (Place place fault) (File b) p q = absurd (never rules.written bytes p.setting b p.is_file q)
one_refusal one first never rules bytes (Place place fault) (Place other more) p q = one_place one rules bytes place other fault more p q
