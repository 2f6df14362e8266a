-- The verdict on each record of a batch, by one fold over the records in their order. From the known nonces up.
use Rattle.std.specs.Prelude.{ℕ, List, [], ◌∷◌, ◌++◌, if◌then◌else◌, map, filter}
use Rattle.flp_syntax.specs.Tree.{Program}
use Rattle.flp_report.specs.declared.shape.Shape.{Shape}
use Rattle.flp_report.specs.Record.{nonce_in}
use Rattle.flp_policy.specs.declared.verdict.Verdict.{Verdict}
use Rattle.flp_policy.specs.declared.verdict.Verdict.TheVariants.{Replayed}
use Rattle.flp_policy.specs.Verdicts.{is_accepted}
use Rattle.flp_known.specs.Among.{is_among}
use Rattle.flp_worker.specs.Verdict.{verdict_of}

-- the nonces that are known behind some records: the old claims, and the nonces of these records
abbrev pub known_behind : (claims earlier : List (List ℕ)) → List (List ℕ)
known_behind claims earlier = claims ++ map nonce_in earlier

-- the verdict on a record behind old claims and earlier records
abbrev pub verdict_after : Program → Shape → (claims earlier : List (List ℕ)) → List ℕ → Verdict
verdict_after program shape claims earlier report =
    if is_among (known_behind claims earlier) (nonce_in report) then Replayed else verdict_of program shape report

-- a record beside its verdict
pub record Judged : Type 0 where
  pub report : List ℕ
  pub verdict : Verdict

-- the record beside its verdict behind these
abbrev pub judged_after : Program → Shape → (claims earlier : List (List ℕ)) → List ℕ → Judged
judged_after program shape claims earlier report =
    record { report = report; verdict = verdict_after program shape claims earlier report }

-- each record beside its verdict, behind some earlier records
abbrev pub judged_from : Program → Shape → (claims earlier reports : List (List ℕ)) → List Judged
judged_from program shape claims earlier [] = []
judged_from program shape claims earlier (report ∷ reports) =
    judged_after program shape claims earlier report
    ∷ judged_from program shape claims (earlier ++ report ∷ []) reports

-- each record of a batch beside its verdict
abbrev pub judged : Program → Shape → (claims reports : List (List ℕ)) → List Judged
judged program shape claims reports = judged_from program shape claims [] reports

-- the verdicts on a batch, in its order
abbrev pub verdicts_of : Program → Shape → (claims reports : List (List ℕ)) → List Verdict
verdicts_of program shape claims reports = map (λ j. j.verdict) (judged program shape claims reports)

-- the records that are accepted, in their order
abbrev pub accepted_in : List Judged → List (List ℕ)
accepted_in js = map (λ j. j.report) (filter (λ j. is_accepted j.verdict) js)
