use Rattle.flp_io.proofs.ReadLemmas.{ReadsFrom-as}
use Rattle.flp_report.proofs.job_reader.Reader+S+JobShape.end.Goals as goal

pub returns-in-Some-clause-source : goal.returns-in-Some-clause-source
returns-in-Some-clause-source g c =
    ReadsFrom-as c.in-Ok.ensures.source (λ few. few) (λ is. let no : ⊥ = cc in absurd no) (λ on. on)

pub returns-in-None-clause-source : goal.returns-in-None-clause-source
returns-in-None-clause-source g c =
    ReadsFrom-as c.in-Ok.ensures.source (λ few. few) (λ is. let no : ⊥ = cc in absurd no) (λ on. on)
