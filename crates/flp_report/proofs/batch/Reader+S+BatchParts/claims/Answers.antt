use Rattle.std.proofs.Common.{◌≡◌, Some, refl}
use Rattle.flp_io.proofs.ReadLemmas.{ReadsFrom-as}
use Rattle.flp_report.specs.declared.fault.BatchFault.TheVariants.{ClaimsOrder}
use Rattle.flp_report.specs.Batch.{claims_fault}
use Rattle.flp_report.proofs.KnownLemmas.{IfSome-consumed}
use Rattle.flp_report.proofs.ClaimsLemmas.{claims_fault-order}
use Rattle.flp_report.proofs.batch.Reader+S+BatchParts.claims.Goals as goal

pub returns-in-Err-from_vec-clause-fault : goal.returns-in-Err-from_vec-clause-fault
returns-in-Err-from_vec-clause-fault g c =
    let r = c.args.self.now in
    let bytes = c.in-Ok.bytes.items in
    let number = c.in-Err-from_vec.number in
    IfSome-consumed (λ rest. claims_fault r.place r.parts.claims rest ≡ Some (ClaimsOrder number)) _ _ bytes c.in-Ok.ensures.bytes
    (λ rest. claims_fault-order r.place r.parts.claims bytes rest number c.in-Ok.ensures.size c.in-Err-from_vec.ensures.fall)

pub returns-in-Err-from_vec-clause-source : goal.returns-in-Err-from_vec-clause-source
returns-in-Err-from_vec-clause-source g c =
    ReadsFrom-as c.in-Ok.ensures.source (λ few. few) (λ is. let no : ⊥ = cc in absurd no) (λ ok. let no : ⊥ = cc in absurd no)

pub returns-clause-source : goal.returns-clause-source
returns-clause-source g c =
    ReadsFrom-as c.in-Ok.ensures.source (λ few. few) (λ is. let no : ⊥ = cc in absurd no) (λ ok. refl)
