use Rattle.std.proofs.Common.{◌++◌, refl}
use Rattle.flp_known.specs.Known.{known_in}
use Rattle.flp_verdict.specs.Release.{count_line, release_line, claims_out}
use Rattle.flp_verify.specs.Counted.{withheld_by}
use Rattle.flp_known.proofs.PutsLemmas.{Puts-after, Puts-short}
use Rattle.flp_verify.proofs.ending.put_ending.Goals as goal

pub returns-in_err-put_number_line : goal.returns-in_err-put_number_line
returns-in_err-put_number_line g c =
    let count = count_line c.args.ending.now.accepted in
    let release = release_line (withheld_by c.args.ending.now.end) c.args.ending.now.aggregate.now in
    Puts-short (count ++ release) (claims_out c.args.ending.now.claims (known_in c.args.ending.now.known.now))
    (Puts-short {s = c.from_residual.result} count release c.in_err-put_number_line.ensures refl c.from_residual.ensures.0) c.from_residual.ensures.0 c.from_residual.ensures.0

pub returns-in_err-put_release : goal.returns-in_err-put_release
returns-in_err-put_release g c =
    let count = count_line c.args.ending.now.accepted in
    let release = release_line (withheld_by c.args.ending.now.end) c.args.ending.now.aggregate.now in
    Puts-short (count ++ release) (claims_out c.args.ending.now.claims (known_in c.args.ending.now.known.now))
    (Puts-after count release c.in_ok-put_number_line.ensures refl c.in_err-put_release.ensures) refl c.from_residual-in_err-put_release.ensures.0

pub returns : goal.returns
returns g c =
    let count = count_line c.args.ending.now.accepted in
    let release = release_line (withheld_by c.args.ending.now.end) c.args.ending.now.aggregate.now in
    Puts-after (count ++ release) (claims_out c.args.ending.now.claims (known_in c.args.ending.now.known.now))
    (Puts-after count release c.in_ok-put_number_line.ensures refl c.in_ok-put_release.ensures) refl c.put_claims_out.ensures
