use Rattle.std.proofs.Common.{◌++◌, refl, codes}
use Rattle.flp_report.specs.Record.{record_of, nonce_in}
use Rattle.flp_verdict.specs.Text.{line_head, spelled}
use Rattle.flp_known.proofs.PutsLemmas.{Puts-after, Puts-short}
use Rattle.flp_verify.proofs.lines.put_verdict_line.Goals as goal

pub returns-in_err-put_nonce : goal.returns-in_err-put_nonce
returns-in_err-put_nonce g c =
    let head = line_head (nonce_in (record_of c.args.given.now)) in
    let said = spelled c.args.verdict in
    let fails = c.from_residual.ensures.0 in
    Puts-short (head ++ said) (codes "\n") (Puts-short {s = c.from_residual.result} head said (rw c.nonce.ensures at c.in_err-put_nonce.ensures) refl fails) fails fails

pub returns-in_err-put_verdict : goal.returns-in_err-put_verdict
returns-in_err-put_verdict g c =
    let head = line_head (nonce_in (record_of c.args.given.now)) in
    let said = spelled c.args.verdict in
    Puts-short (head ++ said) (codes "\n") (Puts-after head said (rw c.nonce.ensures at c.in_ok-put_nonce.ensures) refl c.in_err-put_verdict.ensures) refl c.from_residual-in_err-put_verdict.ensures.0

pub returns : goal.returns
returns g c =
    let head = line_head (nonce_in (record_of c.args.given.now)) in
    let said = spelled c.args.verdict in
    Puts-after (head ++ said) (codes "\n") (Puts-after head said (rw c.nonce.ensures at c.in_ok-put_nonce.ensures) refl c.in_ok-put_verdict.ensures) refl c.put_piece.ensures
