use Rattle.flp_check.proofs.Finding.{finds_more}
use Rattle.flp_check.proofs.text.first_flaw.Goals as goal

pub returns : goal.returns
returns c =
    let gadgets = rw c.as_slice.ensures at c.declarations.ensures in
    let stmts = rw (c.as_slice.ensures, c.as_slice-2.ensures) at c.in_ok-stmts.ensures in
    (finds_more gadgets stmts).is
