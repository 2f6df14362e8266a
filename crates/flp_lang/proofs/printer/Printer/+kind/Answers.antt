use Rattle.std.proofs.Common.{rules, ◌≡◌, ap, ◌∙◌}
use Rattle.flp_syntax.specs.Tree.{psum_kind}
use Rattle.flp_syntax.specs.View.{kind_of, kind_of_Psum}
use Rattle.flp_lang.proofs.printer.Printer.+kind.Goals as goal

pub returns-in_ok-number-in-Psum : goal.returns-in_ok-number-in-Psum
returns-in_ok-number-in-Psum t c =
    let e : kind_of c.args.kind.now ≡ psum_kind c.in-Psum.count (kind_of c.in-Psum.inner.value) = ap kind_of c.in-Psum.is ∙ kind_of_Psum _ _ in
    rw e (search rules)
