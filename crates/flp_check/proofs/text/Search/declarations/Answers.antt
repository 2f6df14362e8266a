use Rattle.flp_syntax.specs.View.{declaration_of}
use Rattle.flp_syntax.proofs.Rests.{rest_next, front_next}
use Rattle.flp_check.proofs.Finding.{finds_more}
use Rattle.flp_check.proofs.text.Search.declarations.Goals as goal

pub loop-number-preserved : goal.loop-number-preserved
loop-number-preserved c = λ after h.
    let more = rw (front_next declaration_of _ _ c.decl-item.result c.loop-number-test.true c.decl-item.is) at h in
    let noted = rw (c.is_some.ensures, c.gadget_number-earlier.ensures.first, c.as_slice.ensures) at c.note_name.ensures in
    c.loop-number.invariant after (rw (rest_next declaration_of _ _ c.decl-item.result c.loop-number-test.true c.decl-item.is) (finds_more noted more))
