use Rattle.std.proofs.Common.{arith, rules}
use Rattle.flp_syntax.specs.declared.syntax.KindText.{the_lemmas}
use Rattle.flp_syntax.specs.View.{kind_of, kind_of_Psum}
use Rattle.flp_meaning.specs.Circuit.{kind_tree}
use Rattle.flp_plan.proofs.KindLemmas.{kind_under}
use Rattle.flp_plan.proofs.kinds.+declared_inputs.Goals as goal

pub declared_inputs-each-requires : goal.declared_inputs-each-requires
declared_inputs-each-requires t c = (
  search (rules, the_lemmas),
  rw c.deref.ensures (kind_under (kind_tree (kind_of c.in-Psum.inner.value)) c.in-Psum.count (rw (c.in-Psum.is, kind_of_Psum) at c.requires)).1,
)

pub overflow_cast-result : goal.overflow_cast-result
overflow_cast-result t c =
    let under = kind_under (kind_tree (kind_of c.in-Psum.inner.value)) c.in-Psum.count (rw (c.in-Psum.is, kind_of_Psum) at c.requires) in
    omega (arith, under.0)
