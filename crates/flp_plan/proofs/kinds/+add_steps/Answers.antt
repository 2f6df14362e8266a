use Rattle.std.proofs.Common.{arith, rules}
use Rattle.flp_syntax.specs.declared.syntax.KindText.{the_lemmas}
use Rattle.flp_syntax.specs.View.{kind_of, kind_of_Psum}
use Rattle.flp_meaning.specs.Circuit.{kind_tree}
use Rattle.flp_plan.proofs.KindLemmas.{kind_under, steps_under}
use Rattle.flp_plan.proofs.kinds.+add_steps.Goals as goal

pub overflow_cast-count : goal.overflow_cast-count
overflow_cast-count t c =
    let under = kind_under (kind_tree (kind_of c.in-Psum.inner.value)) c.in-Psum.count (rw (c.in-Psum.is, kind_of_Psum) at c.requires) in
    omega (arith, under.0)

pub add_steps-requires : goal.add_steps-requires
add_steps-requires t c = (
  search (rules, the_lemmas),
  rw c.deref.ensures (kind_under (kind_tree (kind_of c.in-Psum.inner.value)) c.in-Psum.count (rw (c.in-Psum.is, kind_of_Psum) at c.requires)).1,
)

pub returns-in_ok-add_steps-in-Psum : goal.returns-in_ok-add_steps-in-Psum
returns-in_ok-add_steps-in-Psum t c =
    rw (c.in-Psum.is, kind_of_Psum)
    (steps_under c.args.steps.now.items c.push-in-Psum.new.self.items c.add_steps.new.steps.items (kind_tree (kind_of c.in-Psum.inner.value)) c.in-Psum.count
    c.in_ok-push-in-Psum.ensures.items (rw c.deref.ensures at c.in_ok-add_steps-in-Psum.ensures))
