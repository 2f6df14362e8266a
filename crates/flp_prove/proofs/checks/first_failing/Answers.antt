use Rattle.std.proofs.Common.{◌≡◌, ℕ, List, Some, sym, subst, ◌∙◌}
use Rattle.std.specs.List.{slice_get}
use Rattle.flp_meaning.specs.Circuit.{checks_of, direct}
use Rattle.flp_prove.proofs.CheckLemmas.{failing-more, failing-here, checks-own}
use Rattle.flp_prove.proofs.checks.first_failing.Goals as goal

pub returns-then-ne : goal.returns-then-ne
returns-then-ne c = λ joint publics answers.
    let circuit = c.args.plan.now.circuit in
    let checks : List ℕ = checks_of circuit (direct circuit c.args.x.now joint) in
    let at : slice_get checks c.loop-index.index ≡ Some c.check.result =
    subst (λ (l : List ℕ). slice_get l c.loop-index.index ≡ Some c.check.result) (checks-own circuit c.args.x.now joint c.args.answers.now c.answered_is_direct.ensures.own answers) (c.check.ensures joint publics) in
    sym (c.loop-index.invariant joint publics answers ∙ failing-here c.loop-index.index c.check.result checks at (sym c.ne.ensures ∙ c.if-ne.true))

pub loop-index-preserved : goal.loop-index-preserved
loop-index-preserved c = λ joint publics answers.
    let circuit = c.args.plan.now.circuit in
    let checks : List ℕ = checks_of circuit (direct circuit c.args.x.now joint) in
    let at : slice_get checks c.loop-index.index ≡ Some c.check.result =
    subst (λ (l : List ℕ). slice_get l c.loop-index.index ≡ Some c.check.result) (checks-own circuit c.args.x.now joint c.args.answers.now c.answered_is_direct.ensures.own answers) (c.check.ensures joint publics) in
    c.loop-index.invariant joint publics answers ∙ failing-more c.loop-index.index c.check.result checks at (sym c.ne.ensures ∙ c.if-ne.false)
