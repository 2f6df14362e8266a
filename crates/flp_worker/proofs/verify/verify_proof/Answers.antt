use Rattle.std.proofs.Common.{ℕ, ◌≡◌, List, ap, ap₂, sym, subst, ◌∙◌, rules}
use Rattle.std.specs.Prelude.{None}
use Rattle.flp_field.specs.Sums.{sum_of_parts}
use Rattle.flp_meaning.specs.Verifier.{gadget_in_domain, decides}
use Rattle.flp_query.specs.Challenge.{IsPosed}
use Rattle.flp_worker.specs.Parts.{joint_words}
use Rattle.flp_worker.specs.Verdict.{gadget_inside}
use Rattle.flp_worker.proofs.SumLemmas.{sum-decides}
use Rattle.flp_worker.proofs.verify.verify_proof.Goals as goal

pub returns-clause-holds : goal.returns-clause-holds
returns-clause-holds c =
    let outside : gadget_inside c.args.plan.now.circuit c.args.words.now.shape c.args.words.now.all.now c.args.proof ≡ None =
    ap (λ (l : List ℕ). gadget_in_domain c.args.plan.now.circuit l) (sym c.query.ensures.words) ∙ c.in_ok-pose.ensures.outside in
    c.decide.ensures
    ∙ ap (λ (l : List ℕ). decides c.args.plan.now.circuit l)
    (c.unshare.ensures ∙ ap₂ (λ (n : ℕ) (l : List ℕ). sum_of_parts c.args.words.now.shape.shares n l) c.requires.sum c.query_shares.ensures.verifiers)
    ∙ sum-decides c.args.plan.now.circuit c.args.words.now.shape c.args.words.now.all.now c.args.proof c.requires.fits c.args.words.now.whole c.requires.proof c.shares.ensures.sums outside

pub returns-clause-outside : goal.returns-clause-outside
returns-clause-outside c =
    ap (λ (l : List ℕ). gadget_in_domain c.args.plan.now.circuit l) (sym c.query.ensures.words) ∙ c.in_ok-pose.ensures.outside

pub returns-in_err-pose-clause-inside : goal.returns-in_err-pose-clause-inside
returns-in_err-pose-clause-inside c =
    let inside = ap (λ (l : List ℕ). gadget_in_domain c.args.plan.now.circuit l) (sym c.query.ensures.words) ∙ c.in_err-pose.ensures.inside in
    search rules

pub query_shares-requires-clause-posed : goal.query_shares-requires-clause-posed
query_shares-requires-clause-posed c =
    subst (λ (query : List ℕ). IsPosed c.args.plan.now (joint_words c.args.words.now.shape c.args.words.now.all.now c.args.proof) query c.args.words.now.shape.shares c.pose.new.self) c.query.ensures.words
    (subst (λ (joint : List ℕ). IsPosed c.args.plan.now joint c.query.result.now c.args.words.now.shape.shares c.pose.new.self) c.joint.ensures.words c.in_ok-pose.ensures.posed)
