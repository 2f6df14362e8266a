use Rattle.std.proofs.Common.{ℕ, ◌≡◌, List, length, ap₂, ◌∙◌, arith}
use Rattle.std.proofs.lemmas.List.{with_items_is}
use Rattle.flp_meaning.specs.Verifier.{verifier_words}
use Rattle.flp_hide.proofs.VerifierLemmas.{unit-of-one}
use Rattle.flp_hide.proofs.reader.WireReader.make.Goals as goal

pub returns-clause-honest : goal.returns-clause-honest
returns-clause-honest c =
    let whole : length c.query.new.verifier ≡ c.self.inside.verifier.len = omega arith in
    with_items_is c.self.inside.verifier c.query.new.verifier whole
    ∙ c.in_ok-query.ensures.verifier
    ∙ ap₂ (λ (p : List ℕ) (u : ℕ). verifier_words c.args.plan.now.circuit c.args.x.now c.args.joint.now p c.args.words.now u)
    c.prove.ensures.proof (unit-of-one c.units.ensures)
