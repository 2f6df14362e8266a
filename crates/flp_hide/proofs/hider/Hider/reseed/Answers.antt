use Rattle.std.proofs.Common.{ℕ, ◌≡◌, ◌∙◌, List, ap, ap₂, replicate, subst, sym}
use Rattle.flp_hide.specs.Wires.{all_wires_at, all_seeds_between, no_seeds}
use Rattle.flp_hide.specs.Laws.{Match}
use Rattle.flp_hide.proofs.VerifierLemmas.{read-wires}
use Rattle.flp_hide.proofs.hider.Hider.reseed.Goals as goal

pub returns-clause-seeds : goal.returns-clause-seeds
returns-clause-seeds c =
    let body = c.args.plan.now.circuit in
    let zeros : c.fill.new.self ≡ no_seeds body = c.fill.ensures.after (λ y is. is) ∙ ap (λ (n : ℕ). replicate n 0) c.requires.out in
    let given = read-wires body c.args.from.now c.args.joint.now c.args.seeds.now c.args.words.now c.make.new.self.verifier c.write_wires.new.out
    c.is_bounded.ensures (record { words = c.words.ensures; size = c.requires.seeds }) c.in_ok-make.ensures.honest c.write_wires.ensures in
    let bare = read-wires body c.args.to.now c.args.joint.now c.fill.new.self c.args.words.now c.make-2.new.self.verifier c.write_wires-2.new.out
    c.is_bounded.ensures (record { words = c.words-2.ensures; size = c.fill.ensures.len ∙ c.requires.out }) c.in_ok-make-2.ensures.honest c.write_wires-2.ensures in
    c.write_seeds.ensures
    ∙ ap₂ (λ (l h : List ℕ). all_seeds_between body c.args.words.now l h)
    (bare ∙ ap (λ (s : List ℕ). all_wires_at body c.args.to.now c.args.joint.now s c.args.words.now) zeros)
    given

pub returns-clause-matching : goal.returns-clause-matching
returns-clause-matching c =
    subst (λ (out : List ℕ). Match c.args.plan.now.circuit c.args.from.now c.args.to.now c.args.joint.now c.args.words.now c.args.seeds.now out)
    (sym (returns-clause-seeds c))
    (c.verifiers.ensures.matching c.args.from.now c.args.to.now c.args.joint.now c.args.words.now c.args.seeds.now c.in_ok-make.ensures.outside
    (record { words = c.words.ensures; size = c.requires.seeds }))
