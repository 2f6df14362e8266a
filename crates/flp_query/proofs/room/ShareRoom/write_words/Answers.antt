use Rattle.std.proofs.Common.{ℕ, ◌∙◌, List, ◌∷◌, length, ap, ap₂, arith}
use Rattle.std.proofs.lemmas.List.FromFn.{length-map-range_with_len}
use Rattle.flp_meaning.specs.Circuit.{checks_of, with_answers}
use Rattle.flp_meaning.specs.Gadgets.{call_count}
use Rattle.flp_meaning.specs.Proof.{answer_in}
use Rattle.flp_meaning.specs.Verifier.{check_of}
use Rattle.flp_plan.proofs.SizeLemmas.{calls-total}
use Rattle.flp_query.proofs.VerifierLemmas.{joined}
use Rattle.flp_query.proofs.room.ShareRoom.write_words.Goals as goal

pub write_answers-requires-clause-answers : goal.write_answers-requires-clause-answers
write_answers-requires-clause-answers c =
    c.deref_mut-answers.ensures.len
    ∙ c.requires.room.for_answers
    ∙ calls-total c.args.plan.now.circuit c.is_within_limits.ensures

pub combined_check-requires-clause-answers : goal.combined_check-requires-clause-answers
combined_check-requires-clause-answers c =
    ap (λ (l : List ℕ). length l) c.write_answers.ensures
    ∙ length-map-range_with_len (answer_in c.args.plan.now.circuit c.args.proof.now) 0 (call_count c.args.plan.now.circuit)

pub returns-clause-words : goal.returns-clause-words
returns-clause-words c joint same all =
    joined c.args.verifier.now c.write_parts.new.parts c.combined_check.result (omega (arith, c.requires.verifier))
    ∙ ap₂ (λ (v : ℕ) (l : List ℕ). v ∷ l)
    (c.combined_check.ensures joint same
    ∙ ap (λ (a : List ℕ). check_of c.args.plan.now.circuit (checks_of c.args.plan.now.circuit (with_answers c.args.x.now joint c.args.unit a)) c.args.question.now.words.now)
    c.write_answers.ensures)
    (c.write_parts.ensures joint same all)
