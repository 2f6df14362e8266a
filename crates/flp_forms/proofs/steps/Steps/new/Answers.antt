use Rattle.std.proofs.Common.{ℕ, List, [], ◌∷◌, ◌++◌, ◌∙◌, ap, sym, arith, map}
use Rattle.std.specs.List.{range_with_len}
use Rattle.std.proofs.lemmas.List.FromFn.{map-range_with_len_more}
use Rattle.flp_forms.specs.declared.step.Step.{Step}
use Rattle.flp_forms.specs.declared.step.Step.TheVariants.{Joint}
use Rattle.flp_forms.proofs.LineLemmas.{joint_words_straight}
use Rattle.flp_forms.proofs.steps.Steps.new.Goals as goal

pub loop-word-preserved : goal.loop-word-preserved
loop-word-preserved c =
    c.in_ok-push.ensures.items
    ∙ ap (λ (steps : List Step). steps ++ Joint c.loop-word.word ∷ []) c.loop-word.invariant
    ∙ sym (map-range_with_len_more (λ (k : ℕ). Joint k) 0 c.loop-word.word c.loop-word.word (omega arith))

pub invariant_of-result : goal.invariant_of-result
invariant_of-result c =
    joint_words_straight c.args.joint c.loop-word.word c.loop-word.items.items (omega arith) (omega arith)
    c.loop-word.invariant

pub returns-clause-steps : goal.returns-clause-steps
returns-clause-steps c =
    c.loop-word.invariant ∙ ap (λ (n : ℕ). map (λ (word : ℕ). Joint word) (range_with_len 0 n)) (omega arith)
