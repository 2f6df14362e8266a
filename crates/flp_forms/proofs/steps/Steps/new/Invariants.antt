use Rattle.std.proofs.Common.{◌≡◌, map}
use Rattle.std.specs.List.{range_with_len}
use Rattle.flp_forms.specs.declared.step.Step.TheVariants.{Joint}
use Rattle.flp_forms.proofs.steps.Steps.new.Given as goal

abbrev pub invariant-loop-word : goal.invariant-loop-word
invariant-loop-word l = l.items.items ≡ map (λ word. Joint word) (range_with_len 0 l.word)
