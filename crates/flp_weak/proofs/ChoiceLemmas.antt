-- Choices for the weak words of several proofs.
use Rattle.std.proofs.lemmas.List.Elements.{All-weaker}
use Rattle.flp_count.specs.Count.{AtMost}
use Rattle.flp_count.proofs.ChoiceLemmas.{choices_are_few}
use Rattle.flp_syntax.specs.Tree.{Program}
use Rattle.flp_weak.specs.Laws.{WeakIsBounded, FewChoices, IsFalse, AcceptsChoice}

pub few_choices : (body : Program) → WeakIsBounded body → FewChoices body
few_choices body bounded x proofs are_false =
    choices_are_few (AcceptsChoice body x) (λ given. given.weak.bound) proofs
    (All-weaker (IsFalse body x) (λ given. AtMost given.weak.bound (AcceptsChoice body x given))
    (λ given is_false. bounded x given.joint given.proof given.weak is_false.proof is_false.weak given.query is_false.query) proofs are_false)
