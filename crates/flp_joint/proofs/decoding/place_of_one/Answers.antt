use Rattle.std.proofs.Common.{Option, ℕ, ap, ◌∙◌}
use Rattle.std.specs.Option.{unwrap_or}
use Rattle.flp_joint.proofs.PlaceLemmas.{found}
use Rattle.flp_joint.proofs.decoding.place_of_one.Goals as goal

pub returns-clause-below : goal.returns-clause-below
returns-clause-below c =
    (found c.args.x.now c.unwrap_or.result c.requires.bits c.requires.one (c.unwrap_or.ensures ∙ ap (λ (o : Option ℕ). unwrap_or o 0) c.first_one.ensures)).0

pub returns-clause-place : goal.returns-clause-place
returns-clause-place c =
    (found c.args.x.now c.unwrap_or.result c.requires.bits c.requires.one (c.unwrap_or.ensures ∙ ap (λ (o : Option ℕ). unwrap_or o 0) c.first_one.ensures)).1
