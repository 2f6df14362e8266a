use Rattle.flp_verify.proofs.laws.honest.Goals as goal

pub returns : goal.returns
returns c = λ text params program loaded. c.honest.ensures program (c.loaded_is_bounded.ensures text params program loaded)
