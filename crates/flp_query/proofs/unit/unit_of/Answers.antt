use Rattle.std.proofs.Common.{subst, arith}
use Rattle.flp_field.specs.Word.{IsWord}
use Rattle.flp_query.proofs.UnitLemmas.{unit-from_product}
use Rattle.flp_query.proofs.unit.unit_of.Goals as goal

pub returns : goal.returns
returns c =
    let word : IsWord c.inverse_of-unit.result = subst IsWord c.value-word.ensures.same c.value-word.ensures.below in
    unit-from_product c.args.shares c.inverse_of-unit.result c.requires.some (omega arith) word c.inverse_of-unit.ensures
