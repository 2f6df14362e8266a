use Rattle.std.proofs.Common.{sym, ◌∙◌, arith}
use Rattle.flp_words.proofs.NumberLemmas.{number_in-refused}
use Rattle.flp_words.proofs.number.number_in.Goals as goal

pub returns-in_default-3-clause-number : goal.returns-in_default-3-clause-number
returns-in_default-3-clause-number c =
    number_in-refused c.args.least c.args.most c.args.text.now c.in_default.field-0 (omega arith) (sym c.has_number_form.ensures ∙ c.if-not-has_number_form.false) c.in_default.ensures.value.0
