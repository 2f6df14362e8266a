use Rattle.std.proofs.Common.{◌∙◌, sym}
use Rattle.flp_lang.specs.Ahead.{done}
use Rattle.flp_lang.proofs.Parsing.{all_read, more_left}
use Rattle.flp_lang.proofs.text.parse_tokens.Goals as goal

pub returns-clause-circuit : goal.returns-clause-circuit
returns-clause-circuit c = all_read _ _ _ _ _ _ c.new-parser.ensures.first c.new-parser.ensures.all (c.in_ok-circuit.ensures done) (sym c.is_empty.ensures ∙ c.if-not-is_empty.false)

pub returns-then-not-is_empty-clause-fault : goal.returns-then-not-is_empty-clause-fault
returns-then-not-is_empty-clause-fault c = more_left _ _ _ _ _ _ c.new-parser.ensures.first c.new-parser.ensures.all (c.in_ok-circuit.ensures done) (sym c.is_empty.ensures ∙ c.if-not-is_empty.true)
