use Rattle.std.proofs.Common.{sym, subst}
use Rattle.flp_syntax.specs.Tokens.{IsLexed}
use Rattle.flp_lang.proofs.Parsing.{parsed_ok, parsed_err}
use Rattle.flp_lang.proofs.WellFormed.{parsed_well}
use Rattle.std.proofs.Common.{◌≤◌, length}
use Rattle.flp_lang.proofs.text.parse.Goals as goal

pub returns-clause-circuit : goal.returns-clause-circuit
returns-clause-circuit c = parsed_ok c.args.text.now c.as_slice.result.now _ (subst (IsLexed c.args.text.now) (sym c.as_slice.ensures.value) c.in_ok-tokens.ensures.tokens) c.parse_tokens.ensures.circuit

pub returns-clause-fault : goal.returns-clause-fault
returns-clause-fault c = parsed_err c.args.text.now c.as_slice.result.now _ (subst (IsLexed c.args.text.now) (sym c.as_slice.ensures.value) c.in_ok-tokens.ensures.tokens) c.parse_tokens.ensures.fault

pub returns-clause-well_formed : goal.returns-clause-well_formed
returns-clause-well_formed c =
    parsed_well c.args.text.now c.as_slice.result.now _ (subst (IsLexed c.args.text.now) (sym c.as_slice.ensures.value) c.in_ok-tokens.ensures.tokens)
    (subst (λ ts. length ts ≤ length c.args.text.now) (sym c.as_slice.ensures.value) c.in_ok-tokens.ensures.few) c.parse_tokens.ensures.circuit
