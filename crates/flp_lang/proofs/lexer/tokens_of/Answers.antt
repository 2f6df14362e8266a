use Rattle.std.proofs.Common.{arith, ◌∙◌, length, subst, sym, ap}
use Rattle.flp_syntax.specs.Tokens.{Reads, nothing_read}
use Rattle.flp_lang.proofs.Readings.{reads-step, few-step}
use Rattle.flp_lang.proofs.lexer.tokens_of.Goals as goal

pub loop-rest-init : goal.loop-rest-init
loop-rest-init c = record { read = subst (Reads c.args.text.now c.args.text.now) (sym c.new-tokens.ensures.items) nothing_read; few = omega (arith, ap length c.new-tokens.ensures.items) }

pub loop-rest-preserved : goal.loop-rest-preserved
loop-rest-preserved c =
    let rest = c.loop-rest.rest.now in
    let piece = sym c.in_ok-token.ensures.piece ∙ c.in-Some.is in
    let pushed = c.in_ok-push_some-in-Some.ensures.pushed in
    let sized = rw c.in-Some.is at c.in_ok-token.ensures.sized in
    record {
      read = reads-step c.args.text.now rest _ _ c.in-Some.token c.in-Some.length c.loop-rest.invariant.read piece pushed;
      few = few-step rest _ _ c.in-Some.token c.in-Some.length _ c.loop-rest.invariant.few pushed sized.0 sized.1;
    }
