use Rattle.std.proofs.Common.{All, List, sym, subst, arith}
use Rattle.std.proofs.lemmas.List.Elements.{All-push}
use Rattle.flp_round.specs.declared.verifier.Verifier.{Verifier}
use Rattle.flp_round.specs.Verifier.{IsFresh}
use Rattle.flp_round.proofs.crew.Crew.new.Goals as goal

pub loop-preserved : goal.loop-preserved
loop-preserved c =
    let len = c.in_ok-push.ensures.len in let before = c.loop.invariant.0 in (
      omega arith,
      subst (λ (l : List Verifier). All (IsFresh c.args.plan.now c.args.shape.now c.args.room) l) (sym c.in_ok-push.ensures.items)
          (All-push (IsFresh c.args.plan.now c.args.shape.now c.args.room) c.loop.verifiers.items c.in_ok-new.field-0 c.loop.invariant.1 c.in_ok-new.ensures),
    )
