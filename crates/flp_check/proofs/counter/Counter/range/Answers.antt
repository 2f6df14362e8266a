use Rattle.flp_check.proofs.Walking.{handed_on, reaches_more, stops_front, stops_back}
use Rattle.flp_check.proofs.counter.Counter.range.Goals as goal

pub returns-in_err-from-clause-walked : goal.returns-in_err-from-clause-walked
returns-in_err-from-clause-walked c = handed_on _ _ c.from_residual.ensures (stops_front _ c.in_err-from.ensures.walked)

pub returns-in_err-to-clause-walked : goal.returns-in_err-to-clause-walked
returns-in_err-to-clause-walked c = handed_on _ _ c.from_residual-in_err-to.ensures (stops_back c.in_ok-from.ensures.walked c.in_err-to.ensures.walked)

pub returns-clause-walked : goal.returns-clause-walked
returns-clause-walked c = reaches_more c.in_ok-from.ensures.walked c.in_ok-to.ensures.walked
