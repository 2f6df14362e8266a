use Rattle.flp_tally.proofs.StepLaws.{splits, joins, claims, adds, notes, peeks, learns}
use Rattle.flp_tally.proofs.laws.steps_are_kinds.Goals as goal

pub returns-clause-splits : goal.returns-clause-splits
returns-clause-splits c = splits

pub returns-clause-joins : goal.returns-clause-joins
returns-clause-joins c = joins

pub returns-clause-claims : goal.returns-clause-claims
returns-clause-claims c = claims

pub returns-clause-adds : goal.returns-clause-adds
returns-clause-adds c = adds

pub returns-clause-notes : goal.returns-clause-notes
returns-clause-notes c = notes

pub returns-clause-peeks : goal.returns-clause-peeks
returns-clause-peeks c = peeks

pub returns-clause-learns : goal.returns-clause-learns
returns-clause-learns c = learns
