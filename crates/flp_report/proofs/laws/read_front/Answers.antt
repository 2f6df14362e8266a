use Rattle.flp_report.proofs.BatchHeadLemmas.{length-head, header_of-more}
use Rattle.flp_report.proofs.BackLemmas.{IsFront-read, claims_of-more}
use Rattle.flp_report.proofs.laws.read_front.Goals as goal

pub returns-clause-size : goal.returns-clause-size
returns-clause-size c = length-head

pub returns-clause-whole : goal.returns-clause-whole
returns-clause-whole c = IsFront-read

pub returns-clause-header : goal.returns-clause-header
returns-clause-header c = header_of-more

pub returns-clause-claims : goal.returns-clause-claims
returns-clause-claims c = claims_of-more
