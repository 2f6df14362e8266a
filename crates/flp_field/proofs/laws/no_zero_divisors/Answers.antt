use Rattle.flp_field.proofs.Order.{no_zero_divisors}
use Rattle.flp_field.proofs.laws.no_zero_divisors.Goals as goal

pub returns : goal.returns
returns c = no_zero_divisors
