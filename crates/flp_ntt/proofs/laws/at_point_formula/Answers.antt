use Rattle.flp_ntt.proofs.FormulaLemmas.{inverse_is_inverse, at_point_formula}
use Rattle.flp_ntt.proofs.laws.at_point_formula.Goals as goal

pub returns-clause-inverses : goal.returns-clause-inverses
returns-clause-inverses c = inverse_is_inverse

pub returns-clause-value : goal.returns-clause-value
returns-clause-value c = at_point_formula
